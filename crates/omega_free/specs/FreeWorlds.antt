-- What a world by the free clock keeps, and when a moment of a run is its own.
use Rattle.std.specs.Prelude.{◌≡◌, ℕ, List, [], ◌∷◌, ◌+◌, ◌*◌, ◌-◌, length}
use Rattle.omega_model.specs.declared.entries.Entry.{Entry}
use Rattle.omega_model.specs.declared.rows.Round.{Round}
use Rattle.omega_model.specs.declared.settings.Settings.{Settings}
use Rattle.omega_laws.specs.VirtualTime.{Timed}
use Rattle.omega_feed.specs.Asked.{Asked}
use Rattle.omega_free_laws.specs.CrewLaws.{CrewInOrder}
use Rattle.omega_free_laws.specs.FreeSteps.{Moment}
use Rattle.omega_free_laws.specs.Readings.{Reading}
use Rattle.omega_free.specs.FreeWorkers.{AreWorkersNow}
use Rattle.omega_free.specs.PassDesks.{asked_at}
use Rattle.omega_free.specs.declared.worker.Worker.{Worker}

-- what a world keeps: the history, what the trace asks for, the rounds that are to come, how often there was cause for a
-- new pass, a worker for each scheduler, and the commits so far with their times
pub record FreeState : Type 0 where
  pub history : List Entry
  pub asked : Asked
  pub coming : List Round
  pub triggers : ℕ
  pub workers : List Worker
  pub times : List Timed

-- this moment is a world's
pub record StandsThere (settings : Settings) (reading : Reading) (moment : Moment) (world : FreeState) : Type 0 where
  pub history : world.history ≡ moment.past.history
  pub asked : world.asked ≡ asked_at settings reading moment.past
  pub coming : world.coming ≡ moment.coming
  pub triggers_are : world.triggers ≡ moment.past.triggers
  pub workers : AreWorkersNow settings reading.trace moment.past.history moment.crew world.workers
  pub times : world.times ≡ moment.times

-- it is, and the schedulers are in order there
pub record Stands (settings : Settings) (reading : Reading) (moment : Moment) (world : FreeState) : Type 0 where
  pub there : StandsThere settings reading moment world
  pub order : CrewInOrder settings reading moment

-- how many attempts are left of the passes of these workers at most, where there will have been cause for so many passes in
-- all, and a pass has so many attempts at most
abbrev pub attempts_of_workers : Settings → ℕ → ℕ → List Worker → ℕ
attempts_of_workers settings all pass [] = 0
attempts_of_workers settings all pass (worker ∷ workers) =
    (length worker.desk.requests * settings.tries - worker.desk.taken + (all - worker.begun) * pass) + attempts_of_workers settings all pass workers

-- how many steps are left in a world at most, where so many tasks at most will still end of themselves
abbrev pub steps_left : Settings → ℕ → FreeState → ℕ
steps_left settings left world =
    (length world.coming + left)
    + attempts_of_workers settings (world.triggers + (length world.coming + left)) (length world.asked.jobs * settings.tries) world.workers
