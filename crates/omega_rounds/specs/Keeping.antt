-- What every world keeps.
use Rattle.std.specs.Prelude.{◌≡◌, ◌⊎◌, ◌+◌, ◌≤◌, ℕ, List, [], Some, length, map, slice_get}
use Rattle.std.specs.List.{AllByRecursion as Each}
use Rattle.omega_model.specs.Policy.{schedulers}
use Rattle.omega_model.specs.Ranges.{IsInRange}
use Rattle.omega_model.specs.Stepping.{IsInRound, rows_end}
use Rattle.omega_model.specs.Wanted.{WantedTask, wanted}
use Rattle.omega_model.specs.World.{NobodySynced, World}
use Rattle.omega_model.specs.declared.entries.Entry.{Entry}
use Rattle.omega_model.specs.declared.rows.TraceTables.{TraceTables}
use Rattle.omega_model.specs.declared.settings.Settings.{Settings}
use Rattle.omega_plan.specs.Indexes.{AreIndexesOf}
use Rattle.omega_plan.specs.declared.indexes.Indexes.{Indexes}
use Rattle.omega_workers.specs.Plans.{HasPlan}
use Rattle.omega_workers.specs.Workers.{IsDeskOf, IsWorker, synced_of}
use Rattle.omega_rounds.specs.Stages.{IsInRunOf, Stage, rows_begun, synced_at}
use Rattle.omega_workers.specs.declared.worker.Worker.{Worker}

-- a world with the empty history, in which nobody has synced
pub record IsNew (world : World) : Type 0 where
  pub empty : world.history ≡ []
  pub nobody : NobodySynced world

-- what a world keeps: its history is the run of the trace up to some moment, and what each scheduler
-- has synced is within its bounds
abbrev pub LawfulWorld : Settings → TraceTables → World → Type 0
LawfulWorld settings trace world = IsNew world ⊎ IsInRound settings trace world

-- no round has begun
pub record HasNotBegun (stage : Stage) (world : World) : Type 0 where
  pub is_new : IsNew world
  pub none : stage.begun ≡ 0
  pub start : stage.opened_at ≡ 0

-- the last of so many rounds is under way, and its rows end where the stage says
pub record HasBegun (trace : TraceTables) (stage : Stage) (world : World) : Type 0 where
  pub in_round : IsInRound stage.settings trace world
  pub count : stage.begun ≡ in_round.underway.done + 1
  pub rows : stage.opened_at ≡ rows_end stage.settings trace world.history in_round.underway

-- the history of these entries, and who of these has synced
abbrev pub world_at : List Entry → List Worker → World
world_at history workers = record { history = history; synced = synced_at (map synced_of workers) }

-- what a world keeps of a trace in whose run it is: the history is the trace's run up to this stage, and
-- each desk has what its scheduler has left
pub record IsLawful (trace : TraceTables) (stage : Stage) (history : List Entry) (workers : List Worker) : Type 0 where
  pub run : HasNotBegun stage (world_at history workers) ⊎ HasBegun trace stage (world_at history workers)
  pub desks : (scheduler : ℕ) (worker : Worker) → slice_get workers scheduler ≡ Some worker
      → IsDeskOf stage.settings trace (rows_begun stage) stage.opened_at history scheduler worker.desk

-- there are indexes of a history for each of so many schedulers
pub record AreIndexesFor (schedulers : ℕ) (history : List Entry) (indexes : List Indexes) : Type 0 where
  pub count : length indexes ≡ schedulers
  pub each : Each (AreIndexesOf history) indexes

-- what every world keeps: the settings are in their ranges; the wanted tasks are those after the rows of
-- the rounds that have begun; there is a worker for each scheduler, with its plan where it has synced; the
-- world is in the run of some trace, and all is lawful for each one in whose run it is
pub record IsWorld (stage : Stage) (tasks : List WantedTask) (history : List Entry) (workers : List Worker) : Type 0 where
  pub range : IsInRange stage.settings
  pub within : stage.begun ≤ length stage.source.rounds
  pub asked : tasks ≡ wanted (rows_begun stage)
  pub count : length workers ≡ schedulers stage.settings
  pub each_worker : (scheduler : ℕ) (worker : Worker) → slice_get workers scheduler ≡ Some worker → IsWorker stage.settings history scheduler worker
  pub each_plan : (scheduler : ℕ) (worker : Worker) → slice_get workers scheduler ≡ Some worker → HasPlan history worker
  pub made : (trace : TraceTables) × IsInRunOf stage trace
  pub lawful : (trace : TraceTables) → IsInRunOf stage trace → IsLawful trace stage history workers
