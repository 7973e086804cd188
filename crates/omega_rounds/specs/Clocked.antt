-- A world in which schedulers commit when their time has come, and the agenda that says when.
use Rattle.std.specs.Prelude.{◌≡◌, ◌+◌, ◌<◌, ◌==◌, ℕ, List, [], ◌∷◌, ◌++◌, Option, Some, None, length, slice_get, if◌then◌else◌}
use Rattle.omega_model.specs.Policy.{schedulers}
use Rattle.omega_model.specs.World.{StepAnswer, World}
use Rattle.omega_model.specs.World.StepAnswer.{Committed}
use Rattle.omega_model.specs.declared.entries.Entry.{Entry}
use Rattle.omega_model.specs.declared.rows.Row.{Row}
use Rattle.omega_model.specs.declared.rows.Round.{Round}
use Rattle.omega_model.specs.declared.rows.TraceTables.{TraceTables}
use Rattle.omega_model.specs.declared.settings.Settings.{Settings}
use Rattle.omega_model.specs.declared.wishes.Request.{Request}
use Rattle.omega_laws.specs.NextCommit.{HasNoWork, WorksOn}
use Rattle.omega_laws.specs.Simulated.{rows_place}
use Rattle.omega_laws.specs.Ticking.{Ticking}
use Rattle.omega_laws.specs.VirtualTime.{Timed, clock_of, decision, next_time, sees_in_time, timed_commits}

-- a round in the run of a trace: the rows and the history before it, the round itself, the time at which it
-- begins, and the times of the commits before it
pub record TimedRound : Type 0 where
  pub trace : TraceTables
  pub rows : List Row
  pub start : List Entry
  pub round : Round
  pub base : ℕ
  pub earlier : List Timed

-- the rows up to the round's end
abbrev pub all_rows : TimedRound → List Row
all_rows timed = timed.rows ++ timed.round.rows

-- where its rows end in the history
abbrev pub place_of : TimedRound → ℕ
place_of timed = rows_place timed.trace timed.rows timed.start timed.round

-- a scheduler has not synced, and is to sync now: by the clock it sees the whole history at this time
pub record MaySync (settings : Settings) (timed : TimedRound) (world : World) (now scheduler : ℕ) : Type 0 where
  pub synced : world.synced scheduler ≡ None
  pub sees : sees_in_time (place_of timed) world.history scheduler ≡ length world.history
  pub time : (clock_of settings timed.trace (all_rows timed) (place_of timed) timed.base world.history).synced scheduler ≡ now

-- a scheduler has synced, and the agenda has the time of its next commit
pub record IsSet (settings : Settings) (timed : TimedRound) (world : World) (agenda : List (Option ℕ)) (scheduler : ℕ) : Type 0 where
  pub synced : world.synced scheduler ≡ Some (sees_in_time (place_of timed) world.history scheduler)
  pub time : slice_get agenda scheduler ≡ Some (Some (next_time settings timed.trace (all_rows timed) (place_of timed) timed.base world.history scheduler))

-- a round goes by the clock: its commits stand in order of time; some schedulers are to sync now, and of the
-- others the agenda has the next commits of those that have work, and no time of the rest
pub record Clocked (settings : Settings) (timed : TimedRound) (world : World) (agenda : List (Option ℕ)) (AreToSync : ℕ → Type 0) (now : ℕ) : Type 0 where
  pub ticking : Ticking settings timed.trace timed.rows timed.start timed.round timed.base world.history
  pub count : length agenda ≡ schedulers settings
  pub waits : (scheduler : ℕ) → scheduler < schedulers settings → AreToSync scheduler → MaySync settings timed world now scheduler
  pub works : (scheduler : ℕ) → scheduler < schedulers settings → (AreToSync scheduler → ⊥)
      → (request : Request) → WorksOn settings timed.trace (all_rows timed) (place_of timed) world.history scheduler request
      → IsSet settings timed world agenda scheduler
  pub idle : (scheduler : ℕ) → scheduler < schedulers settings → (AreToSync scheduler → ⊥)
      → HasNoWork settings timed.trace (all_rows timed) (place_of timed) world.history scheduler
      → slice_get agenda scheduler ≡ Some None

-- when a scheduler commits next that syncs now with so many wishes of its request left, if there are any
abbrev pub next_at : Settings → ℕ → ℕ → ℕ → Option ℕ
next_at settings scheduler wishes now = if wishes == 0 then None else Some (now + decision settings scheduler wishes)

-- a scheduler is due at this time: it works on a request, and the agenda has it so
pub record IsDueAt (settings : Settings) (timed : TimedRound) (world : World) (agenda : List (Option ℕ)) (scheduler time : ℕ) : Type 0 where
  pub request : Request
  pub works : WorksOn settings timed.trace (all_rows timed) (place_of timed) world.history scheduler request
  pub is_set : IsSet settings timed world agenda scheduler
  pub time_is : time ≡ next_time settings timed.trace (all_rows timed) (place_of timed) timed.base world.history scheduler

-- the scheduler that was due has committed at this time, which is the history's next commit, and is to sync
pub record HasCommitted (settings : Settings) (timed : TimedRound) (old new : World) (agenda : List (Option ℕ)) (scheduler time : ℕ) (answer : StepAnswer) : Type 0 where
  pub committed : answer ≡ Committed (length old.history)
  pub one_more : length new.history ≡ length old.history + 1
  pub clocked : Clocked settings timed new agenda (λ other. other ≡ scheduler) time
  pub times : timed_commits settings timed.trace (all_rows timed) (place_of timed) timed.base new.history
      ≡ timed_commits settings timed.trace (all_rows timed) (place_of timed) timed.base old.history ++ record {
        place = length old.history;
        scheduler = scheduler;
        sync = (clock_of settings timed.trace (all_rows timed) (place_of timed) timed.base old.history).synced scheduler;
        time = time;
      } ∷ []
