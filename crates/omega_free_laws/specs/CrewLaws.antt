-- What holds of the schedulers at each moment of a run by the free clock.
use Rattle.std.specs.List.{range_with_len, AllByRecursion as Each}
use Rattle.std.specs.Prelude.{◌≡◌, ℕ, true, List, ◌∷◌, Some, ◌+◌, ◌≤◌, ◌==◌, length, map, take}
use Rattle.omega_model.specs.Policy.{schedulers}
use Rattle.omega_model.specs.Routing.{scheduler_of}
use Rattle.omega_model.specs.Wanted.{WantedTask}
use Rattle.omega_model.specs.Work.{commits_of, planned}
use Rattle.omega_model.specs.declared.entries.Entry.{Entry}
use Rattle.omega_model.specs.declared.rows.TraceTables.{TraceTables}
use Rattle.omega_model.specs.declared.settings.Settings.{Settings}
use Rattle.omega_model.specs.declared.wishes.Request.{Request}
use Rattle.omega_laws.specs.VirtualTime.{decision}
use Rattle.omega_free_laws.specs.FreeLaws.{IsWishOf}
use Rattle.omega_free_laws.specs.FreeSteps.{DueCommit, Moment}
use Rattle.omega_free_laws.specs.Passes.{Attempt, Scheduler}
use Rattle.omega_free_laws.specs.Readings.{Reading}
use Rattle.omega_free_laws.specs.StillWanted.{wanted_wishes}

-- an attempt is on the first request that its scheduler has left: the plan for some of its wishes, those that were wanted, on
-- what was seen, from the start that the attempt draws; and its scheduler has decided once the time for so many has gone by
pub record PlansFirst (settings : Settings) (history : List Entry) (scheduler : Scheduler) (attempt : Attempt) : Type 0 where
  pub request : Request
  pub rest : List Request
  pub first : scheduler.left.requests ≡ request ∷ rest
  pub job : attempt.job ≡ request.job
  pub there : attempt.seen ≤ length history
  pub asked : List WantedTask
  pub claims : attempt.claims
      ≡ planned settings scheduler.number (commits_of scheduler.number history) (take attempt.seen history) (wanted_wishes asked request)
  pub decided : attempt.due ≡ attempt.sync + decision settings scheduler.number (length (wanted_wishes asked request))

-- a request for a job of a scheduler, by wishes of the trace
pub record IsOwnRequest (settings : Settings) (trace : TraceTables) (scheduler : ℕ) (request : Request) : Type 0 where
  pub routed : scheduler_of settings trace request.job ≡ scheduler
  pub wished : Each (IsWishOf trace) request.wishes

-- a scheduler has requests for jobs of its own alone left, and while it is deciding, its attempt is on the first of them
pub record IsInOrder (settings : Settings) (reading : Reading) (history : List Entry) (scheduler : Scheduler) : Type 0 where
  pub own : Each (IsOwnRequest settings reading.trace scheduler.number) scheduler.left.requests
  pub plans : (attempt : Attempt) → scheduler.attempt ≡ Some attempt → PlansFirst settings history scheduler attempt

-- the schedulers stand in order of number, from 0, and each is in order
pub record CrewInOrder (settings : Settings) (reading : Reading) (moment : Moment) : Type 0 where
  pub numbers : map (λ (scheduler : Scheduler). scheduler.number) moment.crew ≡ range_with_len 0 (schedulers settings)
  pub each : Each (IsInOrder settings reading moment.past.history) moment.crew

-- a scheduler, if it has the number of this attempt, is deciding on it
abbrev pub IsOnIt : DueCommit → Scheduler → Type 0
IsOnIt due scheduler = (scheduler.number == due.by) ≡ true → scheduler.attempt ≡ Some due.attempt
