-- What a scheduler does when it syncs, where it waits for no other: it goes on with its pass, or begins a new one.
use Rattle.std.specs.Prelude.{ℕ, List, [], ◌∷◌, Option, Some, None, ◌+◌, ◌&&◌, nat_lt, length, unwrap_or, if◌then◌else◌}
use Rattle.omega_model.specs.Requests.{failed, requests}
use Rattle.omega_model.specs.Wanted.{WantedTask, wanted}
use Rattle.omega_model.specs.Work.{Standing, after_entry, commits_of, fresh, is_empty, planned}
use Rattle.omega_model.specs.declared.claims.Claim.{Claim}
use Rattle.omega_model.specs.declared.entries.Entry.{Entry}
use Rattle.omega_model.specs.declared.rows.Row.{Row}
use Rattle.omega_model.specs.declared.settings.Settings.{Settings}
use Rattle.omega_model.specs.declared.wishes.Request.{Request}
use Rattle.omega_laws.specs.VirtualTime.{decision}
use Rattle.omega_free_laws.specs.Readings.{Reading}
use Rattle.omega_free_laws.specs.StillWanted.{without_unwanted, wanted_wishes}

-- the history so far, the rows so far, and how often there was cause for a new pass: rounds that opened, and tasks that
-- ended of themselves while a round was still to come
pub record Past : Type 0 where
  pub history : List Entry
  pub rows : List Row
  pub triggers : ℕ

-- an attempt on which its scheduler is deciding: its job, how many entries the scheduler had seen, its claims, when the
-- scheduler synced, and when it will have decided, both in microseconds of the trace
pub record Attempt : Type 0 where
  pub job : ℕ
  pub seen : ℕ
  pub claims : List Claim
  pub sync : ℕ
  pub due : ℕ

-- a scheduler: its number, how often there had been cause for a new pass when its pass began, what it has left of that
-- pass, and its attempt, while it is deciding
pub record Scheduler : Type 0 where
  pub number : ℕ
  pub begun : ℕ
  pub left : Standing
  pub attempt : Option Attempt

-- the tasks that are wanted by the rows that count
abbrev pub wanted_at : Reading → Past → List WantedTask
wanted_at reading past = wanted (reading.counted past.rows past.history)

-- a pass that begins now: all that the scheduler is asked to place now
abbrev pub new_pass : Settings → Reading → Past → ℕ → Standing
new_pass settings reading past scheduler =
    fresh (failed past.history) (requests settings reading.trace (reading.counted past.rows past.history) past.history scheduler)

-- an attempt that begins now: a plan for those wishes of a request that are still wanted, on all of the history, decided
-- once the time for so many wishes has gone by
abbrev pub attempt_on : Settings → Reading → Past → ℕ → ℕ → Request → Attempt
attempt_on settings reading past now scheduler request = record {
  job = request.job;
  seen = length past.history;
  claims = planned settings scheduler (commits_of scheduler past.history) past.history (wanted_wishes (wanted_at reading past) request);
  sync = now;
  due = now + decision settings scheduler (length (wanted_wishes (wanted_at reading past) request));
}

-- an attempt on the first of these requests, if there is one
abbrev pub first_attempt : Settings → Reading → Past → ℕ → ℕ → List Request → Option Attempt
first_attempt settings reading past now scheduler [] = None
first_attempt settings reading past now scheduler (request ∷ rest) = Some (attempt_on settings reading past now scheduler request)

-- a scheduler that has this left of the pass that began then: it decides on the first request, or rests where nothing is
-- left
abbrev pub working : Settings → Reading → Past → ℕ → ℕ → ℕ → Standing → Scheduler
working settings reading past now scheduler begun left = record {
  number = scheduler;
  begun = begun;
  left = left;
  attempt = first_attempt settings reading past now scheduler left.requests;
}

-- a scheduler that has this left of its pass: where that is nothing, and there was cause for a new pass since its own
-- began, it begins one
abbrev pub going_on : Settings → Reading → Past → ℕ → Scheduler → Standing → Scheduler
going_on settings reading past now scheduler left =
    if is_empty left.requests && nat_lt scheduler.begun past.triggers
    then working settings reading past now scheduler.number past.triggers (new_pass settings reading past scheduler.number)
    else working settings reading past now scheduler.number scheduler.begun left

-- a scheduler that syncs at this time
abbrev pub synced : Settings → Reading → Past → ℕ → Scheduler → Scheduler
synced settings reading past now scheduler =
    going_on settings reading past now scheduler (without_unwanted (wanted_at reading past) scheduler.left scheduler.left.requests)

-- a scheduler that syncs at this time, unless it is deciding
abbrev pub synced_if_idle : Settings → Reading → Past → ℕ → Scheduler → Option Attempt → Scheduler
synced_if_idle settings reading past now scheduler None = synced settings reading past now scheduler
synced_if_idle settings reading past now scheduler (Some attempt) = scheduler

-- a scheduler with what an entry leaves of its pass: only its own commits change that
abbrev pub with_entry : Settings → Entry → Scheduler → Scheduler
with_entry settings entry scheduler =
    record scheduler { left = unwrap_or (after_entry settings scheduler.number (Some scheduler.left) entry) scheduler.left }
