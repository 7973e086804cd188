-- When running tasks are due to end.
use Rattle.std.specs.Prelude.{◌≡◌, ◌<◌, ◌+◌, ◌↔◌, ◌&&◌, ℕ, true, List, Option, Some, None, false, length, nat_lt, option_map, slice_get, if◌then◌else◌}
use Rattle.std.specs.BTreeMap as tree
use Rattle.std.specs.BTreeSet as set
use Rattle.std.specs.BTreeSet.{BTreeSet}
use Rattle.std.specs.List.{AllByRecursion as Each}
use Rattle.std.specs.Map.{lookup}
use Rattle.std.specs.Ordering.{is_gt, nat_cmp, ordering_then}
use Rattle.std.specs.declared.cmp.Ordering.{Ordering}
use Rattle.omega_feed.specs.Index.{key_cmp}
use Rattle.omega_free_laws.specs.Lives.{DueEnd, end_of_task, ended, lives_of}
use Rattle.omega_laws.specs.VirtualTime.{Timed}
use Rattle.omega_model.specs.Cell.{task_at}
use Rattle.omega_model.specs.ExtraTasks.{first_extra}
use Rattle.omega_model.specs.Keys.{same_key}
use Rattle.omega_model.specs.Reply.{admits}
use Rattle.omega_model.specs.State.{state}
use Rattle.omega_model.specs.declared.cells.Task.{Task}
use Rattle.omega_model.specs.declared.cells.TaskKey.{TaskKey}
use Rattle.omega_model.specs.declared.claims.Claim.{Claim}
use Rattle.omega_model.specs.declared.claims.Judgement.{Judgement}
use Rattle.omega_model.specs.declared.entries.Entry.{Entry}
use Rattle.omega_model.specs.declared.rows.TraceTables.{TraceTables}

-- the order of ends: by time, then by task
abbrev pub end_cmp : ℕ × TaskKey → ℕ × TaskKey → Ordering
end_cmp a b = ordering_then (nat_cmp a.0 b.0) (key_cmp a.1 b.1)

-- when a task is due to end by these times, if it is
abbrev pub due_at : List (TaskKey × ℕ) → TaskKey → Option ℕ
due_at times key = lookup (tree.is_at (key_cmp key)) times

-- each task's time stands in the queue, and nothing else does
abbrev pub AreQueued : List (TaskKey × ℕ) → BTreeSet (ℕ × TaskKey) → Type 0
AreQueued times queue =
    (time : ℕ) (key : TaskKey) → (set.contains end_cmp queue (time, key) ≡ true) ↔ (due_at times key ≡ Some time)

-- a running task's end is due when it has run for the life of its piece; it has no time where it has no end
abbrev pub HasItsTime : TraceTables → List (TaskKey × ℕ) → List Entry → List Timed → Task → Type 0
HasItsTime trace ends history times task =
    due_at ends task.key ≡ option_map (λ due. due.time) (end_of_task trace history times task)

-- the commits stand in the history, and each task that runs after it has its time
pub record KeepsEnds (trace : TraceTables) (history : List Entry) (times : List Timed) (ends : List (TaskKey × ℕ)) : Type 0 where
  pub within : Each (λ (timed : Timed). timed.place < length history) times
  pub each : Each (HasItsTime trace ends history times) (state history).tasks

-- the times with this one for a task, or with none for it
abbrev pub SetsDue : List (TaskKey × ℕ) → List (TaskKey × ℕ) → TaskKey → Option ℕ → Type 0
SetsDue old new key time = (other : TaskKey) → due_at new other ≡ (if same_key key other then time else due_at old other)

-- the tasks that run have the times that they had
abbrev pub AreAsBefore : List Task → List (TaskKey × ℕ) → List (TaskKey × ℕ) → Type 0
AreAsBefore running old new = (task : Task) → task_at running task.key ≡ Some task → due_at new task.key ≡ due_at old task.key

-- this is the end of a running task that is due first by these times: no task has a time before it, or one at that time and
-- a lesser name
pub record ComesFirst (running : List Task) (times : List (TaskKey × ℕ)) (due : DueEnd) : Type 0 where
  pub runs : option_map (λ task. task.machine) (task_at running due.key) ≡ Some due.machine
  pub time : due_at times due.key ≡ Some due.time
  pub first : (time : ℕ) (key : TaskKey) → due_at times key ≡ Some time → is_gt (end_cmp (due.time, due.key) (time, key)) ≡ false

-- so is this end, and no task has a time where there is none
abbrev pub IsFirstDue : List Task → List (TaskKey × ℕ) → Option DueEnd → Type 0
IsFirstDue running times None = (key : TaskKey) → due_at times key ≡ None
IsFirstDue running times (Some due) = ComesFirst running times due

-- this is the first end of a queue, if there is one
abbrev pub IsFirstOf : BTreeSet (ℕ × TaskKey) → Option (ℕ × TaskKey) → Type 0
IsFirstOf queue None = (time : ℕ) (key : TaskKey) → set.contains end_cmp queue (time, key) ≡ false
IsFirstOf queue (Some first) =
    (set.contains end_cmp queue (first.0, first.1) ≡ true) × ((time : ℕ) (key : TaskKey) → set.contains end_cmp queue (time, key) ≡ true → is_gt (end_cmp (first.0, first.1) (time, key)) ≡ false)

-- when a task is due to end that is placed at this time, if it is one of the trace and its piece under way has a life
abbrev pub due_when : TraceTables → List Entry → ℕ → TaskKey → Option ℕ
due_when trace history time key =
    if nat_lt key.index first_extra then option_map (λ life. time + life) (slice_get (lives_of trace key) (ended history key)) else None

-- when a task is due after a claim and what was answered to it, where it is due then if it was placed
abbrev pub due_after : TaskKey → Option ℕ → Option ℕ → Claim × Judgement → Option ℕ
due_after key placed due decided = if admits decided.1 && same_key decided.0.key key then placed else due
