-- What holds besides of every run in which tasks end when they have run for their lives.
use Rattle.std.specs.List.{filter_map, AllByRecursion as Each}
use Rattle.std.specs.Prelude.{◌≡◌, ℕ, List, [], ◌∷◌, Option, Some, None, ◌+◌, ◌-◌, ◌<◌, ◌≤◌, length, take, slice_get, IsSomeAnd}
use Rattle.omega_model.specs.Applying.{EndsRunning}
use Rattle.omega_model.specs.Cell.{task_at}
use Rattle.omega_model.specs.ExtraTasks.{first_extra}
use Rattle.omega_model.specs.Feed.{feed, rounds}
use Rattle.omega_model.specs.Keys.{first_mentions}
use Rattle.omega_model.specs.State.{state}
use Rattle.omega_model.specs.declared.cells.Task.{Task}
use Rattle.omega_model.specs.declared.cells.TaskKey.{TaskKey}
use Rattle.omega_model.specs.declared.entries.Entry.TheVariants.{End}
use Rattle.omega_model.specs.declared.entries.Entry.{Entry}
use Rattle.omega_model.specs.declared.rows.Round.{Round}
use Rattle.omega_model.specs.declared.rows.Row.TheVariants.{Task as TaskEvent}
use Rattle.omega_model.specs.declared.rows.Row.{Row}
use Rattle.omega_model.specs.declared.rows.TraceTables.{TraceTables}
use Rattle.omega_model.specs.declared.settings.Settings.{Settings}
use Rattle.omega_laws.specs.Simulated.{greatest_time}
use Rattle.omega_laws.specs.VirtualTime.{Timed}
use Rattle.omega_free_laws.specs.Lives.{DueEnd, ended, lives_of, first_own_end, placing}

-- the task of a row, if it is a task row
abbrev pub task_of_row : Row → Option TaskKey
task_of_row (TaskEvent row) = Some row.key
task_of_row _ = None

-- the tasks of a trace, each once
abbrev pub tasks_of : TraceTables → List TaskKey
tasks_of trace = first_mentions (filter_map task_of_row (feed trace))

-- how many pieces with a life these tasks have beyond those that have ended
abbrev pub lives_left_of : TraceTables → List Entry → List TaskKey → ℕ
lives_left_of trace history [] = 0
lives_left_of trace history (key ∷ keys) = (length (lives_of trace key) - ended history key) + lives_left_of trace history keys

-- how many the tasks of the trace have
abbrev pub lives_left : TraceTables → List Entry → ℕ
lives_left trace history = lives_left_of trace history (tasks_of trace)

-- an end that is due: its task is one of the trace and runs, this commit placed it last, its piece under way has this life,
-- and the end comes so long after that commit
pub record IsDueEnd (trace : TraceTables) (history : List Entry) (times : List Timed) (end : DueEnd) : Type 0 where
  pub task : Task
  pub runs : task_at (state history).tasks task.key ≡ Some task
  pub low : task.key.index < first_extra
  pub timed : Timed
  pub placed : placing history times task.key ≡ Some timed
  pub life : ℕ
  pub lives : slice_get (lives_of trace task.key) (ended history task.key) ≡ Some life
  pub key : end.key ≡ task.key
  pub machine : end.machine ≡ task.machine
  pub time : end.time ≡ timed.time + life

-- a running task was placed last by this commit, and has run on its machine after each entry since
pub record RunsSince (history : List Entry) (times : List Timed) (task : Task) : Type 0 where
  pub timed : Timed
  pub placed : placing history times task.key ≡ Some timed
  pub since : (n : ℕ) → timed.place < n → n ≤ length history → task_at (state (take n history)).tasks task.key ≡ Some task

-- a task ends behind these entries after its life: this commit placed it last, its piece that ends has this life, and after
-- each entry since that commit it ran on this machine. The end comes in time: each earlier commit is no later than the life
-- after that commit, and each later one no sooner
pub record EndsOfLife (trace : TraceTables) (times : List Timed) (before : List Entry) (key : TaskKey) (machine : ℕ) : Type 0 where
  pub timed : Timed
  pub placed : placing before times key ≡ Some timed
  pub life : ℕ
  pub lives : slice_get (lives_of trace key) (ended before key) ≡ Some life
  pub since : (n : ℕ) → timed.place < n → n ≤ length before → IsSomeAnd (task_at (state (take n before)).tasks key) (λ task. task.machine ≡ machine)
  pub earlier : Each (λ (other : Timed). other.place < length before → other.time ≤ timed.time + life) times
  pub later : Each (λ (other : Timed). length before ≤ other.place → timed.time + life ≤ other.time) times

-- an entry, if it ends a task of the trace, ends it so
abbrev pub EndsInTime : TraceTables → List Timed → List Entry → Entry → Type 0
EndsInTime trace times before (End key machine) = key.index < first_extra → EndsOfLife trace times before key machine
EndsInTime trace times before _ = Unit {0}

-- so it is of each end
abbrev pub EachEndsInTime : TraceTables → List Entry → List Timed → Type 0
EachEndsInTime trace history times = (place : ℕ) (entry : Entry) → slice_get history place ≡ Some entry → EndsInTime trace times (take place history) entry

-- each end is that of a task that runs on its machine
abbrev pub EachEndRuns : List Entry → Type 0
EachEndRuns history = (place : ℕ) (entry : Entry) → slice_get history place ≡ Some entry → EndsRunning (state (take place history)).tasks entry

-- no two ends of a task are of one piece: before a later end it has ended more often
abbrev pub EndsOnce : List Entry → Type 0
EndsOnce history =
    (place later : ℕ) (key : TaskKey) (machine : ℕ) → slice_get history place ≡ Some (End key machine) → place < later
    → ended (take place history) key < ended (take later history) key

-- an entry, if it ends a task of the trace, ends it after its life, and by this time
abbrev pub EndsBy : TraceTables → ℕ → List Timed → List Entry → Entry → Type 0
EndsBy trace now times before (End key machine) =
    key.index < first_extra → (it : EndsOfLife trace times before key machine) × (it.timed.time + it.life ≤ now)
EndsBy trace now times before _ = Unit {0}

-- so it is of each end
abbrev pub EachEndsBy : TraceTables → ℕ → List Timed → List Entry → Type 0
EachEndsBy trace now times history = (place : ℕ) (entry : Entry) → slice_get history place ≡ Some entry → EndsBy trace now times (take place history) entry

-- these rounds opened, and all commits and ends came, by this time
pub record HappenedBy (settings : Settings) (trace : TraceTables) (now : ℕ) (done : List Round) (history : List Entry) (times : List Timed) : Type 0 where
  pub rounds : Each (λ (round : Round). greatest_time round.rows ≤ now) done
  pub commits : Each (λ (timed : Timed). timed.time ≤ now) times
  pub ends : EachEndsBy trace now times history

-- an end that is still due when all is over is due no sooner than the last thing that happened
abbrev pub NothingWasDue : Settings → TraceTables → List Entry → List Timed → Type 0
NothingWasDue settings trace history times =
    (end : DueEnd) → first_own_end trace history times ≡ Some end → HappenedBy settings trace end.time (rounds trace settings.window) history times
