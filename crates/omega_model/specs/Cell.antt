-- The cell: its machines in order of first mention, and its running tasks in order of key.
use Rattle.std.specs.Prelude.{ℕ, Bool, List, [], ◌∷◌, ◌++◌, Option, ◌==◌, ◌&&◌, ◌||◌, not, nat_lt, map, if◌then◌else◌}
use Rattle.std.specs.List.{filter, find}
use Rattle.omega_model.specs.Need.{nothing, plus}
use Rattle.omega_model.specs.Keys.{same_key, key_lt, is_among}
use Rattle.omega_model.specs.declared.cells.Need.{Need}
use Rattle.omega_model.specs.declared.cells.TaskKey.{TaskKey}
use Rattle.omega_model.specs.declared.cells.Machine.{Machine}
use Rattle.omega_model.specs.declared.cells.Task.{Task}

-- a cell
pub record Cell : Type 0 where
  pub machines : List Machine
  pub tasks : List Task

-- the cell in which every history starts
abbrev pub empty_cell : Cell
empty_cell = record { machines = []; tasks = [] }

-- the machine of this number, if it is in the list
abbrev pub machine_at : List Machine → ℕ → Option Machine
machine_at machines id = find (λ machine. machine.id == id) machines

-- the running task of this name, if it runs
abbrev pub task_at : List Task → TaskKey → Option Task
task_at tasks key = find (λ task. same_key task.key key) tasks

-- the sum of what some tasks need
abbrev pub total : List Task → Need
total [] = nothing
total (task ∷ tasks) = plus task.spec.need (total tasks)

-- whether a task runs on this machine
abbrev pub is_on : ℕ → Task → Bool
is_on id task = task.machine == id

-- whether a task runs on this machine and is not among those that go
abbrev pub stays_on : ℕ → List TaskKey → Task → Bool
stays_on id gone task = task.machine == id && not (is_among task.key gone)

-- what the tasks on a machine use
abbrev pub use_on : List Task → ℕ → Need
use_on tasks id = total (filter (is_on id) tasks)

-- what the tasks on a machine use without those that go
abbrev pub rest_on : List Task → ℕ → List TaskKey → Need
rest_on tasks id gone = total (filter (stays_on id gone) tasks)

-- the running tasks with one more, in order of key
abbrev pub with_task : Task → List Task → List Task
with_task task tasks =
    filter (λ other. key_lt other.key task.key) tasks ++ task ∷ filter (λ other. key_lt task.key other.key) tasks

-- the running tasks without these
abbrev pub without : List TaskKey → List Task → List Task
without keys tasks = filter (λ task. not (is_among task.key keys)) tasks

-- whether a task stands before another in the order of eviction: by precedence, job, index
abbrev pub goes_before : Task → Task → Bool
goes_before a b = nat_lt a.spec.prec b.spec.prec || (a.spec.prec == b.spec.prec && key_lt a.key b.key)

-- a list in order of eviction with one more task at its place
abbrev pub put_by_rank : Task → List Task → List Task
put_by_rank task [] = task ∷ []
put_by_rank task (other ∷ tasks) =
    if goes_before other task then other ∷ put_by_rank task tasks else task ∷ other ∷ tasks

-- tasks in order of eviction
abbrev pub by_rank : List Task → List Task
by_rank [] = []
by_rank (task ∷ tasks) = put_by_rank task (by_rank tasks)

-- the names of some tasks
abbrev pub keys_of : List Task → List TaskKey
keys_of tasks = map (λ task. task.key) tasks
