-- The two orders in which the running tasks are kept.
use Rattle.std.specs.Prelude.{◌≡◌, ℕ, ◌+◌, ◌*◌, ◌%◌, ◌^◌, Bool, true, List, [], ◌∷◌, ◌++◌, Option, ◌==◌, ◌&&◌, ◌||◌, not, nat_le, nat_lt, if◌then◌else◌}
use Rattle.std.specs.List.{filter, find, AllByRecursion as Each}
use Rattle.omega_model.specs.Keys.{key_lt}
use Rattle.omega_model.specs.ExtraTasks.{first_extra}
use Rattle.omega_model.specs.declared.cells.Task.{Task}
use Rattle.omega_model.specs.declared.cells.TaskKey.{TaskKey}
use Rattle.omega_running.specs.declared.orders.Order.{Order}
use Rattle.omega_running.specs.declared.orders.Order.TheVariants.{ByKey, ByMachine}
use Rattle.omega_running.specs.declared.orders.Pick.{Pick}
use Rattle.omega_running.specs.declared.orders.Pick.TheVariants.{Share, Extras}

-- whether the first task stands before the second: by key, or by machine and then by key
abbrev pub precedes : Order → Task → Task → Bool
precedes ByKey a b = key_lt a.key b.key
precedes ByMachine a b = nat_lt a.machine b.machine || (a.machine == b.machine && key_lt a.key b.key)

-- whether two tasks stand at different places
abbrev pub is_apart : Order → Task → Task → Bool
is_apart order a b = precedes order a b || precedes order b a

-- the number by which an order sorts first
abbrev pub lead : Order → Task → ℕ
lead ByKey task = task.key.job
lead ByMachine task = task.machine

-- the sum of a key's job and index, which goes round at 2 ^ 64
abbrev pub job_and_index : TaskKey → ℕ
job_and_index key = (key.job + key.index) % 2 ^ 64

-- whether a task is an extra one, of any job
abbrev pub is_extra : Task → Bool
is_extra task = nat_le first_extra task.key.index

-- the number that names the tree of a key: of the trace's tasks that of the job and the index together, so that
-- the tasks of a job stand in many trees, and of its extra tasks that of the job, so that they stand in one
abbrev pub spread_key : TaskKey → ℕ
spread_key key = if nat_lt key.index first_extra then job_and_index key else key.job

-- which of the trees of a machine has the task of a key, of eight
abbrev pub share_of : TaskKey → ℕ
share_of key = job_and_index key % 8

-- which of the trees of its machine has a task: by its job and its index together, so that the tasks of a job stand
-- in several
abbrev pub share : Task → ℕ
share task = share_of task.key

-- whether a task stands in this one of the trees of its machine
abbrev pub in_share : ℕ → Task → Bool
in_share number task = share task == number

-- the number that names one of a machine's trees
abbrev pub spread_machine : ℕ → ℕ → ℕ
spread_machine machine number = (machine * 8 + number) % 2 ^ 64

-- the number that names the tree of a task: by its key, or by its machine and its share
abbrev pub spread : Order → Task → ℕ
spread ByKey task = spread_key task.key
spread ByMachine task = spread_machine task.machine (share task)

-- which tasks are picked: those of a share, or extra tasks
abbrev pub picks : Pick → Task → Bool
picks (Share number) task = in_share number task
picks Extras task = is_extra task

-- whether a task is of a job with a lower number, or, where `own` is true, of this job
abbrev pub is_until : ℕ → Bool → Task → Bool
is_until job own task = if own then nat_le task.key.job job else nat_lt task.key.job job

-- whether a task stands before all of a job's tasks on a machine, by machine and key
abbrev pub is_before : Task → ℕ → ℕ → Bool
is_before task machine job = nat_lt task.machine machine || (task.machine == machine && nat_lt task.key.job job)

-- whether a task stands behind all of a job's tasks on a machine, by machine and key
abbrev pub is_behind : Task → ℕ → ℕ → Bool
is_behind task machine job = nat_lt machine task.machine || (machine == task.machine && nat_lt job task.key.job)

-- each element stands before all later ones
abbrev pub Rises : {X : Type 0} → (X → X → Bool) → List X → Type 0
Rises before [] = Unit {0}
Rises before (x ∷ xs) = Each (λ y. before x y ≡ true) xs × Rises before xs

-- each task stands before all later ones
abbrev pub IsInOrder : Order → List Task → Type 0
IsInOrder order tasks = Rises (precedes order) tasks

-- the tasks with one more, behind those that it does not stand before
abbrev pub put_in : Order → Task → List Task → List Task
put_in order task tasks =
    filter (λ other. not (precedes order task other)) tasks ++ task ∷ filter (λ other. precedes order task other) tasks

-- the tasks without those at this task's place
abbrev pub taken_out : Order → Task → List Task → List Task
taken_out order task tasks = filter (λ other. is_apart order task other) tasks

-- the task that stands at this task's place
abbrev pub at_place : Order → Task → List Task → Option Task
at_place order task tasks = find (λ other. not (is_apart order task other)) tasks

-- the tasks that an order's first number puts together
abbrev pub led_by : Order → ℕ → List Task → List Task
led_by order number tasks = filter (λ task. lead order task == number) tasks
