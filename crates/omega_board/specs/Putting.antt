-- How parts are put: what stops and what starts, and the rows between.
use Rattle.std.specs.Prelude.{◌≡◌, ℕ, ◌==◌, false, not, List, [], ◌∷◌, Some, None, slice_get, IsTrue, if◌then◌else◌}
use Rattle.std.specs.List.{filter, flat_map, fold}
use Rattle.omega_model.specs.Cell.{Cell, machine_at, task_at, with_task, is_on, use_on}
use Rattle.omega_model.specs.Fields.{greatest}
use Rattle.omega_model.specs.Judge.{capacity_of, is_up}
use Rattle.omega_model.specs.Legal.{Sound}
use Rattle.omega_model.specs.Machines.{change}
use Rattle.omega_model.specs.Need.{Fits, minus}
use Rattle.omega_model.specs.declared.cells.Machine.{Machine}
use Rattle.omega_model.specs.declared.cells.Task.{Task}
use Rattle.omega_model.specs.declared.delta.Part.{Part}
use Rattle.omega_machines.specs.declared.MachineState.{MachineState}
use Rattle.omega_machines.specs.Table.{ensured_states}
use Rattle.omega_running.specs.Standing.{stands_in}

-- of some tasks those that others lack
abbrev pub lacking : List Task → List Task → List Task
lacking others tasks = filter (λ task. not (stands_in others task)) tasks

-- the tasks that stop where parts are put: those on a part's machine that the part lacks
abbrev pub gone_of : List Task → List Part → List Task
gone_of tasks parts = flat_map (λ part. lacking part.tasks (filter (is_on part.machine.id) tasks)) parts

-- the tasks that start: those of the parts that don't run
abbrev pub came_of : List Task → List Part → List Task
came_of tasks parts = flat_map (λ part. lacking tasks part.tasks) parts

-- the table, with a new machine at its end for each part whose machine isn't in it
abbrev pub listed_parts : List MachineState → List Part → List MachineState
listed_parts table parts = fold (λ states part. ensured_states part.machine.id states) table parts

-- the machines with the row of a part in place of its own
abbrev pub with_row : List Machine → Part → List Machine
with_row machines part = change part.machine.id (λ _. part.machine) machines

-- a machine's sequence number once a part was put
abbrev pub seq_put : ℕ → ℕ → Part → ℕ
seq_put id seq part = if part.machine.id == id then part.seq else seq

-- the row of a part may be put: its machine stands at its position, has a capacity in range that holds what
-- runs on it, and where it isn't up nothing does
pub record MayPutRow (numbers : List ℕ) (tasks : List Task) (part : Part) : Type 0 where
  pub there : slice_get numbers part.position ≡ Some part.machine.id
  pub cap : Fits part.machine.cap greatest
  pub in_use : Fits (use_on tasks part.machine.id) part.machine.cap
  pub down : part.machine.up ≡ false → filter (is_on part.machine.id) tasks ≡ []

-- there is room for a task: its machine is up, and has the capacity for what the task needs beside what
-- runs there
pub record HasRoomFor (cell : Cell) (task : Task) : Type 0 where
  pub up : IsTrue (is_up (machine_at cell.machines task.machine))
  pub fits : Fits task.spec.need (minus (capacity_of (machine_at cell.machines task.machine)) (use_on cell.tasks task.machine))

-- a task may start: it doesn't run, and with it the cell is sound
pub record MayStart (cell : Cell) (task : Task) : Type 0 where
  pub absent : task_at cell.tasks task.key ≡ None
  pub sound : Sound (record cell { tasks = with_task task cell.tasks })

-- tasks may start one after the other
abbrev pub MayStartAll : Cell → List Task → Type 0
MayStartAll cell [] = Unit {0}
MayStartAll cell (task ∷ tasks) = MayStart cell task × MayStartAll (record cell { tasks = with_task task cell.tasks }) tasks

-- the running tasks with some more
abbrev pub with_tasks_of : List Task → List Task → List Task
with_tasks_of tasks more = fold (λ running task. with_task task running) tasks more
