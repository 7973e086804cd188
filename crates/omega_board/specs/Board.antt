-- The board: the machines of a cell, each with what is free on it and how often it was touched, and
-- the running tasks.
use Rattle.std.specs.Prelude.{◌≡◌, ℕ, ◌+◌, Bool, true, false, List, Some, map, take, slice_get, IsTrue, ◌==◌, if◌then◌else◌}
use Rattle.omega_model.specs.Need.{plus, minus}
use Rattle.omega_model.specs.Cell.{Cell, machine_at, use_on}
use Rattle.omega_model.specs.Judge.{is_up, runs_on}
use Rattle.omega_model.specs.Keys.{is_among}
use Rattle.omega_model.specs.State.{state}
use Rattle.omega_model.specs.Touches.{seq}
use Rattle.omega_model.specs.declared.cells.Machine.{Machine}
use Rattle.omega_model.specs.declared.cells.Task.{Task}
use Rattle.omega_model.specs.declared.cells.TaskKey.{TaskKey}
use Rattle.omega_model.specs.declared.entries.Entry.{Entry}
use Rattle.omega_machines.specs.declared.MachineState.{MachineState}
use Rattle.omega_machines.specs.Table.{machines_of, seq_at, IsTable}
use Rattle.omega_running.specs.Kept.{KeysRise}
use Rattle.std.specs.List.{AllByRecursion as Each}

-- a board, and for how many more tasks it has room
pub record BoardState : Type 0 where
  pub table : List MachineState
  pub tasks : List Task
  pub spare : ℕ

-- the cell that a board stands for
abbrev pub cell_of : BoardState → Cell
cell_of board = record { machines = machines_of board.table; tasks = board.tasks }

-- whether a task runs on a machine that is up
abbrev pub is_on_up : List Machine → Task → Bool
is_on_up machines task = is_up (machine_at machines task.machine)

-- what is free on a machine and what these tasks use there are its capacity
abbrev pub IsCounted : List Task → MachineState → Type 0
IsCounted tasks state = plus state.free (use_on tasks state.machine.id) ≡ state.machine.cap

-- what every board keeps: the machines are a table, the tasks are in order of key and each on an up
-- machine, and on each machine what is free and what is used are the capacity
pub record IsBoard (table : List MachineState) (tasks : List Task) : Type 0 where
  pub bounded : IsTable table
  pub ordered : KeysRise tasks
  pub placed : Each (λ task. IsTrue (is_on_up (machines_of table) task)) tasks
  pub counted : Each (IsCounted tasks) table

-- a machine with so much free as these tasks leave of its capacity
abbrev pub recounted : List Task → MachineState → MachineState
recounted tasks state = record state { free = minus state.machine.cap (use_on tasks state.machine.id) }

-- the machines as they are while these tasks run
abbrev pub table_with : List Task → List MachineState → List MachineState
table_with tasks table = map (recounted tasks) table

-- each of these tasks runs on the machine, and none is named twice
abbrev pub Stand : List Task → ℕ → List TaskKey → Type 0
Stand tasks machine keys = (place : ℕ) (key : TaskKey) → slice_get keys place ≡ Some key
    → (runs_on tasks machine key ≡ true) × (is_among key (take place keys) ≡ false)

-- one more entry is counted on this machine, and on no other
abbrev pub CountsOn : ℕ → List MachineState → List MachineState → Type 0
CountsOn machine before after = (id : ℕ) → seq_at after id ≡ seq_at before id + (if machine == id then 1 else 0)

-- a board is the one after a history: its machines and tasks are the state of the history, and its
-- sequence numbers are those of the history
pub record IsBoardOf (board : BoardState) (history : List Entry) : Type 0 where
  pub current : cell_of board ≡ state history
  pub numbered : (id : ℕ) → seq_at board.table id ≡ seq history id
