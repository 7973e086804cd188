-- How placed claims are taken back.
use Rattle.std.specs.Prelude.{◌≡◌, ℕ, ◌+◌, ◌-◌, ◌<◌, ◌≤◌, List, [], ◌∷◌, None, is_some, IsTrue}
use Rattle.omega_model.specs.Cell.{task_at, with_task, without}
use Rattle.omega_model.specs.Legal.{Sound}
use Rattle.omega_model.specs.declared.cells.Task.{Task}
use Rattle.omega_board.specs.Board.{BoardState, cell_of, table_with}
use Rattle.omega_board.specs.declared.undo.Change.{Change}
use Rattle.omega_board.specs.declared.undo.Change.TheVariants.{Stopped, Started}

-- the changes since a reserve, the latest first, and for how many claims and victims there is room
pub record UndoState : Type 0 where
  pub log : List Change
  pub claims : ℕ
  pub victims : ℕ

-- the board while other tasks run
abbrev pub with_tasks : List Task → ℕ → BoardState → BoardState
with_tasks tasks spare board = record { table = table_with tasks board.table; tasks = tasks; spare = spare }

-- the board before a task was stopped or started
abbrev pub before_change : Change → BoardState → BoardState
before_change (Stopped task) board = with_tasks (with_task task board.tasks) (board.spare - 1) board
before_change (Started key) board = with_tasks (without (key ∷ []) board.tasks) (board.spare + 1) board

-- the board before the changes of a log
abbrev pub before_all : List Change → BoardState → BoardState
before_all [] board = board
before_all (change ∷ log) board = before_all log (before_change change board)

-- a change can be taken back: the task that was started runs, or the one that was stopped doesn't, has
-- room, and leaves the cell sound
abbrev pub MayTakeBack : Change → BoardState → Type 0
MayTakeBack (Stopped task) board =
    (task_at board.tasks task.key ≡ None) × (0 < board.spare) × Sound (cell_of (before_change (Stopped task) board))
MayTakeBack (Started key) board = IsTrue (is_some (task_at board.tasks key))

-- each change of a log can be taken back, the latest first
abbrev pub MayTakeAllBack : List Change → BoardState → Type 0
MayTakeAllBack [] board = Unit {0}
MayTakeAllBack (change ∷ log) board = MayTakeBack change board × MayTakeAllBack log (before_change change board)

-- the board at the reserve that gave an undo
abbrev pub at_reserve : UndoState → BoardState → BoardState
at_reserve undo board = before_all undo.log board

-- an undo is of a board where its changes lead to the board, so that they can be taken back, the latest
-- first, and where the board has room for as many claims as the undo has, now and once they are taken back
pub record IsUndoOf (board : BoardState) (undo : UndoState) : Type 0 where
  pub changes : MayTakeAllBack undo.log board
  pub room : undo.claims ≤ board.spare
  pub back : undo.claims ≤ (at_reserve undo board).spare
