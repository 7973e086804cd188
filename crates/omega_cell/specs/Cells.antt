-- The cell that all schedulers share: a history, and the board after it.
use Rattle.std.specs.Prelude.{◌≡◌, ℕ, ◌≤◌, ◌<◌, ◌^◌, List, [], length}
use Rattle.std.specs.List.{sum_by}
use Rattle.omega_model.specs.Applying.{EachMayApply}
use Rattle.omega_model.specs.Legal.{Legal}
use Rattle.omega_model.specs.declared.claims.Txn.{Txn}
use Rattle.omega_model.specs.declared.entries.Entry.{Entry}
use Rattle.omega_board.specs.Board.{BoardState, IsBoardOf}
use Rattle.omega_board.specs.Undo.{UndoState}
use Rattle.omega_cell.specs.Rooms.{victim_counts}

-- a cell as callers see it: its history, and for how many more tasks and entries it has room
pub record CellState : Type 0 where
  pub history : List Entry
  pub task_room : ℕ
  pub entry_room : ℕ

-- what every cell keeps: its board is the one after its history, which is legal, and each of whose
-- entries could be applied to the state before it
pub record IsCell (board : BoardState) (history : List Entry) : Type 0 where
  pub board_is : IsBoardOf board history
  pub legal : Legal history
  pub applied : EachMayApply history

-- a cell has room for a transaction: for the tasks of its claims, and for one entry
pub record HasRoom (cell : CellState) (txn : Txn) : Type 0 where
  pub tasks : length txn.claims ≤ cell.task_room
  pub entry : 0 < cell.entry_room

-- a cell has no less room than before
pub record KeepsRoom (old new : CellState) : Type 0 where
  pub tasks : old.task_room ≤ new.task_room
  pub entries : old.entry_room ≤ new.entry_room

-- what a prepared transaction keeps: a judgement can name each claim's place, the undo has taken nothing
-- in yet and has room for all claims and their victims, no machine is noted yet and there is room for one
-- for each claim, and both the entry and the answer have room for what each claim evicts
pub record IsPrepared (txn : Txn) (undo : UndoState) (machines : List ℕ) (room : ℕ) (entry answer : List ℕ) : Type 0 where
  pub few : length txn.claims < 2 ^ 32
  pub log : undo.log ≡ []
  pub claims : undo.claims ≡ length txn.claims
  pub victims : undo.victims ≡ sum_by (λ claim. length claim.victims) txn.claims
  pub no_machine : machines ≡ []
  pub machine_room : length txn.claims ≤ room
  pub entry_room : entry ≡ victim_counts txn.claims
  pub answer_room : answer ≡ victim_counts txn.claims
