-- A scheduler's private copy as a caller sees it.
use Rattle.std.specs.Prelude.{◌≡◌, ℕ, List, drop}
use Rattle.omega_model.specs.Applying.{EachMayApply}
use Rattle.omega_model.specs.Copy.{StandsFor}
use Rattle.omega_model.specs.Parts.{DeltaState}
use Rattle.omega_model.specs.declared.entries.Entry.{Entry}
use Rattle.omega_machines.specs.Table.{seq_at}
use Rattle.omega_board.specs.Board.{BoardState, cell_of}
use Rattle.omega_shared.specs.Copies.{MayCatchUp as IsCaughtUpBy}

-- a copy: its board, and how many entries it has seen
pub record CopyState : Type 0 where
  pub board : BoardState
  pub seen : ℕ

-- a board, whatever room it has
abbrev pub without_room : BoardState → BoardState
without_room board = record board { spare = 0 }

-- a copy stands for a history: its board is the one after as many entries as it has seen
abbrev pub CopyOf : CopyState → List Entry → Type 0
CopyOf copy history = StandsFor (cell_of copy.board) (seq_at copy.board.table) copy.seen history

-- a copy may follow these entries: they are the rest of a history for which it stands, each of whose
-- entries could be applied to the state before it
pub record MayFollow (copy : CopyState) (later : List Entry) : Type 0 where
  pub history : List Entry
  pub stands : CopyOf copy history
  pub applied : EachMayApply history
  pub rest : later ≡ drop copy.seen history

-- a copy may catch up by a delta
abbrev pub MayCatchUp : CopyState → DeltaState → Type 0
MayCatchUp copy delta = IsCaughtUpBy (cell_of copy.board) (seq_at copy.board.table) copy.seen delta
