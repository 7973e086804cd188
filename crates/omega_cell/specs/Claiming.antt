-- The sequence numbers with which claims are judged, and what takes placed claims back.
use Rattle.std.specs.Prelude.{◌≡◌, ◌≤◌, ℕ, List, length}
use Rattle.std.specs.List.{sum_by}
use Rattle.omega_machines.specs.Table.{seq_at}
use Rattle.omega_board.specs.Board.{BoardState}
use Rattle.omega_board.specs.Undo.{UndoState}
use Rattle.omega_model.specs.Touches.{copied_seqs, seq}
use Rattle.omega_model.specs.declared.claims.Claim.{Claim}
use Rattle.omega_model.specs.declared.entries.Entry.{Entry}

-- a board has the sequence numbers of a history, and `seqs` are those of the claims' machines in a copy that
-- has seen its first entries
pub record AreNumbered (board : BoardState) (seqs : List ℕ) (claims : List Claim) (history : List Entry) (seen : ℕ) : Type 0 where
  pub now : (id : ℕ) → seq_at board.table id ≡ seq history id
  pub copy : seqs ≡ copied_seqs history seen claims

-- an undo has room for these claims and their victims
pub record CanUndo (undo : UndoState) (answered : List Claim) : Type 0 where
  pub claims : length answered ≤ undo.claims
  pub victims : sum_by (λ claim. length claim.victims) answered ≤ undo.victims
