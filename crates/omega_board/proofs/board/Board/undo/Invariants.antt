use Rattle.std.proofs.Common.{◌≡◌, length}
use Rattle.omega_board.specs.Undo.{MayTakeAllBack, before_all}
use Rattle.omega_board.proofs.board.Board.undo.Given as goal

abbrev pub invariant-loop-change : goal.invariant-loop-change
invariant-loop-change l =
    MayTakeAllBack l.undo.log l.self
    × (before_all l.undo.log l.self ≡ before_all l.fn.undo.log l.fn.self)
    × (l.undo.claims ≡ l.fn.undo.claims)
    × (l.undo.victims ≡ l.fn.undo.victims)

abbrev pub decreases-loop-change : goal.decreases-loop-change
decreases-loop-change l = length l.undo.log
