use Rattle.std.proofs.Common.{◌≡◌, ◌++◌, drop}
use Rattle.omega_model.specs.Cell.{keys_of}
use Rattle.omega_board.specs.Putting.{gone_of}
use Rattle.omega_board.proofs.board.Board.gone.Given as goal

abbrev pub invariant-loop-part : goal.invariant-loop-part
invariant-loop-part l =
    l.gone.items ++ keys_of (gone_of l.self.tasks (drop l.part-index l.parts)) ≡ keys_of (gone_of l.self.tasks l.parts)
