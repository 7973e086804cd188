use Rattle.std.proofs.Common.{◌≡◌, ◌++◌, drop}
use Rattle.omega_board.specs.Putting.{came_of}
use Rattle.omega_board.proofs.board.Board.came.Given as goal

abbrev pub invariant-loop-part : goal.invariant-loop-part
invariant-loop-part l =
    l.came.items ++ came_of l.self.tasks (drop l.part-index l.parts) ≡ came_of l.self.tasks l.parts
