use Rattle.std.proofs.Common.{◌≡◌, Some, map}
use Rattle.std.specs.List.{range_with_len}
use Rattle.omega_board.specs.Parts.{part_at}
use Rattle.omega_board.proofs.board.Board.parts.Given as goal

abbrev pub invariant-loop-position : goal.invariant-loop-position
invariant-loop-position l = map Some l.parts.items ≡ map (part_at l.self) (range_with_len 0 l.position)
