use Rattle.std.proofs.Common.{◌≡◌, ◌++◌, Some, map, drop}
use Rattle.omega_board.specs.Parts.{part_at}
use Rattle.omega_cell.proofs.touched.parts_at.Given as goal

abbrev pub invariant-loop-position : goal.invariant-loop-position
invariant-loop-position l =
    map Some l.parts.items ++ map (part_at l.board) (drop l.position-index l.positions) ≡ map (part_at l.board) l.positions
