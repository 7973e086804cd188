use Rattle.std.specs.Vec.Iter.{into_iter_items}
use Rattle.omega_free.proofs.RowsTaken.{AreTakenBut}
use Rattle.omega_free.proofs.own_ends.those_that_count.Given as goal

abbrev pub invariant-loop-row : goal.invariant-loop-row
invariant-loop-row l = AreTakenBut l.fn.pieces l.pieces l.counting (into_iter_items l.row-iterator) l.fn.rows
