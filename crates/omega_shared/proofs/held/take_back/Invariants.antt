use Rattle.std.proofs.Common.{◌≡◌}
use Rattle.std.specs.Arc.{arc_value}
use Rattle.omega_shared.proofs.held.take_back.Given as goal

-- the cell that was lent is still the same
abbrev pub invariant-loop-tries : goal.invariant-loop-tries
invariant-loop-tries l = arc_value l.lent ≡ arc_value l.fn.lent
