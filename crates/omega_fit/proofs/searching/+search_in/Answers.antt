use Rattle.std.proofs.Common.{arith}
use Rattle.omega_fit.proofs.Searches.{in_left}
use Rattle.omega_fit.proofs.searching.+search_in.Goals as goal

pub returns-in-Some-clause-first : goal.returns-in-Some-clause-first
returns-in-Some-clause-first g t c =
    in_left _ _ _ _ _ _ _ _ _ _ _ c.parted.ensures.whole (omega (arith, c.min.ensures)) (omega (arith, c.min.ensures)) (rw c.in-Some.is at c.search_in.ensures.first)
