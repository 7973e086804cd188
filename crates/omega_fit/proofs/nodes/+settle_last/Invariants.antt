use Rattle.std.proofs.Common.{length}
use Rattle.omega_fit.proofs.nodes.+settle_last.Given as goal

abbrev pub decreases-settle_last : goal.decreases-settle_last
decreases-settle_last l = length l.nodes.now
