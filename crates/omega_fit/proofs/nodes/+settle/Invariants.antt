use Rattle.std.proofs.Common.{length}
use Rattle.omega_fit.proofs.nodes.+settle.Given as goal

abbrev pub decreases-settle : goal.decreases-settle
decreases-settle l = length l.nodes.now
