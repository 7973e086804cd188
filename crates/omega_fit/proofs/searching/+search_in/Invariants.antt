use Rattle.std.proofs.Common.{length}
use Rattle.omega_fit.proofs.searching.+search_in.Given as goal

abbrev pub decreases-search_in : goal.decreases-search_in
decreases-search_in g l = length l.nodes.now
