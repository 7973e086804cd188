use Rattle.std.proofs.Common.{length}
use Rattle.omega_plan.proofs.placed.+place_within.Given as goal

abbrev pub decreases-place_within : goal.decreases-place_within
decreases-place_within l = length l.tasks.now
