use Rattle.std.proofs.Common.{length}
use Rattle.omega_plan.proofs.evicting.+first_to_go.Given as goal

abbrev pub decreases-first_to_go : goal.decreases-first_to_go
decreases-first_to_go l = length l.tasks.items
