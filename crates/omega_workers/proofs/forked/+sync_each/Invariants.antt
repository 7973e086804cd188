use Rattle.std.proofs.Common.{length}
use Rattle.omega_workers.proofs.forked.+sync_each.Given as goal

abbrev pub decreases-sync_each : goal.decreases-sync_each
decreases-sync_each l = length l.workers.now
