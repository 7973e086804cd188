use Rattle.std.proofs.Common.{length}
use Rattle.omega_free.proofs.crew.«+sync_by».Given as goal

abbrev pub decreases-sync_by : goal.decreases-sync_by
decreases-sync_by l = length l.workers.now
