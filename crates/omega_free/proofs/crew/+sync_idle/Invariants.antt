use Rattle.std.proofs.Common.{length}
use Rattle.omega_free.proofs.crew.«+sync_idle».Given as goal

abbrev pub decreases-sync_idle : goal.decreases-sync_idle
decreases-sync_idle l = length l.workers.now
