use Rattle.std.proofs.Common.{length}
use Rattle.omega_free.proofs.crew.«+commit_by».Given as goal

abbrev pub decreases-commit_by : goal.decreases-commit_by
decreases-commit_by l = length l.workers.now
