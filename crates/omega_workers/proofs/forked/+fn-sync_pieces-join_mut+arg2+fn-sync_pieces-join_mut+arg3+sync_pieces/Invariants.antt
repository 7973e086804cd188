use Rattle.std.proofs.Common.{◌+◌, ◌*◌, length}
use Rattle.omega_workers.proofs.forked.+fn-sync_pieces-join_mut+arg2+fn-sync_pieces-join_mut+arg3+sync_pieces.Given as goal

abbrev pub decreases-join_mut+arg2 : goal.decreases-join_mut+arg2
decreases-join_mut+arg2 g l = 2 * length l.low.now + 1

abbrev pub decreases-join_mut+arg3 : goal.decreases-join_mut+arg3
decreases-join_mut+arg3 g l = 2 * length l.high.now + 1

abbrev pub decreases-sync_pieces : goal.decreases-sync_pieces
decreases-sync_pieces g l = 2 * length l.workers.now
