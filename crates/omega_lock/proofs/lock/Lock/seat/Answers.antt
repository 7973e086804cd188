use Rattle.std.proofs.Common.{rules}
use Rattle.omega_lock.proofs.Splitting.{split_keeps}
use Rattle.omega_lock.proofs.lock.Lock.seat.Goals as goal

pub split_seat-token-requires : goal.split_seat-token-requires
split_seat-token-requires g c = (
  search rules,
  search rules,
  split_keeps g.T.Counted.entries g.T.Counted.number _ _ _,
)
