use Rattle.std.proofs.Common.{rules}
use Rattle.omega_lock.proofs.Opening.{opening_keeps}
use Rattle.omega_lock.proofs.lock.Lock.begin.Goals as goal

pub new-requires-2 : goal.new-requires-2
new-requires-2 g c = opening_keeps g.T.Counted.entries g.T.Counted.number _ c.args.value _ _ (search rules) (search rules) (search rules)
