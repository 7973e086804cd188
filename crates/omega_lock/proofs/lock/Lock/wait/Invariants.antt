use Rattle.std.proofs.Common.{◌≡◌}
use Rattle.omega_lock.proofs.lock.Lock.wait.Given as goal

abbrev pub invariant-loop : goal.invariant-loop
invariant-loop g l = (l.token.table_id ≡ l.fn.token.table_id) × (l.token.me ≡ l.fn.token.me)
