use Rattle.std.proofs.Common.{◌≡◌, vec_len, vec_capacity}
use Rattle.omega_running.proofs.table.fill.Given as goal

abbrev pub invariant-loop-made : goal.invariant-loop-made
invariant-loop-made l = (vec_len l.pool ≡ l._made) × (vec_capacity l.pool ≡ vec_capacity l.fn.pool)
