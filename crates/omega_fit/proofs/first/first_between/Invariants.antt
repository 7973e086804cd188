use Rattle.std.proofs.Common.{ℕ, ◌<◌, ◌≤◌, false}
use Rattle.omega_fit.proofs.first.first_between.Given as goal

abbrev pub invariant-loop-position : goal.invariant-loop-position
invariant-loop-position g l = (n : ℕ) → l.fn.from ≤ n → n < l.position → goal.F-post g l.fn.test n false
