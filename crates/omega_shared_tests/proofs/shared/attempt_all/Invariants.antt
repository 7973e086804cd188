use Rattle.std.proofs.Common.{◌≡◌, ◌≤◌, ◌+◌, ◌*◌}
use Rattle.omega_copy.specs.Copies.{CopyOf}
use Rattle.omega_shared_tests.proofs.shared.attempt_all.Given as goal

-- the copy stands for what the pass has seen, and the pass has two turns for each round that is left
abbrev pub invariant-loop : goal.invariant-loop
invariant-loop g l =
    (l.pass.of ≡ l.fn.pass.of) × CopyOf l.copy l.pass.seen × (2 * l.end ≤ l.pass.turns + 2 * l.counter)
