use Rattle.std.proofs.Common.{◌≡◌, ◌≤◌, ◌+◌, false}
use Rattle.omega_base_tests.proofs.lock.take_turns.Given as goal

-- the seat has a turn for each round that is left
abbrev pub invariant-loop : goal.invariant-loop
invariant-loop g l = (l.seat.of ≡ l.fn.seat.of) × (l.seat.holds ≡ false) × (l.end ≤ l.seat.turns + l.counter)
