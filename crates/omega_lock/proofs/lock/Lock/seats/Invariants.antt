use Rattle.std.proofs.Common.{◌≡◌, ◌≤◌}
use Rattle.std.specs.Prelude.{vec_capacity, vec_len}
use Rattle.omega_lock.specs.Seats.{new_seats}
use Rattle.omega_lock.proofs.lock.Lock.seats.Given as goal

abbrev pub invariant-loop-number : goal.invariant-loop-number
invariant-loop-number g l = (l.number ≤ l.callers) × (l.first.table_id ≡ l.fn.first.table_id) × (l.first.me ≡ l.fn.first.me)
    × (l.seats.items ≡ new_seats l.self.of l.turns l.self.first l.number) × (vec_capacity l.seats ≡ vec_capacity l.fn.seats) × (vec_len l.seats ≡ l.number)
