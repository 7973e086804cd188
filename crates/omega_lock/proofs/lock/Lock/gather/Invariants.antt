use Rattle.std.specs.Vec.Iter.{into_iter_items}
use Rattle.std.proofs.Common.{◌≡◌, ◌+◌, true, [], ◌∷◌, ◌++◌, length}
use Rattle.std.specs.Prelude.{map}
use Rattle.omega_lock.specs.Views.{Rests, lists}
use Rattle.omega_lock.specs.Gathering.{HasAll, pair_of}
use Rattle.omega_lock.proofs.lock.Lock.gather.Given as goal

abbrev pub invariant-loop-seat : goal.invariant-loop-seat
invariant-loop-seat g l =
    (l.yielded ++ into_iter_items l.seat-iterator ≡ l.fn.seats.items)
    × (l.all.table_id ≡ l.self.of) × (l.all.me.0.has_number ≡ true) × Rests l.all.me.0 × (l.all.me.1 ≡ []) × (length (lists l.all.me.0) ≡ length l.yielded + 1)
    × HasAll l.all.me.0 (l.fn.first ∷ l.yielded)
    × (lists l.all.me.0 ≡ map pair_of (l.fn.first ∷ l.yielded))
