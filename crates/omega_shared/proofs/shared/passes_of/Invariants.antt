use Rattle.std.proofs.Common.{◌≡◌, ◌++◌}
use Rattle.std.specs.Prelude.{map, All, vec_capacity}
use Rattle.std.specs.Vec.Iter.{into_iter_items}
use Rattle.omega_shared.specs.Passes.{IsPassSeat, pass_at}
use Rattle.omega_shared.proofs.shared.passes_of.Given as goal

-- the seats so far are passes, and those that remain are seats of passes
abbrev pub invariant-loop-seat : goal.invariant-loop-seat
invariant-loop-seat l =
    (l.yielded ++ into_iter_items l.seat-iterator ≡ l.fn.seats.items) × (l.passes.items ≡ map pass_at l.yielded)
    × All IsPassSeat (into_iter_items l.seat-iterator) × (vec_capacity l.passes ≡ vec_capacity l.fn.passes)
