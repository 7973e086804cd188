use Rattle.std.proofs.Common.{◌≡◌, ◌++◌}
use Rattle.std.specs.Prelude.{map, All, vec_capacity}
use Rattle.std.specs.Vec.Iter.{into_iter_items}
use Rattle.omega_shared.specs.Passes.{IsPassSeat, pass_at}
use Rattle.omega_shared.proofs.shared.seats_of.Given as goal

-- the seats so far are those of the passes so far
abbrev pub invariant-loop-pass : goal.invariant-loop-pass
invariant-loop-pass l =
    (l.yielded ++ into_iter_items l.pass-iterator ≡ l.fn.passes.items) × (map pass_at l.seats.items ≡ l.yielded)
    × All IsPassSeat l.seats.items × (vec_capacity l.seats ≡ vec_capacity l.fn.seats)
