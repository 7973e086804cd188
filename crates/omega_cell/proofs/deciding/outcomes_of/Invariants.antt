use Rattle.std.proofs.Common.{◌≡◌, ◌++◌, ◌≤◌, length, drop}
use Rattle.std.specs.Prelude.{vec_len, vec_capacity}
use Rattle.std.specs.Vec.Iter.{into_iter_items}
use Rattle.omega_model.specs.Work.{outcomes_of}
use Rattle.omega_cell.specs.Rooms.{EvictWithin, victim_counts}
use Rattle.omega_cell.proofs.deciding.outcomes_of.Given as goal

abbrev pub invariant-loop-i : goal.invariant-loop-i
invariant-loop-i l =
    (l.outcomes.items ++ outcomes_of (drop l.i l.claims) (drop l.i l.reply) ≡ outcomes_of l.claims l.reply)
    × (into_iter_items l.rooms ≡ victim_counts (drop l.i l.claims))
    × EvictWithin (drop l.i l.claims) (drop l.i l.reply)
    × (vec_len l.outcomes ≡ l.i)
    × (length l.claims ≤ vec_capacity l.outcomes)
