use Rattle.std.proofs.Common.{◌≡◌, ◌+◌, ◌≤◌, ◌||◌, ℕ, length, vec_capacity}
use Rattle.std.specs.List.{list_any, zip}
use Rattle.std.specs.Iterator.Adapters.{zip_first, zip_second}
use Rattle.std.specs.Slice.Iter.{iter_rest}
use Rattle.omega_model.specs.Touches.{places_on}
use Rattle.omega_board.specs.Numbers.{is_among}
use Rattle.omega_board.proofs.touching.placed_machines.Given as goal

abbrev pub invariant-loop-claim : goal.invariant-loop-claim
invariant-loop-claim l =
    (length l.machines.items + length (iter_rest (zip_first l.claim-iterator)) ≤ vec_capacity l.machines)
    × ((id : ℕ) → (is_among l.machines.items id || list_any (places_on id) (zip (iter_rest (zip_first l.claim-iterator)) (iter_rest (zip_second l.claim-iterator)))) ≡ list_any (places_on id) (zip l.claims l.reply))
