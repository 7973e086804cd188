use Rattle.std.proofs.Common.{◌≡◌, ◌||◌, ℕ}
use Rattle.std.specs.List.{zip}
use Rattle.std.specs.Iterator.Adapters.{zip_first, zip_second}
use Rattle.std.specs.Slice.Iter.{iter_rest}
use Rattle.omega_board.specs.Numbers.{is_among}
use Rattle.omega_model.specs.Touches.{is_claimed}
use Rattle.omega_board.proofs.naming.name_placed.Given as goal

abbrev pub invariant-loop-claim : goal.invariant-loop-claim
invariant-loop-claim l =
    (id : ℕ) → (is_among l.machines.items id || is_claimed (zip (iter_rest (zip_first l.claim-iterator)) (iter_rest (zip_second l.claim-iterator))) id)
    ≡ (is_among l.fn.machines.items id || is_claimed (zip l.claims l.reply) id)
