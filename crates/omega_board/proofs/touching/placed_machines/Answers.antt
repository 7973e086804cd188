use Rattle.std.proofs.Common.{◌||◌, ◌==◌, sym, ap, ◌∙◌}
use Rattle.std.specs.List.{list_any}
use Rattle.std.specs.Iterator.Adapters.{zip_first, zip_second}
use Rattle.std.specs.Slice.Iter.{iter_rest}
use Rattle.std.proofs.Math.Bool.{or-false}
use Rattle.std.proofs.lemmas.List.Filters.{dedup_is}
use Rattle.std.proofs.lemmas.List.Sorted.{list_any-IsPermutation}
use Rattle.std.proofs.lemmas.Map.Keys.{IsStrictlyIncreasing-dedup}
use Rattle.std.proofs.lemmas.Slice.Zip.{either_empty_from_Zip}
use Rattle.omega_model.specs.Touches.{places_on}
use Rattle.omega_board.specs.Numbers.{is_among}
use Rattle.omega_board.proofs.Counts.{zipped_out}
use Rattle.omega_board.proofs.Numbers.{once_kept}
use Rattle.omega_board.proofs.touching.placed_machines.Goals as goal

pub returns-clause-rises : goal.returns-clause-rises
returns-clause-rises c = rw (dedup_is _ _ _ c.dedup.ensures.filtered) (IsStrictlyIncreasing-dedup _ c.sort_unstable.ensures.sorted)

pub returns-clause-placed : goal.returns-clause-placed
returns-clause-placed c = λ id.
    let noted = c.loop-claim.machines.items in
    let sorted = c.sort_unstable.new.self.items in
    let left = c.loop-claim.claim-iterator in
    let none = zipped_out (iter_rest (zip_first left)) (iter_rest (zip_second left)) (either_empty_from_Zip left c.next.new.self c.next.result c.in-None.is c.next.ensures.steps) in
    ap (λ ids. is_among ids id) (dedup_is _ _ _ c.dedup.ensures.filtered) ∙ once_kept sorted id
    ∙ sym (list_any-IsPermutation (λ other. other == id) noted sorted c.sort_unstable.ensures.permutation)
    ∙ sym (or-false (is_among noted id)) ∙ sym (ap (λ decided. is_among noted id || list_any (places_on id) decided) none)
    ∙ c.loop-claim.invariant.1 id
