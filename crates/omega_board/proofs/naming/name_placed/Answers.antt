use Rattle.std.proofs.Common.{ap, ◌∙◌}
use Rattle.std.specs.List.{zip}
use Rattle.std.specs.Iterator.Adapters.{zip_first, zip_second}
use Rattle.std.specs.Slice.Iter.{iter_rest}
use Rattle.std.proofs.lemmas.Slice.Zip.{either_empty_from_Zip}
use Rattle.omega_board.proofs.Counts.{zipped_out}
use Rattle.omega_model.specs.Touches.{is_claimed}
use Rattle.omega_board.proofs.Numbers.{none_added}
use Rattle.omega_board.proofs.naming.name_placed.Goals as goal

pub returns : goal.returns
returns c = λ id.
    let left = c.loop-claim.claim-iterator in
    let none = zipped_out (iter_rest (zip_first left)) (iter_rest (zip_second left)) (either_empty_from_Zip left c.next.new.self c.next.result c.in-None.is c.next.ensures.steps) in
    none_added c.loop-claim.machines.items id (is_claimed (zip (iter_rest (zip_first left)) (iter_rest (zip_second left))) id)
    (ap (λ decided. is_claimed decided id) none)
    ∙ c.loop-claim.invariant id
