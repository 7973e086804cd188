use Rattle.std.proofs.Common.{◌≡◌, ◌∷◌, ◌∙◌, List, sym, subst}
use Rattle.std.specs.List.{zip}
use Rattle.std.specs.Iterator.Adapters.{zip_first, zip_second}
use Rattle.std.specs.Slice.Iter.{iter_rest}
use Rattle.std.proofs.lemmas.Slice.Zip.{Zip-more, either_empty_from_Zip}
use Rattle.omega_model.specs.declared.claims.Claim.{Claim}
use Rattle.omega_model.specs.declared.claims.Judgement.{Judgement}
use Rattle.omega_model.specs.Touches.{is_claimed}
use Rattle.omega_board.proofs.Counts.{zipped_out}
use Rattle.omega_plan.specs.Levels.{LevelsTellBut}
use Rattle.omega_plan.specs.Telling.{is_this_or}
use Rattle.omega_plan.proofs.Noted.{levels_where}
use Rattle.omega_plan.proofs.Tells.{zipped_more, placed_more, passed_more}
use Rattle.omega_plan.proofs.levels.Levels.note_placed.Goals as goal

pub loop-claim-preserved-then-is_placed : goal.loop-claim-preserved-then-is_placed
loop-claim-preserved-then-is_placed c = λ cell tell.
    let left = c.loop-claim.claim-iterator in
    let rest = c.next.new.self in
    let claim : Claim = c.in-Some.claim.now in
    let judgement : Judgement = c.in-Some.judgement.now in
    let later : List (Claim × Judgement) = zip (iter_rest (zip_first rest)) (iter_rest (zip_second rest)) in
    let left_claims : List (Claim × Judgement) = zip (iter_rest (zip_first left)) (iter_rest (zip_second left)) in
    let more = Zip-more left rest c.next.result (c.in-Some.claim, c.in-Some.judgement) c.in-Some.is c.next.ensures.steps in
    let first : left_claims ≡ (claim, judgement) ∷ later = zipped_more _ _ _ _ claim judgement more.0 more.1 in
    c.note.ensures cell (is_claimed later)
    (levels_where (is_claimed left_claims) (is_this_or claim.machine (is_claimed later)) (λ id out. placed_more left_claims later claim judgement first (sym c.if-is_placed.ensures) id ∙ out)
    cell c.loop-claim.self (c.loop-claim.invariant cell tell))

pub loop-claim-preserved : goal.loop-claim-preserved
loop-claim-preserved c = λ cell tell.
    let left = c.loop-claim.claim-iterator in
    let rest = c.next.new.self in
    let claim : Claim = c.in-Some.claim.now in
    let judgement : Judgement = c.in-Some.judgement.now in
    let later : List (Claim × Judgement) = zip (iter_rest (zip_first rest)) (iter_rest (zip_second rest)) in
    let left_claims : List (Claim × Judgement) = zip (iter_rest (zip_first left)) (iter_rest (zip_second left)) in
    let more = Zip-more left rest c.next.result (c.in-Some.claim, c.in-Some.judgement) c.in-Some.is c.next.ensures.steps in
    let first : left_claims ≡ (claim, judgement) ∷ later = zipped_more _ _ _ _ claim judgement more.0 more.1 in
    levels_where (is_claimed left_claims) (is_claimed later) (λ id out. passed_more left_claims later claim judgement first (sym c.if-is_placed.ensures) id ∙ out)
    cell c.loop-claim.self (c.loop-claim.invariant cell tell)

pub returns : goal.returns
returns c = λ cell tell.
    let left = c.loop-claim.claim-iterator in
    let none = zipped_out (iter_rest (zip_first left)) (iter_rest (zip_second left)) (either_empty_from_Zip left c.next.new.self c.next.result c.in-None.is c.next.ensures.steps) in
    subst (λ (decided : List (Claim × Judgement)). LevelsTellBut (is_claimed decided) cell c.loop-claim.self) none (c.loop-claim.invariant cell tell)
