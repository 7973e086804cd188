use Rattle.std.proofs.Common.{ℕ, Option, ap, sym, ◌∙◌}
use Rattle.std.specs.List.{fold, zip}
use Rattle.std.specs.Iterator.Adapters.{zip_first, zip_second}
use Rattle.std.specs.Slice.Iter.{iter_rest}
use Rattle.std.proofs.lemmas.Slice.Zip.{Zip-more, either_empty_from_Zip}
use Rattle.omega_model.specs.declared.claims.Claim.{Claim}
use Rattle.omega_model.specs.declared.claims.Judgement.{Judgement}
use Rattle.omega_pieces.specs.Due.{due_after, due_at, due_when}
use Rattle.omega_pieces.proofs.Zipped.{zipped_next, zipped_out}
use Rattle.omega_pieces.proofs.ends_due.EndsDue.claims.Goals as goal

pub loop-claim-preserved : goal.loop-claim-preserved
loop-claim-preserved c trace rows history keeps key =
    let left = c.loop-claim.claim-iterator in
    let right = c.next.new.self in
    let f : Option ℕ → Claim × Judgement → Option ℕ = due_after key (due_when trace history c.args.time key) in
    let more = Zip-more left right c.next.result _ c.in-Some.is c.next.ensures.steps in
    ap (λ (due : Option ℕ). fold f due (zip (iter_rest (zip_first right)) (iter_rest (zip_second right)))) (c.in_ok-claim.ensures trace rows history keeps key)
    ∙ sym (zipped_next f (due_at c.loop-claim.self key) (iter_rest (zip_first left)) (iter_rest (zip_second left)) _ _ (iter_rest (zip_first right)) (iter_rest (zip_second right)) more.0 more.1)
    ∙ c.loop-claim.invariant trace rows history keeps key

pub returns : goal.returns
returns c trace rows history keeps key =
    let left = c.loop-claim.claim-iterator in
    let none = zipped_out (iter_rest (zip_first left)) (iter_rest (zip_second left)) (either_empty_from_Zip left c.next.new.self c.next.result c.in-None.is c.next.ensures.steps) in
    sym (ap (fold (due_after key (due_when trace history c.args.time key)) (due_at c.loop-claim.self key)) none)
    ∙ c.loop-claim.invariant trace rows history keeps key
