use Rattle.std.proofs.Common.{ℕ, ◌∙◌, ◌<◌, length, get_or, set, subst, sym, ap}
use Rattle.std.proofs.lemmas.List.{get_or_default}
use Rattle.std.proofs.lemmas.List.Edits.{map_over_more}
use Rattle.omega_model.specs.Reply.{withdrawn_for}
use Rattle.omega_cell.proofs.deciding.withdraw.Goals as goal

pub loop-judgement-preserved : goal.loop-judgement-preserved
loop-judgement-preserved c =
    let old = c.args.judgements.now.items in
    let now = c.loop-judgement.judgement-items in
    let i = c.loop-judgement.judgement-index in
    let item = get_or now i c.judgement-item.result in
    let below : i < length old = subst (λ xs. i < length xs) c.deref_mut-judgement-items.ensures.value c.loop-judgement-test.true in
    let within : i < length now = subst (λ (n : ℕ). i < n) (sym c.loop-judgement.auto.judgement-items) c.loop-judgement-test.true in
    ap (set now i) c.withdraw_one.ensures
    ∙ map_over_more (withdrawn_for c.args.place) old now i item below c.loop-judgement.invariant (sym (get_or_default now i item c.judgement-item.result within))
