use Rattle.std.proofs.Common.{Bool, nat_le, not, sym, ap, ◌∙◌, subst}
use Rattle.std.specs.List.{All}
use Rattle.std.proofs.lemmas.List.Elements.{All-filter}
use Rattle.omega_model.specs.declared.wishes.Request.{Request}
use Rattle.omega_desk.specs.Counts.{count_of, IsCounted}
use Rattle.omega_desk.specs.Desks.{DeskState}
use Rattle.omega_desk.specs.First.{first_request}
use Rattle.omega_desk.specs.Walks.{HasDistinctWishes}
use Rattle.omega_desk.proofs.Desks.{opened}
use Rattle.omega_desk.proofs.desk.Desk.begin.Goals as goal

pub invariant_of-self-2 : goal.invariant_of-self-2
invariant_of-self-2 c =
    let d = c.self.inside in
    let keeps : Request → Bool = λ request. not (nat_le d.settings.give_up (count_of d.failures request.job)) in
    let counted : Request → Type 0 = λ request. IsCounted c.reserve.new.failures request.job in
    let none = ap (λ (desk : DeskState). desk.requests) c.self.view_is ∙ c.requires.no_work in
    let kept = c.from.ensures.0 ∙ c.still_tried-requests.ensures in
    let distinct = subst (λ rs. All HasDistinctWishes rs) (sym kept) (All-filter keeps HasDistinctWishes c.args.requests c.requires.distinct) in
    let room = subst (λ rs. All counted rs) (c.as_slice.ensures.value ∙ sym c.from.ensures.0) c.in_ok-reserve.ensures.room in
    opened (first_request d.present) d.waiting.items d.attempts d.taken d.failures _ c.self.invariant none c.reserve.ensures.counts
    c.from.result.items distinct room _ _ c.next_of.ensures.items c.next_of.ensures.rest
