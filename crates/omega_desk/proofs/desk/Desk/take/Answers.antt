use Rattle.std.proofs.Common.{◌≡◌, ◌+◌, ◌++◌, ◌∙◌, ℕ, List, Some, sym, ap, subst}
use Rattle.std.specs.Prelude.{option_to_list}
use Rattle.omega_model.specs.Work.{Standing, after_outcomes, ends_request, fresh}
use Rattle.omega_model.specs.declared.claims.Outcome.{Outcome}
use Rattle.omega_model.specs.declared.wishes.Request.{Request}
use Rattle.omega_desk.specs.Counts.{count_of}
use Rattle.omega_desk.specs.Desks.{DeskState, IsDesk, left_at}
use Rattle.omega_desk.specs.First.{first_request}
use Rattle.omega_desk.proofs.Desks.{moved, stayed}
use Rattle.omega_desk.proofs.Ended.{ended}
use Rattle.omega_desk.proofs.desk.Desk.take.Goals as goal

pub invariant_of-self : goal.invariant_of-self
invariant_of-self c =
    let d = c.self.inside in
    let first = ap first_request (sym c.take.ensures.value) ∙ sym c.with_all.ensures ∙ c.in-Some.is in
    let desk = subst (λ p. IsDesk p d.waiting.items d.attempts d.taken d.failures) first c.self.invariant in
    moved c.in-Some.request d.waiting.items d.attempts d.taken d.failures _ c.as_slice-outcomes.result.now desk c.note-failing.ensures.others c.note-failing.ensures.counts
    _ _ c.next_of.ensures.items c.next_of.ensures.rest

pub invariant_of-self-else-ends_request-2 : goal.invariant_of-self-else-ends_request-2
invariant_of-self-else-ends_request-2 c =
    let d = c.self.inside in
    let first = ap first_request (sym c.take.ensures.value) ∙ sym c.with_all.ensures ∙ c.in-Some.is in
    let desk = subst (λ p. IsDesk p d.waiting.items d.attempts d.taken d.failures) first c.self.invariant in
    stayed c.in-Some.request d.waiting.items d.attempts d.taken d.failures _ c.as_slice-outcomes.result.now desk c.note-failing.ensures.others c.note-failing.ensures.counts
    _ c.rest_of-rest.ensures

pub invariant_of-self-else-ends_request-4 : goal.invariant_of-self-else-ends_request-4
invariant_of-self-else-ends_request-4 c =
    let d = c.self.inside in
    let first = ap first_request (sym c.take.ensures.value) ∙ sym c.with_all.ensures ∙ c.in-Some.is in
    let desk = subst (λ p. IsDesk p d.waiting.items d.attempts d.taken d.failures) first c.self.invariant in
    stayed c.in-Some.request d.waiting.items d.attempts d.taken d.failures _ c.as_slice-outcomes.result.now desk c.note-failing.ensures.others c.note-failing.ensures.counts
    _ c.rest_of-rest.ensures

pub returns-then-ends_request-clause-left : goal.returns-then-ends_request-clause-left
returns-then-ends_request-clause-left c =
    let d = c.self.inside in
    let request : Request = c.in-Some.request in
    let outcomes : List Outcome = c.as_slice-outcomes.result.now in
    let standing : Standing = record { requests = option_to_list (first_request d.present) ++ d.waiting.items; taken = d.taken; failing = count_of d.failures } in
    let left : Standing = fresh (count_of c.note-failing.new.failures) (option_to_list (first_request c.next_of.result) ++ c.next_of.new.waiting.items) in
    let first = ap first_request (sym c.take.ensures.value) ∙ sym c.with_all.ensures ∙ c.in-Some.is in
    let ends = sym (c.ends_request.ensures request c.rest_of-rest.ensures) ∙ c.if-ends_request.true in
    let over : after_outcomes d.settings standing standing.requests outcomes ≡ Some left =
    ended d.settings standing standing.requests request d.waiting.items _ outcomes (count_of c.note-failing.new.failures)
    (ap (λ p. option_to_list p ++ d.waiting.items) first)
    (ap (λ (n : ℕ). ends_request d.settings (d.taken + 1) n request outcomes) (sym c.note-failing.ensures.count) ∙ ends)
    c.next_of.ensures.items c.note-failing.ensures.counts in
    subst (λ (desk : DeskState). after_outcomes desk.settings (left_at desk) desk.requests c.args.reply.now.outcomes ≡ Some left) c.self.view_is
    (subst (λ (os : List Outcome). after_outcomes d.settings standing standing.requests os ≡ Some left) c.as_slice-outcomes.ensures over)
