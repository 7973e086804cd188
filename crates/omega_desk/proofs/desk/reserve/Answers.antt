use Rattle.std.proofs.Common.{◌∙◌, ℕ, ap, subst}
use Rattle.std.proofs.lemmas.List.Elements.{All-more}
use Rattle.omega_model.specs.declared.wishes.Request.{Request}
use Rattle.omega_desk.specs.Counts.{IsCounted}
use Rattle.omega_desk.proofs.desk.reserve.Goals as goal

pub loop-request-preserved : goal.loop-request-preserved
loop-request-preserved c =
    let ensures = c.in_ok-reserve.ensures in
    let IsCountedNow : Request → Type 0 = λ request. IsCounted c.reserve.new.self request.job in
    let own = c.job.ensures ∙ ap (λ (request : Request). request.job) c.request-item.is in (
      λ job. ensures.counts job ∙ c.loop-request.invariant.0 job,
      All-more IsCountedNow c.args.requests.now c.loop-request.request-index c.request-item.result
          c.loop-request-test.true
          (λ k d below. ensures.others _ (c.loop-request.invariant.1 k d below))
          (subst (λ (number : ℕ). IsCounted c.reserve.new.self number) own ensures.room),
    )
