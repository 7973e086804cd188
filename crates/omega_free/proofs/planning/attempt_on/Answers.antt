use Rattle.std.proofs.Common.{◌≡◌, ◌∙◌, sym, subst}
use Rattle.std.specs.Prelude.{IfOk}
use Rattle.omega_model.specs.declared.wishes.Request.{Request}
use Rattle.omega_free.specs.KeptAttempts.{IsCounted, KeptAttempt, attempt_for}
use Rattle.omega_free.proofs.KeptItems.{part_is_whole}
use Rattle.omega_free.proofs.planning.attempt_on.Goals as goal

pub returns-then-wants_all-clause-attempt : goal.returns-then-wants_all-clause-attempt
returns-then-wants_all-clause-attempt c =
    let whole = part_is_whole c.args.wanted.now.tasks c.args.request.now (sym c.wants_all.ensures ∙ c.if-wants_all.true) in
    subst (λ (part : Request). IfOk c.attempt_for.result (λ (kept : KeptAttempt). IsCounted c.args.cell.now.history c.args.desk.now
    → kept.attempt ≡ attempt_for c.args.settings.now c.args.cell.now.history c.args.now c.args.desk.now.scheduler part)) (sym whole) c.attempt_for.ensures.attempt
