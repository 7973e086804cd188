use Rattle.std.proofs.Common.{◌≡◌, ◌<◌, ◌+◌, ◌∙◌, Bool, sym, ap, subst, arith}
use Rattle.std.specs.Prelude.{◌||◌}
use Rattle.omega_model.specs.Policy.{schedulers}
use Rattle.omega_workers.specs.WorkerSteps.{is_committed}
use Rattle.omega_rounds.proofs.PlayedTurns.{IsCommitting, committing_all, committing_more}
use Rattle.omega_rounds.proofs.turns.commit_all.Goals.{then-is_committed, else-is_committed}
use Rattle.omega_rounds.proofs.turns.commit_all.Goals as goal

pub loop-scheduler-preserved : goal.loop-scheduler-preserved
loop-scheduler-preserved c =
    let stepped = c.in_ok-stepped.stepped in
    let known : c.loop-scheduler.scheduler < schedulers c.args.world.now.stage.settings =
    omega (arith, c.loop-scheduler-test.true, c.schedulers-scheduler-end.ensures) in
    let either : c.if-is_committed.committed ≡ (is_committed stepped || c.loop-scheduler.committed) =
    elim c.if-is_committed.branch [
      | then-is_committed w ↦ w.committed-is ∙ w.if-is_committed.true ∙ sym (ap (λ (b : Bool). b || c.loop-scheduler.committed) (sym c.is_committed.ensures ∙ w.if-is_committed.true))
      | else-is_committed w ↦ w.committed-is ∙ sym (ap (λ (b : Bool). b || c.loop-scheduler.committed) (sym c.is_committed.ensures ∙ w.if-is_committed.false))
    ] in
    subst (λ (b : Bool). IsCommitting c.args.world.now c.step.new.self b (c.loop-scheduler.scheduler + 1)) (sym either)
    (committing_more c.args.world.now c.loop-scheduler.world c.step.new.self c.loop-scheduler.committed c.loop-scheduler.scheduler stepped c.loop-scheduler.invariant known
    c.step.ensures.stage c.in_ok-stepped.ensures.step c.in_ok-stepped.ensures.to_do)

pub returns-clause-committed : goal.returns-clause-committed
returns-clause-committed c =
    let all : c.loop-scheduler.scheduler ≡ schedulers c.args.world.now.stage.settings =
    omega (arith, c.loop-scheduler-test.false, c.loop-scheduler.auto.scheduler-end, c.schedulers-scheduler-end.ensures) in
    committing_all c.args.world.now c.loop-scheduler.world c.loop-scheduler.committed c.loop-scheduler.scheduler c.loop-scheduler.invariant all
