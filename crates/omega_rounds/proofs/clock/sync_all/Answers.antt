use Rattle.std.proofs.Common.{◌<◌, ◌∙◌, subst, arith}
use Rattle.omega_model.specs.Policy.{schedulers}
use Rattle.omega_rounds.specs.Stages.{Stage}
use Rattle.omega_rounds.proofs.InTime.{stands_all}
use Rattle.omega_rounds.proofs.clock.sync_all.Goals as goal

pub loop-scheduler-preserved : goal.loop-scheduler-preserved
loop-scheduler-preserved c = (
  c.in_ok-sync_next.ensures.stage ∙ c.loop-scheduler.invariant.0,
  (
    c.in_ok-sync_next.ensures.count ∙ c.loop-scheduler.invariant.1.0,
    λ timed times stands. c.in_ok-sync_next.ensures.in_turn timed times (c.loop-scheduler.invariant.1.1 timed times stands),
  ),
)

pub returns-clause-synced : goal.returns-clause-synced
returns-clause-synced c timed times stands =
    stands_all timed c.loop-scheduler.world c.loop-scheduler.agenda times _ c.args.base (c.loop-scheduler.invariant.1.1 timed times stands)
    (λ scheduler known waits.
    let below : scheduler < schedulers c.args.world.now.stage.settings = subst (λ (s : Stage). scheduler < schedulers s.settings) c.loop-scheduler.invariant.0 known in
    absurd (omega (arith, below, waits, c.loop-scheduler-test.false, c.loop-scheduler.auto.scheduler-end, c.schedulers-scheduler-end.ensures)))
