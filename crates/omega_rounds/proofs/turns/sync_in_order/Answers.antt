use Rattle.std.proofs.Common.{◌≡◌, arith}
use Rattle.omega_model.specs.Policy.{schedulers}
use Rattle.omega_rounds.proofs.PlayedTurns.{syncing_all, syncing_more}
use Rattle.omega_rounds.proofs.turns.sync_in_order.Goals as goal

pub loop-scheduler-preserved : goal.loop-scheduler-preserved
loop-scheduler-preserved c =
    syncing_more c.args.world.now c.loop-scheduler.world c.step.new.self c.loop-scheduler.scheduler c.in_ok-step.field-0 c.loop-scheduler.invariant
    c.step.ensures.stage c.in_ok-step.ensures.step c.in_ok-step.ensures.to_do

pub returns-clause-synced : goal.returns-clause-synced
returns-clause-synced c =
    let all : c.loop-scheduler.scheduler ≡ schedulers c.args.world.now.stage.settings =
    omega (arith, c.loop-scheduler-test.false, c.loop-scheduler.auto.scheduler-end, c.schedulers-scheduler-end.ensures) in
    syncing_all c.args.world.now c.loop-scheduler.world c.loop-scheduler.scheduler c.loop-scheduler.invariant all
