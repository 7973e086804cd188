use Rattle.std.proofs.Common.{sym, subst}
use Rattle.omega_rounds.specs.Beginning.{AreNewWorkers}
use Rattle.omega_rounds.proofs.NewWorkers.{workers_more}
use Rattle.omega_rounds.proofs.world.new_workers.Goals as goal

pub loop-scheduler-preserved : goal.loop-scheduler-preserved
loop-scheduler-preserved c =
    subst (AreNewWorkers c.args.settings.now _) (sym c.in_ok-push.ensures.items)
    (workers_more c.args.settings.now c.loop-scheduler.scheduler c.loop-scheduler.workers.items c.new.result c.loop-scheduler.invariant
    c.new.ensures.worker c.new.ensures.synced c.new.ensures.left)
