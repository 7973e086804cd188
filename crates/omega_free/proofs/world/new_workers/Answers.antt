use Rattle.std.proofs.Common.{◌≡◌, ◌+◌, ◌∷◌, [], ℕ, List, length, length-append, sym, subst, arith}
use Rattle.omega_free.specs.FreeWorkers.{AreNewWorkers, IsNewWorker}
use Rattle.omega_free.specs.declared.worker.Worker.{Worker}
use Rattle.omega_free.proofs.FreeWorlds.{new_more}
use Rattle.omega_free.proofs.world.new_workers.Goals as goal

pub loop-scheduler-preserved : goal.loop-scheduler-preserved
loop-scheduler-preserved c =
    let before : List Worker = c.loop-scheduler.workers.items in
    let count = c.loop-scheduler.invariant.0 in
    let place : c.loop-scheduler.scheduler ≡ 0 + length before = omega (arith, count) in
    let more = length-append before (c.new.result ∷ []) in
    subst (λ (workers : List Worker). (length workers ≡ c.loop-scheduler.scheduler + 1) × AreNewWorkers c.args.settings.now 0 workers) (sym c.in_ok-push.ensures.items) (
      omega (arith, more, count),
      new_more c.args.settings.now 0 before c.new.result c.loop-scheduler.invariant.1
          (subst (λ (n : ℕ). IsNewWorker c.args.settings.now n c.new.result) place c.new.ensures),
    )
