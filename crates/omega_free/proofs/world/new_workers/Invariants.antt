use Rattle.std.proofs.Common.{◌≡◌, length}
use Rattle.omega_free.specs.FreeWorkers.{AreNewWorkers}
use Rattle.omega_free.proofs.world.new_workers.Given as goal

abbrev pub invariant-loop-scheduler : goal.invariant-loop-scheduler
invariant-loop-scheduler l = (length l.workers.items ≡ l.scheduler) × AreNewWorkers l.settings 0 l.workers.items
