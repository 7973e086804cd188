use Rattle.omega_rounds.specs.Beginning.{AreNewWorkers}
use Rattle.omega_rounds.proofs.world.new_workers.Given as goal

abbrev pub invariant-loop-scheduler : goal.invariant-loop-scheduler
invariant-loop-scheduler l = AreNewWorkers l.settings l.scheduler l.workers.items
