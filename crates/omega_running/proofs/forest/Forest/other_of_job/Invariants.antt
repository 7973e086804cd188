use Rattle.std.proofs.Common.{◌≡◌}
use Rattle.omega_running.proofs.Others.{other_below}
use Rattle.omega_running.proofs.forest.Forest.other_of_job.Given as goal

abbrev pub invariant-loop-share : goal.invariant-loop-share
invariant-loop-share l = l.first ≡ other_below l.share l.self.tasks l.job l.machine l.gone
