use Rattle.std.proofs.Common.{length}
use Rattle.omega_running.proofs.standing.+task_in.Given as goal

abbrev pub decreases-task_in : goal.decreases-task_in
decreases-task_in l = length l.tasks.now
