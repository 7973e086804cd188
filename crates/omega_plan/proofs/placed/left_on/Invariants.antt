use Rattle.std.proofs.Common.{◌≡◌, drop}
use Rattle.omega_model.specs.Need.{minus}
use Rattle.omega_running.specs.Staying.{staying_on}
use Rattle.omega_plan.proofs.placed.left_on.Given as goal

abbrev pub invariant-loop-task : goal.invariant-loop-task
invariant-loop-task l = minus l.left (staying_on l.prec (drop l.task-index l.tasks) l.machine) ≡ minus l.fn.amount (staying_on l.prec l.tasks l.machine)
