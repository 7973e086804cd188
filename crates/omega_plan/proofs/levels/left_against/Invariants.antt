use Rattle.std.proofs.Common.{◌≡◌, drop}
use Rattle.std.specs.List.{filter}
use Rattle.omega_model.specs.Cell.{total}
use Rattle.omega_model.specs.Need.{minus}
use Rattle.omega_running.specs.Staying.{stays_against}
use Rattle.omega_plan.proofs.levels.left_against.Given as goal

abbrev pub invariant-loop-task : goal.invariant-loop-task
invariant-loop-task l = minus l.left (total (filter (stays_against l.prec) (drop l.task-index l.tasks))) ≡ minus l.fn.amount (total (filter (stays_against l.prec) l.tasks))
