use Rattle.std.proofs.Common.{◌≡◌, drop}
use Rattle.std.specs.List.{filter}
use Rattle.omega_model.specs.Cell.{total}
use Rattle.omega_model.specs.Need.{minus}
use Rattle.omega_plan.specs.Leaving.{stays}
use Rattle.omega_plan.proofs.evicting.left_by_staying.Given as goal

abbrev pub invariant-loop-task : goal.invariant-loop-task
invariant-loop-task l = minus l.left (total (filter (stays l.wish) (drop l.task-index l.tasks))) ≡ minus l.fn.amount (total (filter (stays l.wish) l.tasks))
