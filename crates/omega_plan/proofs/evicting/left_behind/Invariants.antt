use Rattle.std.proofs.Common.{◌≡◌, drop}
use Rattle.std.specs.List.{filter}
use Rattle.omega_model.specs.Cell.{goes_before, total}
use Rattle.omega_model.specs.Need.{minus}
use Rattle.omega_plan.proofs.evicting.left_behind.Given as goal

abbrev pub invariant-loop-task : goal.invariant-loop-task
invariant-loop-task l = minus l.left (total (filter (goes_before l.other) (drop l.task-index l.tasks))) ≡ minus l.fn.amount (total (filter (goes_before l.other) l.tasks))
