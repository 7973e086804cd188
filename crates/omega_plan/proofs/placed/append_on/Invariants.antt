use Rattle.std.proofs.Common.{◌≡◌, ◌++◌, drop}
use Rattle.std.specs.List.{filter}
use Rattle.omega_model.specs.Cell.{is_on}
use Rattle.omega_plan.proofs.placed.append_on.Given as goal

abbrev pub invariant-loop-task : goal.invariant-loop-task
invariant-loop-task l = l.found.items ++ filter (is_on l.machine) (drop l.task-index l.tasks) ≡ l.fn.found.items ++ filter (is_on l.machine) l.tasks
