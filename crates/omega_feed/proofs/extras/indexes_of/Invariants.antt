use Rattle.std.proofs.Common.{◌≡◌, ◌++◌, drop, map}
use Rattle.omega_model.specs.declared.cells.Task.{Task}
use Rattle.omega_feed.proofs.extras.indexes_of.Given as goal

abbrev pub invariant-loop-task : goal.invariant-loop-task
invariant-loop-task l =
    l.found.items ++ map (λ (task : Task). task.key.index) (drop l.task-index l.tasks) ≡ map (λ (task : Task). task.key.index) l.tasks
