use Rattle.std.proofs.Common.{◌≡◌}
use Rattle.omega_model.specs.Cell.{task_at}
use Rattle.omega_running.specs.declared.orders.Order.TheVariants.{ByKey}
use Rattle.omega_running.specs.Order.{IsInOrder}
use Rattle.omega_running.specs.Tree.{tasks_of}
use Rattle.omega_running.proofs.nodes.Tree.find.Given as goal

abbrev pub invariant-down : goal.invariant-down
invariant-down l =
    IsInOrder ByKey (tasks_of l.tree) × (task_at (tasks_of l.tree) l.key ≡ task_at (tasks_of l.fn.self) l.key)
