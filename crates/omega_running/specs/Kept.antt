-- The running tasks as a caller sees them, and what holds of the two forests that keep them.
use Rattle.std.specs.Prelude.{◌≡◌, ◌<◌, ◌≤◌, ◌+◌, ◌^◌, ℕ, List, length}
use Rattle.std.specs.List.{filter}
use Rattle.omega_model.specs.Keys.{key_lt}
use Rattle.omega_model.specs.Cell.{is_on}
use Rattle.omega_model.specs.declared.cells.Task.{Task}
use Rattle.omega_running.specs.declared.orders.Order.TheVariants.{ByKey, ByMachine}
use Rattle.omega_running.specs.Forest.{SpreadTasks}
use Rattle.omega_running.specs.Order.{Rises, IsInOrder}

-- each task's key stands before the keys of all later tasks
abbrev pub KeysRise : List Task → Type 0
KeysRise tasks = Rises (λ a b. key_lt a.key b.key) tasks

-- the running tasks in order of key, and for how many more there is room
pub record RunningTasks : Type 0 where
  pub tasks : List Task
  pub spare : ℕ

-- the two forests have the same tasks on each machine, trees once there is a task or room for one, and the
-- pool has room for the nodes of all tasks; the tasks and those for which there is room are fewer than 2 ^ 32
pub record AreKept (by_key by_machine : SpreadTasks) (count spare capacity : ℕ) : Type 0 where
  pub key_order : by_key.order ≡ ByKey
  pub machine_order : by_machine.order ≡ ByMachine
  pub keys_rise : KeysRise by_key.tasks
  pub machines_rise : IsInOrder ByMachine by_machine.tasks
  pub same : (machine : ℕ) → filter (is_on machine) by_machine.tasks ≡ filter (is_on machine) by_key.tasks
  pub planted : 0 < count + spare → (0 < by_key.trees) × (0 < by_machine.trees)
  pub counted : count ≡ length by_key.tasks
  pub room : count + spare ≤ capacity
  pub few : count + spare < 2 ^ 32
