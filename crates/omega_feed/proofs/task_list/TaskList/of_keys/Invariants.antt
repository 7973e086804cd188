use Rattle.std.proofs.Common.{◌≡◌, []}
use Rattle.omega_feed.specs.Slots.{SlotsRise, tasks_in}
use Rattle.omega_feed.proofs.task_list.TaskList.of_keys.Given as goal

abbrev pub invariant-loop-key : goal.invariant-loop-key
invariant-loop-key l = SlotsRise l.slots.items × (tasks_in l.slots.items ≡ [])
