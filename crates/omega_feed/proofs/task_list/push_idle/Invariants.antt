use Rattle.std.proofs.Common.{◌≡◌, ◌++◌, drop, map}
use Rattle.std.specs.List.{filter}
use Rattle.omega_feed.specs.Slots.{is_idle}
use Rattle.omega_feed.specs.declared.task_list.Slot.{Slot}
use Rattle.omega_feed.proofs.task_list.push_idle.Given as goal

abbrev pub invariant-loop-slot : goal.invariant-loop-slot
invariant-loop-slot l =
    l.jobs.items ++ map (λ (slot : Slot). slot.key.job) (filter (is_idle l.running.tasks) (drop l.slot-index l.slots))
    ≡ l.fn.jobs.items ++ map (λ (slot : Slot). slot.key.job) (filter (is_idle l.running.tasks) l.slots)
