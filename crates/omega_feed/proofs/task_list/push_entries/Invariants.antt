use Rattle.std.proofs.Common.{◌≡◌, ◌++◌, drop}
use Rattle.std.specs.List.{filter_map}
use Rattle.omega_feed.specs.Slots.{entry_of}
use Rattle.omega_feed.proofs.task_list.push_entries.Given as goal

abbrev pub invariant-loop-slot : goal.invariant-loop-slot
invariant-loop-slot l = l.found.items ++ filter_map (entry_of l.job) (drop l.slot-index l.slots) ≡ l.fn.found.items ++ filter_map (entry_of l.job) l.slots
