use Rattle.std.proofs.Common.{◌≡◌, ◌++◌, drop, map}
use Rattle.std.specs.List.{All}
use Rattle.omega_model.specs.Applying.{CapacityIsInRange}
use Rattle.omega_model.specs.declared.entries.Entry.TheVariants.{End}
use Rattle.omega_feed.proofs.entries.push_ends.Given as goal

abbrev pub invariant-loop-task : goal.invariant-loop-task
invariant-loop-task l =
    (l.entries ++ map (λ task. End task.key task.machine) (drop l.task-index l.tasks) ≡ l.fn.entries ++ map (λ task. End task.key task.machine) l.tasks)
    × (All CapacityIsInRange l.fn.entries → All CapacityIsInRange l.entries)
