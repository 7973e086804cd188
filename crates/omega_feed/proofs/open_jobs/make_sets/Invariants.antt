use Rattle.std.proofs.Common.{◌+◌, ◌-◌, length}
use Rattle.omega_feed.specs.Open.{SameIsOpen}
use Rattle.omega_feed.proofs.open_jobs.make_sets.Given as goal

abbrev pub invariant-loop-alloc : goal.invariant-loop-alloc
invariant-loop-alloc l = SameIsOpen l.fn.places.items l.places.items

abbrev pub decreases-loop-alloc : goal.decreases-loop-alloc
decreases-loop-alloc l = l.scheduler + 1 - length l.places.items
