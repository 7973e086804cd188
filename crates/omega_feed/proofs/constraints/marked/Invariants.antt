use Rattle.std.proofs.Common.{take}
use Rattle.omega_feed.specs.Marks.{AreMarkedTasks}
use Rattle.omega_feed.proofs.constraints.marked.Given as goal

abbrev pub invariant-loop-row : goal.invariant-loop-row
invariant-loop-row l = AreMarkedTasks l.marks (take l.row-index l.rows)
