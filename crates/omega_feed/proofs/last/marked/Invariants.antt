use Rattle.std.proofs.Common.{take}
use Rattle.omega_feed.specs.Marks.{AreMarked}
use Rattle.omega_feed.proofs.last.marked.Given as goal

abbrev pub invariant-loop-row : goal.invariant-loop-row
invariant-loop-row g l = AreMarked g.R.Named.name l.marks (take l.row-index l.rows)
