use Rattle.std.proofs.Common.{take}
use Rattle.omega_feed.specs.Last.{AreLast}
use Rattle.omega_feed.proofs.last.last_of.Given as goal

abbrev pub invariant-loop-row : goal.invariant-loop-row
invariant-loop-row g l =
    AreLast _ g.R.Named.name g.R.Named.amount g.R.Named.most l.last (take l.row-index l.rows)
