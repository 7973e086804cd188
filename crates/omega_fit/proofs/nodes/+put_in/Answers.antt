use Rattle.std.proofs.Common.{rules}
use Rattle.omega_fit.proofs.Puts.{put_left, put_here, put_right}
use Rattle.omega_fit.proofs.nodes.+put_in.Goals as goal
use Rattle.omega_fit.proofs.nodes.+put_in.Goals.{then-position-half, else-position-half+then-position-half-2, else-position-half+else-position-half-2}

pub returns-then-changes-clause-value : goal.returns-then-changes-clause-value
returns-then-changes-clause-value t c =
    elim c.if-position-half.branch [
      | then-position-half w ↦ search (rules, put_left)
      | else-position-half+then-position-half-2 w ↦ search (rules, put_here)
      | else-position-half+else-position-half-2 w ↦ search (rules, put_right)
    ]

pub returns-else-changes-clause-value : goal.returns-else-changes-clause-value
returns-else-changes-clause-value t c =
    elim c.if-position-half.branch [
      | then-position-half w ↦ search (rules, put_left)
      | else-position-half+then-position-half-2 w ↦ search (rules, put_here)
      | else-position-half+else-position-half-2 w ↦ search (rules, put_right)
    ]
