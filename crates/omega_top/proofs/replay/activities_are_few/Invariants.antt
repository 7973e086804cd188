use Rattle.std.proofs.Common.{◌≤◌, take}
use Rattle.std.specs.Prelude.{All}
use Rattle.omega_model.specs.Fields.{most_activities}
use Rattle.omega_top.proofs.replay.activities_are_few.Given as goal

abbrev pub invariant-loop-row : goal.invariant-loop-row
invariant-loop-row l = All (λ row. row.activities ≤ most_activities) (take l.row-index l.rows)
