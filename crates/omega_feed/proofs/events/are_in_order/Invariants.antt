use Rattle.std.proofs.Common.{◌≤◌, take}
use Rattle.std.specs.List.{AllByRecursion as Each}
use Rattle.omega_feed.specs.Events.{Rise}
use Rattle.omega_feed.proofs.events.are_in_order.Given as goal

abbrev pub invariant-loop-row : goal.invariant-loop-row
invariant-loop-row g l = record {
  rise : Rise g.R.HasTime.time (take l.row-index l.rows);
  below : Each (λ row. g.R.HasTime.time row ≤ l.last) (take l.row-index l.rows);
}
