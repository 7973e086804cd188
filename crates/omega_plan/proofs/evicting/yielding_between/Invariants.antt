use Rattle.std.proofs.Common.{◌≤◌, ◌-◌}
use Rattle.omega_plan.specs.Overlays.{cell_after}
use Rattle.omega_plan.proofs.Evictable.{YieldsNowhere}
use Rattle.omega_plan.proofs.evicting.yielding_between.Given as goal

abbrev pub invariant-loop-position : goal.invariant-loop-position
invariant-loop-position l = record {
  within : l.from ≤ l.begin;
  before : YieldsNowhere (cell_after l.overlay) l.wish l.from l.begin;
}

abbrev pub decreases-loop-position : goal.decreases-loop-position
decreases-loop-position l = l.to - l.begin
