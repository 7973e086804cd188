use Rattle.std.proofs.Common.{◌≡◌, ◌≤◌, true, drop, length}
use Rattle.omega_model.specs.Cell.{total}
use Rattle.omega_model.specs.Need.{fits, minus}
use Rattle.omega_plan.proofs.evicting.fewest.Given as goal

abbrev pub invariant-loop-count : goal.invariant-loop-count
invariant-loop-count l = record {
  within : l.count ≤ length l.tasks;
  left : l.left ≡ minus l.fn.left (total (drop l.count l.tasks));
  room : fits l.need l.left ≡ true;
}

abbrev pub decreases-loop-count : goal.decreases-loop-count
decreases-loop-count l = l.count
