use Rattle.std.proofs.Common.{◌≡◌, ◌≤◌, take}
use Rattle.omega_model.specs.Cell.{without}
use Rattle.omega_plan.proofs.tenants.take_out.Given as goal

abbrev pub invariant-loop-key : goal.invariant-loop-key
invariant-loop-key l = record {
  gone : l.own.tasks ≡ without (take l.key-index l.keys) l.fn.own.tasks;
  room : l.fn.own.spare ≤ l.own.spare;
}
