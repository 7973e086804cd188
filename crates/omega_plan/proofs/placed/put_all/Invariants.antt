use Rattle.std.proofs.Common.{◌≡◌, ◌≤◌, ◌+◌, drop, length}
use Rattle.omega_plan.specs.Tenants.{MayPutAll, put_all}
use Rattle.omega_plan.proofs.placed.put_all.Given as goal

abbrev pub invariant-loop-task : goal.invariant-loop-task
invariant-loop-task l = record {
  told : put_all l.placed.tasks (drop l.task-index l.tasks) ≡ put_all l.fn.placed.tasks l.tasks;
  may : MayPutAll l.placed.tasks (drop l.task-index l.tasks);
  room : length l.tasks ≤ l.placed.spare + l.task-index;
}
