use Rattle.std.proofs.Common.{◌≡◌, length}
use Rattle.omega_desk.specs.Desks.{IsSameDesk, left_at}
use Rattle.omega_free_laws.specs.StillWanted.{without_unwanted}
use Rattle.omega_free.proofs.passes.drop_unwanted.Given as goal

abbrev pub invariant-loop-desk : goal.invariant-loop-desk
invariant-loop-desk l = record {
  same : IsSameDesk l.fn.desk l.desk;
  attempts : l.desk.attempts ≡ l.fn.desk.attempts;
  left : without_unwanted l.wanted.tasks (left_at l.desk) l.desk.requests ≡ without_unwanted l.wanted.tasks (left_at l.fn.desk) l.fn.desk.requests;
}

abbrev pub decreases-loop-desk : goal.decreases-loop-desk
decreases-loop-desk l = length l.desk.requests
