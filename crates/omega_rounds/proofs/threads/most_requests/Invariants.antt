use Rattle.std.proofs.Common.{◌≤◌, length, take}
use Rattle.std.specs.Prelude.{All}
use Rattle.omega_rounds.proofs.threads.most_requests.Given as goal

abbrev pub invariant-loop-worker : goal.invariant-loop-worker
invariant-loop-worker l = All (λ worker. length worker.desk.requests ≤ l.most) (take l.worker-index l.workers)
