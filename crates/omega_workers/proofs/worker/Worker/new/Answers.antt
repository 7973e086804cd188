use Rattle.std.proofs.Common.{rules}
use Rattle.omega_workers.proofs.worker.Worker.new.Goals as goal

pub returns-clause-worker : goal.returns-clause-worker
returns-clause-worker c = record {
  settings = search rules;
  scheduler = search rules;
  attempts = search rules;
  tries = search rules;
  seen = tt;
}
