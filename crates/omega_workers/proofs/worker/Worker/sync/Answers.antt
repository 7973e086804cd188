use Rattle.std.proofs.Common.{refl}
use Rattle.omega_workers.proofs.worker.Worker.sync.Goals as goal

pub plan_first-requires-clause-may : goal.plan_first-requires-clause-may
plan_first-requires-clause-may c = record { batch = c.requires.ready.range.batch.1; known = c.requires.ready.known; work = c.requires.work }

pub plan_first-requires-clause-up_to : goal.plan_first-requires-clause-up_to
plan_first-requires-clause-up_to c = c.requires.ready.is_worker.attempts

pub returns-clause-ready : goal.returns-clause-ready
returns-clause-ready c =
    let was = c.requires.ready.is_worker in
    record {
      range = c.requires.ready.range;
      known = c.requires.ready.known;
      is_worker = record {
        settings = refl;
        scheduler = refl;
        attempts = was.attempts;
        tries = was.tries;
        seen = c.in_ok-plan.ensures.plan.within;
      };
      plan = c.in_ok-plan.ensures.plan;
    }
