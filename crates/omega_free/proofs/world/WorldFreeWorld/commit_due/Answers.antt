use Rattle.std.proofs.Common.{◌∙◌, List, ap}
use Rattle.std.specs.Prelude.{option_map}
use Rattle.omega_free.specs.FreeWorkers.{by_and_time, due_among}
use Rattle.omega_free.specs.declared.worker.Worker.{Worker}
use Rattle.omega_free.proofs.WorldSteps.{commit_told}
use Rattle.omega_free.proofs.world.WorldFreeWorld.commit_due.Goals as goal

pub returns : goal.returns
returns c trace moment is =
    c.first_due.ensures ∙ ap (λ (workers : List Worker). option_map by_and_time (due_among workers)) c.deref.ensures.value
    ∙ commit_told c.args.self.now trace moment is
