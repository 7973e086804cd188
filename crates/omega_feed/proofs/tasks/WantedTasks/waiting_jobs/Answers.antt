use Rattle.std.proofs.Common.{ap, ◌∙◌}
use Rattle.std.specs.List.{flat_map}
use Rattle.omega_model.proofs.Answering.{if_ok_weaker}
use Rattle.omega_feed.specs.Parts.{waiting_jobs}
use Rattle.omega_feed.proofs.Parts.{waiting_joined}
use Rattle.omega_feed.proofs.tasks.WantedTasks.waiting_jobs.Goals as goal

pub returns : goal.returns
returns c =
    let running = c.args.running.now.tasks in
    if_ok_weaker _ _ c.waiting_in.result
    (λ jobs is machines.
    is ∙ ap (flat_map (waiting_jobs running)) c.deref.ensures.value ∙ waiting_joined running c.self.inside.parts.items ∙ ap (waiting_jobs running) c.self.view_is)
    c.waiting_in.ensures
