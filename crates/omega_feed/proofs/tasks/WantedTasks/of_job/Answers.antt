use Rattle.std.proofs.Common.{ap, ◌∙◌}
use Rattle.omega_model.proofs.Answering.{if_ok_weaker}
use Rattle.omega_model.specs.ExtraTasks.{wanted_of}
use Rattle.omega_feed.proofs.Parts.{of_part}
use Rattle.omega_feed.proofs.tasks.WantedTasks.of_job.Goals as goal

pub returns-in-Some : goal.returns-in-Some
returns-in-Some c =
    if_ok_weaker _ _ c.of_job.result
    (λ found is. is ∙ ap (wanted_of c.args.job) c.in-Some.ensures.part ∙ of_part c.args.job c.args.self.now)
    c.of_job.ensures
