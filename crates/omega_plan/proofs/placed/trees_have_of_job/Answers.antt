use Rattle.std.proofs.Common.{[], is_some, ap, ◌∙◌}
use Rattle.omega_plan.proofs.Hosting.{some_other}
use Rattle.omega_plan.proofs.placed.trees_have_of_job.Goals as goal

pub returns : goal.returns
returns c = c.is_some.ensures ∙ ap is_some c.other_of_job.ensures ∙ some_other c.args.trees.now.tasks c.args.job c.args.machine []
