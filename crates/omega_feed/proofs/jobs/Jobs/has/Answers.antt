use Rattle.std.proofs.Common.{◌∙◌}
use Rattle.omega_feed.proofs.JobList.{has_placed}
use Rattle.omega_feed.proofs.jobs.Jobs.has.Goals as goal

pub returns : goal.returns
returns c = c.is_some.ensures ∙ has_placed c.args.self.now c.args.job c.place.result c.place.ensures
