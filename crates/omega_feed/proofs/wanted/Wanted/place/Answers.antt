use Rattle.std.proofs.Common.{subst}
use Rattle.omega_feed.specs.Asked.{Asked}
use Rattle.omega_feed.proofs.JobList.{AreStands}
use Rattle.omega_feed.proofs.wanted.Wanted.place.Goals as goal

pub returns : goal.returns
returns c = subst (λ (asked : Asked). AreStands asked.jobs c.args.job c.routed.result) c.self.view_is c.routed.ensures
