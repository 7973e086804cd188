use Rattle.std.proofs.Common.{◌≡◌, take}
use Rattle.omega_sim.specs.Firsts.{time_at}
use Rattle.omega_sim.specs.Summing.{AreFirstSyncs}
use Rattle.omega_sim.specs.TimeDetails.{first_commits_by}
use Rattle.omega_sim.proofs.details.first_commits.Given as goal

abbrev pub invariant-loop-timed : goal.invariant-loop-timed
invariant-loop-timed l = record {
  syncs : AreFirstSyncs l.history (take l.timed-index l.times) l.syncs;
  firsts : l.firsts.items ≡ first_commits_by (time_at l.arrivals.first_times) l.history (take l.timed-index l.times);
}
