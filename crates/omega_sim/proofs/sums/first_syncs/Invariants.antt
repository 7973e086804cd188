use Rattle.std.proofs.Common.{take}
use Rattle.omega_sim.specs.Summing.{AreFirstSyncs}
use Rattle.omega_sim.proofs.sums.first_syncs.Given as goal

abbrev pub invariant-loop-timed : goal.invariant-loop-timed
invariant-loop-timed l = AreFirstSyncs l.history (take l.timed-index l.times) l.syncs
