use Rattle.std.proofs.Common.{◌≡◌, ◌*◌, ◌^◌, ◌≤◌, drop}
use Rattle.omega_sim.proofs.Added.{busy_from}
use Rattle.omega_sim.proofs.sums.busy.Given as goal

abbrev pub invariant-loop-timed : goal.invariant-loop-timed
invariant-loop-timed l = record {
  sum : busy_from l.scheduler l.total (drop l.timed-index l.times) ≡ busy_from l.scheduler 0 l.times;
  bound : l.total ≤ l.timed-index * 2 ^ 51;
}
