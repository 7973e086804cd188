use Rattle.std.proofs.Common.{◌≡◌, ◌*◌, ◌^◌, ◌≤◌, take}
use Rattle.omega_sim.specs.Summing.{waited_in_all}
use Rattle.omega_sim.proofs.sums.waited.Given as goal

abbrev pub invariant-loop-job : goal.invariant-loop-job
invariant-loop-job l = record {
  sum : l.total ≡ waited_in_all l.came l.synced (take l.job-index l.jobs);
  bound : l.total ≤ l.job-index * 2 ^ 101;
}
