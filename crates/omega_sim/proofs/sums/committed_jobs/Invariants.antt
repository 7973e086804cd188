use Rattle.std.proofs.Common.{◌≡◌, ◌++◌, drop}
use Rattle.std.specs.List.{filter_map}
use Rattle.omega_laws.specs.TimeReport.{job_at, timed_of}
use Rattle.omega_sim.proofs.sums.committed_jobs.Given as goal

abbrev pub invariant-loop-timed : goal.invariant-loop-timed
invariant-loop-timed l = l.jobs.items ++ filter_map (job_at l.history) (timed_of l.scheduler (drop l.timed-index l.times)) ≡ filter_map (job_at l.history) (timed_of l.scheduler l.times)
