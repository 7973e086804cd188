use Rattle.std.proofs.Common.{◌≡◌, ◌++◌, drop, map}
use Rattle.omega_feed.proofs.jobs.numbers_of.Given as goal

abbrev pub invariant-loop-job : goal.invariant-loop-job
invariant-loop-job l = l.numbers.items ++ map (λ job. job.job) (drop l.job-index l.jobs) ≡ map (λ job. job.job) l.jobs
