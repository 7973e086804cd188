use Rattle.std.proofs.Common.{take}
use Rattle.omega_opening.specs.Reopening.{OpensJobs}
use Rattle.omega_opening.proofs.reopening.reopen_jobs.Given as goal

abbrev pub invariant-loop-key : goal.invariant-loop-key
invariant-loop-key l = OpensJobs l.fn.open_jobs l.open_jobs l.wanted (take l.key-index l.keys)
