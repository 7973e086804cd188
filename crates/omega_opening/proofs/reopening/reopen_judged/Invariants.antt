use Rattle.std.proofs.Common.{take}
use Rattle.std.specs.List.{flat_map}
use Rattle.omega_opening.specs.Reopening.{OpensJobs}
use Rattle.omega_opening.proofs.reopening.reopen_judged.Given as goal

abbrev pub invariant-loop-judgement : goal.invariant-loop-judgement
invariant-loop-judgement l =
    OpensJobs l.fn.open_jobs l.open_jobs l.wanted (flat_map (λ judgement. judgement.evicted) (take l.judgement-index l.reply))
