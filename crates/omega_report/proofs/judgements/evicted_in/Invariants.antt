use Rattle.std.proofs.Common.{◌≡◌, ◌+◌, length, drop}
use Rattle.omega_model.specs.ReportCounts.{evicted_by}
use Rattle.omega_report.proofs.judgements.evicted_in.Given as goal

abbrev pub invariant-loop-judgement : goal.invariant-loop-judgement
invariant-loop-judgement l = l.count + length (evicted_by (drop l.judgement-index l.reply)) ≡ length (evicted_by l.reply)
