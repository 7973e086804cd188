use Rattle.std.proofs.Common.{◌≡◌, ◌++◌, drop}
use Rattle.omega_report.specs.Walking.{lines_from, lines_of_all}
use Rattle.omega_report.proofs.reporting.push_counts.Given as goal

abbrev pub invariant-loop-scheduler : goal.invariant-loop-scheduler
invariant-loop-scheduler l =
    (l.page.format ≡ l.initial.page.format)
    × (l.page.lines ++ lines_from l.scheduler (drop l.scheduler l.counts) ≡ l.initial.page.lines ++ lines_of_all l.counts)
