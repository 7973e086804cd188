use Rattle.std.proofs.Common.{◌≡◌, List, ◌++◌, map, take}
use Rattle.std.specs.List.{enumerate_from}
use Rattle.omega_model.specs.Report.{Line}
use Rattle.omega_report.specs.Pages.{open_form}
use Rattle.omega_sim.specs.TimeDetails.{commit_time_line}
use Rattle.omega_report.proofs.details.push_times.Given as goal

abbrev pub invariant-loop-number : goal.invariant-loop-number
invariant-loop-number l =
    (lines : List Line) → l.fn.bytes.items ≡ open_form l.format lines
    → l.bytes.items ≡ open_form l.format (lines ++ map commit_time_line (take l.number (enumerate_from 0 l.times)))
