use Rattle.std.proofs.Common.{◌≡◌, List, ◌++◌, take}
use Rattle.omega_model.specs.Report.{Line}
use Rattle.omega_report.specs.Pages.{open_form}
use Rattle.omega_sim.specs.TimeLines.{lines_of_totals}
use Rattle.omega_report.proofs.items.push_totals.Given as goal

abbrev pub invariant-loop-of_one : goal.invariant-loop-of_one
invariant-loop-of_one l =
    (lines : List Line) → l.fn.bytes.items ≡ open_form l.format lines
    → l.bytes.items ≡ open_form l.format (lines ++ lines_of_totals (take l.of_one-index l.totals))
