use Rattle.std.proofs.Common.{◌≡◌, List, ◌++◌, map, take}
use Rattle.omega_model.specs.Report.{Line}
use Rattle.omega_report.specs.Pages.{open_form}
use Rattle.omega_sim.specs.TimeDetails.{first_commit_line}
use Rattle.omega_report.proofs.details.push_firsts.Given as goal

abbrev pub invariant-loop-first : goal.invariant-loop-first
invariant-loop-first l =
    (lines : List Line) → l.fn.bytes.items ≡ open_form l.format lines
    → l.bytes.items ≡ open_form l.format (lines ++ map first_commit_line (take l.first-index l.firsts))
