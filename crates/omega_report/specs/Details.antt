-- The lines of the times that a report may tell.
use Rattle.std.specs.Prelude.{List, [], Option, Some, None}
use Rattle.omega_model.specs.Report.{Line}
use Rattle.omega_report.specs.declared.details.TimeDetails.{TimeDetails}
use Rattle.omega_sim.specs.TimeDetails.{detail_lines}

-- the lines of the commits and those of the jobs, if they are told
abbrev pub lines_told : Option TimeDetails → List Line
lines_told None = []
lines_told (Some details) = detail_lines details.times.now details.firsts.now
