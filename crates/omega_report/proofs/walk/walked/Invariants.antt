use Rattle.std.proofs.Common.{◌++◌, take, drop}
use Rattle.omega_model.specs.Policy.{schedulers}
use Rattle.omega_model.specs.State.{state}
use Rattle.omega_report.specs.Noted.{IsAhead}
use Rattle.omega_report.specs.Walking.{if_printed, lines_to, IsAfter}
use Rattle.omega_report.proofs.walk.walked.Given as goal

abbrev pub invariant-loop-place : goal.invariant-loop-place
invariant-loop-place l =
    IsAfter (schedulers l.settings) l.fn.page.format (l.fn.page.lines ++ if_printed l.prints (lines_to l.history l.place)) (take l.place l.history) l.walk
    × IsAhead (state (take l.place l.history)) (drop l.place l.history) l.ahead
