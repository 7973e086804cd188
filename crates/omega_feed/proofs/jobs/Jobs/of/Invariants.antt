use Rattle.std.proofs.Common.{◌≡◌, [], drop}
use Rattle.std.specs.List.{fold}
use Rattle.omega_feed.proofs.JobList.{note_task}
use Rattle.omega_feed.proofs.jobs.Jobs.of.Given as goal

abbrev pub invariant-loop-row : goal.invariant-loop-row
invariant-loop-row l =
    fold (note_task l.settings l.activities) l.jobs (drop l.row-index l.rows) ≡ fold (note_task l.settings l.activities) [] l.rows
