use Rattle.std.proofs.Common.{◌≡◌, []}
use Rattle.omega_feed.proofs.tasks.WantedTasks.of_rows.Given as goal

abbrev pub invariant-loop-job : goal.invariant-loop-job
invariant-loop-job l = l.tasks ≡ []
