use Rattle.std.proofs.Common.{List}
use Rattle.omega_model.specs.declared.cells.Task.{Task}
use Rattle.omega_feed.specs.Open.{OthersAreQuiet}
use Rattle.omega_feed_cases.proofs.feed.take_rows.Given as goal

abbrev pub invariant-loop-row : goal.invariant-loop-row
invariant-loop-row l = (tasks : List Task) → OthersAreQuiet l.open_jobs l.wanted tasks
