use Rattle.std.proofs.Common.{take}
use Rattle.std.specs.List.{fold}
use Rattle.omega_feed.specs.Open.{OthersAreQuiet}
use Rattle.omega_model.specs.Cell.{Cell}
use Rattle.omega_model.specs.State.{step}
use Rattle.omega_opening.proofs.reopening.reopen_all.Given as goal

abbrev pub invariant-loop-entry : goal.invariant-loop-entry
invariant-loop-entry l = (before : Cell) → OthersAreQuiet l.fn.open_jobs l.wanted before.tasks
    → OthersAreQuiet l.open_jobs l.wanted (fold step before (take l.entry-index l.entries)).tasks
