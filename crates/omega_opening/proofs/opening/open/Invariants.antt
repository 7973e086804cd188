use Rattle.std.proofs.Common.{◌++◌, ◌∷◌, []}
use Rattle.std.specs.Vec.Iter.{into_iter_items}
use Rattle.omega_feed.specs.Open.{OthersAreQuiet}
use Rattle.omega_model.specs.State.{state}
use Rattle.omega_model.specs.declared.entries.Entry.TheVariants.{Round}
use Rattle.omega_opening.proofs.Applying.{AreAppliedBut}
use Rattle.omega_opening.proofs.opening.open.Given as goal

abbrev pub invariant-loop-row : goal.invariant-loop-row
invariant-loop-row l =
    AreAppliedBut l.fn.wanted l.wanted (l.fn.cell.history ++ Round l.fn.round.number ∷ []) l.cell.history (into_iter_items l.row-iterator) l.fn.round.rows
    × OthersAreQuiet l.open_jobs l.wanted (state l.cell.history).tasks
