use Rattle.std.proofs.Common.{◌≡◌, ◌++◌}
use Rattle.std.specs.Vec.Iter.{into_iter_items}
use Rattle.omega_feed.specs.Open.{OthersAreQuiet}
use Rattle.omega_model.specs.State.{state}
use Rattle.omega_opening.specs.Opening.{MayFeedAll}
use Rattle.omega_opening.proofs.opening.feed_all.Given as goal

abbrev pub invariant-loop-entry : goal.invariant-loop-entry
invariant-loop-entry l = MayFeedAll l.cell.history (into_iter_items l.entry-iterator)
    × (l.cell.history ++ into_iter_items l.entry-iterator ≡ l.fn.cell.history ++ l.fn.entries)
    × OthersAreQuiet l.open_jobs l.wanted (state l.cell.history).tasks
