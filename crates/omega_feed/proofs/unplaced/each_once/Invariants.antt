use Rattle.omega_feed.proofs.AtEnd.{Adds}
use Rattle.omega_feed.proofs.unplaced.each_once.Given as goal

abbrev pub invariant-loop-number : goal.invariant-loop-number
invariant-loop-number l = Adds l.numbers l.number-index l.seen l.once.items
