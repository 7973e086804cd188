use Rattle.omega_copy.proofs.Follows.{IsFollowing}
use Rattle.omega_copy.proofs.copy.PrivateCopy.follow.Given as goal

abbrev pub invariant-loop-entry : goal.invariant-loop-entry
invariant-loop-entry l = IsFollowing l.fn.self l.self l.later l.entry-index
