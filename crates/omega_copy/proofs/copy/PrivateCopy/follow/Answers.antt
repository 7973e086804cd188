use Rattle.omega_copy.proofs.Follows.{next_may, next_ordered, follows_more}
use Rattle.omega_copy.proofs.copy.PrivateCopy.follow.Goals as goal

pub take_in-requires-clause-may : goal.take_in-requires-clause-may
take_in-requires-clause-may c =
    next_may c.args.self.now c.loop-entry.self c.args.later.now c.loop-entry.entry-index c.entry-item.result c.loop-entry.invariant c.loop-entry-test.true c.entry-item.is c.requires.history

pub loop-entry-preserved : goal.loop-entry-preserved
loop-entry-preserved c =
    follows_more c.args.self.now c.loop-entry.self c.args.later.now c.loop-entry.entry-index c.entry-item.result c.loop-entry.invariant c.loop-entry-test.true c.entry-item.is
    c.take_in.new.self c.in_ok-take_in.ensures.seen c.in_ok-take_in.ensures.cell c.in_ok-take_in.ensures.seqs

pub take_in-requires-clause-ordered : goal.take_in-requires-clause-ordered
take_in-requires-clause-ordered c =
    next_ordered c.args.self.now c.loop-entry.self c.args.later.now c.loop-entry.entry-index c.loop-entry.invariant c.requires.history
