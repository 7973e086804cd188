use Rattle.std.proofs.Common.{None, sym, ◌∙◌}
use Rattle.omega_pieces.proofs.Queued.{queue_less, sets_due}
use Rattle.omega_pieces.proofs.ends_due.take_off.Goals as goal

pub returns-in-Some-clause-queued : goal.returns-in-Some-clause-queued
returns-in-Some-clause-queued c =
    queue_less c.args.times.now.entries c.remove.new.self.entries c.args.queue.now c.remove-in-Some.new.self c.args.key c.in-Some.time
    (sets_due c.args.times.now c.remove.new.self c.args.key None c.remove.ensures.updates) (sym c.remove.ensures.value ∙ c.in-Some.is)
    c.remove-in-Some.ensures.updates c.requires
