use Rattle.std.proofs.Common.{ℕ, List, Some, subst, sym}
use Rattle.omega_model.specs.declared.cells.TaskKey.{TaskKey}
use Rattle.omega_pieces.specs.Due.{AreQueued}
use Rattle.omega_pieces.proofs.Queued.{queue_back, queue_more, sets_due}
use Rattle.omega_pieces.proofs.ends_due.put.Goals as goal

pub returns-in-Ok-clause-queued : goal.returns-in-Ok-clause-queued
returns-in-Ok-clause-queued c =
    queue_more c.args.times.now.entries c.insert-2.new.self.entries c.args.queue.now c.insert.new.self c.args.key c.args.time
    (sets_due c.args.times.now c.insert-2.new.self c.args.key (Some c.args.time) c.in-Ok.ensures.updates) c.requires.none
    c.in_ok-insert.ensures.updates c.requires.queued

pub returns-in-Err-clause-queued : goal.returns-in-Err-clause-queued
returns-in-Err-clause-queued c =
    subst (λ (times : List (TaskKey × ℕ)). AreQueued times c.remove.new.self) (sym c.in-Err.ensures.err)
    (queue_back c.args.times.now.entries c.args.queue.now c.insert.new.self c.remove.new.self c.args.key c.args.time c.requires.none
    c.in_ok-insert.ensures.updates c.remove.ensures.updates c.requires.queued)
