use Rattle.std.proofs.Common.{subst}
use Rattle.omega_pieces.specs.Due.{IsFirstOf}
use Rattle.omega_pieces.proofs.FirstDue.{none_due}
use Rattle.omega_pieces.proofs.ends_due.first_running.Goals as goal

pub returns-clause-first : goal.returns-clause-first
returns-clause-first c key =
    none_due c.loop-first.times.entries c.loop-first.queue c.loop-first.invariant.queued
    (subst (IsFirstOf c.loop-first.queue) c.in_default.is c.first_of.ensures) key
