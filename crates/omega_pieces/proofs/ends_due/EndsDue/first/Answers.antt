use Rattle.std.proofs.Common.{subst, sym}
use Rattle.omega_pieces.specs.Due.{KeepsEnds}
use Rattle.omega_pieces.proofs.FirstDue.{first_is, keeps_as}
use Rattle.omega_pieces.proofs.ends_due.EndsDue.first.Goals as goal

pub returns-clause-kept : goal.returns-clause-kept
returns-clause-kept c trace history times are keeps =
    keeps_as trace history times c.args.running.now.tasks c.self.inside.times.entries c.first_running.new.times.entries are c.first_running.ensures.same
    (subst (KeepsEnds trace history times) (sym c.self.view_is) keeps)

pub returns-clause-first : goal.returns-clause-first
returns-clause-first c trace history times are keeps =
    sym (first_is trace history times c.args.running.now.tasks c.first_running.new.times.entries are
    (keeps_as trace history times c.args.running.now.tasks c.self.inside.times.entries c.first_running.new.times.entries are c.first_running.ensures.same
    (subst (KeepsEnds trace history times) (sym c.self.view_is) keeps)) c.first_running.result c.first_running.ensures.first)
