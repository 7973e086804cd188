use Rattle.std.proofs.Common.{sym, subst}
use Rattle.omega_rounds.specs.Beginning.{IsAsked}
use Rattle.omega_rounds.proofs.world.beginning.open_and_begin.Goals as goal

pub begin_all-requires-clause-asked : goal.begin_all-requires-clause-asked
begin_all-requires-clause-asked c = subst IsAsked (sym c.in_ok-open_round.ensures.wanted) c.requires.asked
