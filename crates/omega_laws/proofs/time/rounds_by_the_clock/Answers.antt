use Rattle.omega_laws.proofs.TickingOn.{ticking_first, ticking_commit, ticking_ends}
use Rattle.omega_laws.proofs.time.rounds_by_the_clock.Goals as goal

pub returns-clause-first : goal.returns-clause-first
returns-clause-first c = ticking_first

pub returns-clause-commit : goal.returns-clause-commit
returns-clause-commit c = ticking_commit

pub returns-clause-ends : goal.returns-clause-ends
returns-clause-ends c = ticking_ends
