use Rattle.omega_laws.proofs.FirstRounds.{all_first, first_begin, none_first, only_first}
use Rattle.omega_laws.proofs.turns.first_rounds_in_turns.Goals as goal

pub returns-clause-only : goal.returns-clause-only
returns-clause-only c = only_first

pub returns-clause-begins : goal.returns-clause-begins
returns-clause-begins c = first_begin

pub returns-clause-none : goal.returns-clause-none
returns-clause-none c = none_first

pub returns-clause-all : goal.returns-clause-all
returns-clause-all c = all_first
