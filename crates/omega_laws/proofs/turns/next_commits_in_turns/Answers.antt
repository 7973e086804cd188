use Rattle.omega_laws.proofs.CommitsRead.{turn_counts}
use Rattle.omega_laws.proofs.TurnOrder.{comes_next_in_turns, one_comes_next_in_turns}
use Rattle.omega_laws.proofs.turns.next_commits_in_turns.Goals as goal

pub returns-clause-stands : goal.returns-clause-stands
returns-clause-stands c = comes_next_in_turns

pub returns-clause-alone : goal.returns-clause-alone
returns-clause-alone c = one_comes_next_in_turns

pub returns-clause-turn : goal.returns-clause-turn
returns-clause-turn c = turn_counts
