use Rattle.omega_cell.proofs.Evictions.{evictions_go_down}
use Rattle.omega_cell.proofs.Gangs.{no_gang_is_split}
use Rattle.omega_cell.proofs.laws.commits_of_legal_histories.Goals as goal

pub returns-clause-gangs : goal.returns-clause-gangs
returns-clause-gangs c = no_gang_is_split

pub returns-clause-evictions : goal.returns-clause-evictions
returns-clause-evictions c = evictions_go_down
