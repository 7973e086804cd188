use Rattle.omega_free_laws.proofs.LawsOfRuns.{holds_of_runs}
use Rattle.omega_free_laws.proofs.OnlyFree.{only_free}
use Rattle.omega_free_laws.proofs.histories.free_histories.Goals as goal

pub returns-clause-only : goal.returns-clause-only
returns-clause-only c = only_free

pub returns-clause-holds : goal.returns-clause-holds
returns-clause-holds c = holds_of_runs
