use Rattle.omega_laws.proofs.WholeCommits.{lawful_whole, so_far_whole}
use Rattle.omega_laws.proofs.commits.commits_of_lawful_histories.Goals as goal

pub returns-clause-lawful : goal.returns-clause-lawful
returns-clause-lawful c = lawful_whole

pub returns-clause-so_far : goal.returns-clause-so_far
returns-clause-so_far c = so_far_whole
