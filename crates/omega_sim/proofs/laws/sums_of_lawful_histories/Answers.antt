use Rattle.omega_sim.proofs.Fitting.{sums_fit}
use Rattle.omega_sim.proofs.laws.sums_of_lawful_histories.Goals as goal

pub returns : goal.returns
returns c settings trace history times range bounds timed = sums_fit settings trace range bounds history times timed
