use Rattle.omega_laws.proofs.OnlyTimes.{only_times, simulated_times}
use Rattle.omega_laws.proofs.time.times_of_lawful_histories.Goals as goal

pub returns-clause-only : goal.returns-clause-only
returns-clause-only c = only_times

pub returns-clause-simulated : goal.returns-clause-simulated
returns-clause-simulated c = simulated_times
