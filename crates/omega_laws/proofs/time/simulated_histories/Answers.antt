use Rattle.omega_laws.proofs.TimeOrder.{only_simulated, simulated_is_lawful}
use Rattle.omega_laws.proofs.time.simulated_histories.Goals as goal

pub returns-clause-only : goal.returns-clause-only
returns-clause-only c = only_simulated

pub returns-clause-lawful : goal.returns-clause-lawful
returns-clause-lawful c = simulated_is_lawful
