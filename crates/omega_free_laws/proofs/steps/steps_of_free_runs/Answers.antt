use Rattle.omega_free_laws.proofs.OneStep.{happens_next}
use Rattle.omega_free_laws.proofs.Stretches.{over_is}
use Rattle.omega_free_laws.proofs.steps.steps_of_free_runs.Goals as goal

pub returns-clause-happens : goal.returns-clause-happens
returns-clause-happens c = happens_next

pub returns-clause-over : goal.returns-clause-over
returns-clause-over c = over_is
