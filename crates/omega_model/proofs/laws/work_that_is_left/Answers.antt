use Rattle.omega_model.proofs.Remaining.{left_grown, left_shrunk}
use Rattle.omega_model.proofs.laws.work_that_is_left.Goals as goal

pub returns-clause-grows : goal.returns-clause-grows
returns-clause-grows c = left_grown

pub returns-clause-shrinks : goal.returns-clause-shrinks
returns-clause-shrinks c = left_shrunk
