use Rattle.omega_keep.proofs.writing.push_verdict.Goals as goal

pub returns-in-Withdrawn-clause-text : goal.returns-in-Withdrawn-clause-text
returns-in-Withdrawn-clause-text c = rw c.in-Withdrawn.is c.push_withdrawn.ensures.text

pub returns-in-Withdrawn-clause-range : goal.returns-in-Withdrawn-clause-range
returns-in-Withdrawn-clause-range c = rw c.in-Withdrawn.is c.push_withdrawn.ensures.range
