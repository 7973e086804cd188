use Rattle.omega_report.proofs.page.Page.refused.Goals as goal

pub returns-in-VictimRank-clause-lines : goal.returns-in-VictimRank-clause-lines
returns-in-VictimRank-clause-lines c = rw c.in-VictimRank.is c.refused_for.ensures.lines

pub returns-in-Withdrawn-clause-lines : goal.returns-in-Withdrawn-clause-lines
returns-in-Withdrawn-clause-lines c = rw (c.in-Withdrawn.is, ← c.from.ensures) c.refused_with-in-Withdrawn.ensures.lines
