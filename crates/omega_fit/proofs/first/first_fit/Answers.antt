use Rattle.omega_fit.proofs.Firsts.{found_from_start, none_from_start}
use Rattle.omega_fit.proofs.first.first_fit.Goals as goal

pub returns-in-Some-clause-first : goal.returns-in-Some-clause-first
returns-in-Some-clause-first g c =
    found_from_start (goal.F-post g c.args.test) _ _ _ c.requires.start (rw c.in-Some.is at c.first_between.ensures.first)

pub returns-clause-first : goal.returns-clause-first
returns-clause-first g c =
    none_from_start (goal.F-post g c.args.test) _ _ _ c.requires.start
    (rw c.in-None.is at c.first_between.ensures.first) c.first_between-in-None.ensures.first
