use Rattle.omega_fit.proofs.Searches.{found_wrapped, none_wrapped}
use Rattle.omega_fit.proofs.searching.search_wrapped.Goals as goal

pub returns-in-Some-clause-first : goal.returns-in-Some-clause-first
returns-in-Some-clause-first g c =
    found_wrapped (goal.F-post g c.args.test.now) _ _ _ _ c.requires.start (rw c.in-Some.is at c.search_in.ensures.first)

pub returns-in-None-clause-first : goal.returns-in-None-clause-first
returns-in-None-clause-first g c =
    none_wrapped (goal.F-post g c.args.test.now) _ _ _ _ c.requires.start
    (rw c.in-None.is at c.search_in.ensures.first) c.search_in-in-None.ensures.first
