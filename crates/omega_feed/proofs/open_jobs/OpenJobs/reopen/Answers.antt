use Rattle.std.proofs.Common.{◌≡◌, true, Some, rules, subst}
use Rattle.omega_feed.specs.Open.{OpenPlaces, OpensAtMost, is_open}
use Rattle.omega_feed.proofs.OpenSets.{is_opened, latest_open, none_to_open, opens_one}
use Rattle.omega_feed.proofs.open_jobs.OpenJobs.reopen.Goals as goal

pub returns-in_default-clause-ok : goal.returns-in_default-clause-ok
returns-in_default-clause-ok c = none_to_open c.args.self.now c.args.wanted.now c.args.job c.place.result c.place.ensures c.in_default.is

pub returns-then-eq-clause-ok : goal.returns-then-eq-clause-ok
returns-then-eq-clause-ok c =
    let known : c.self.inside.latest ≡ Some c.in-Some.place = search rules in
    is_opened c.args.self.now c.args.wanted.now c.args.job c.place.result c.in-Some.place c.place.ensures c.in-Some.is
    (subst (λ (places : OpenPlaces). is_open places c.in-Some.place.scheduler c.in-Some.place.place ≡ true) c.self.view_is
    (latest_open c.self.inside.places.items c.self.inside.latest c.in-Some.place c.self.invariant.1 known))

pub returns-clause-ok : goal.returns-clause-ok
returns-clause-ok c = is_opened c.open_at.new.places.items c.args.wanted.now c.args.job c.place.result c.in-Some.place c.place.ensures c.in-Some.is c.in_ok-open_at.ensures.ok

pub returns-clause-alone : goal.returns-clause-alone
returns-clause-alone c =
    subst (λ (before : OpenPlaces). OpensAtMost before c.open_at.new.places.items c.args.wanted.now c.args.job) c.self.view_is
    (opens_one c.self.inside.places.items c.open_at.new.places.items c.args.wanted.now c.args.job c.place.result c.in-Some.place c.place.ensures c.in-Some.is c.open_at.ensures.alone)
