use Rattle.std.proofs.Common.{Some, None, arith, subst}
use Rattle.omega_plan.specs.Overlays.{cell_after}
use Rattle.omega_fit.specs.Needs.{IsNextWithRoom}
use Rattle.omega_fit.specs.Positions.{Positions}
use Rattle.omega_plan.proofs.Evictable.{yields_between, yields_none_between, yields_past}
use Rattle.omega_plan.proofs.FirstYields.{yields_none, yields_some}
use Rattle.omega_plan.proofs.evicting.yielding_between.Goals as goal

pub returns-in-Some-2-clause-first : goal.returns-in-Some-2-clause-first
returns-in-Some-2-clause-first c =
    let cell = cell_after c.args.overlay.now in
    let wish = c.args.wish.now in
    yields_between cell wish c.requires.sound.numbers c.args.level.now.index.free c.requires.freed c.args.from c.loop-position.begin c.args.to c.loop-position.invariant.before
    c.in-Some.position (subst (λ (i : Positions). IsNextWithRoom i.free wish.spec.need c.loop-position.begin c.args.to (Some c.in-Some.position)) c.freed.ensures c.in-Some.ensures.next) c.loop-position.invariant.within
    (yields_some cell wish c.in-Some.position c.in_ok-victims.field-0 c.in-Some-2.victims c.in_ok-victims.ensures c.in-Some-2.is)

pub loop-position-smaller : goal.loop-position-smaller
unfolding IsNextWithRoom
loop-position-smaller c = omega (arith, c.in-Some.ensures.next.0, c.in-Some.ensures.below)

pub loop-position-preserved : goal.loop-position-preserved
unfolding IsNextWithRoom
loop-position-preserved c =
    let cell = cell_after c.args.overlay.now in
    let wish = c.args.wish.now in
    record {
      within = omega (arith, c.loop-position.invariant.within, c.in-Some.ensures.next.0);
      before = yields_past cell wish c.requires.sound.numbers c.args.level.now.index.free c.requires.freed c.args.from c.loop-position.begin c.args.to c.loop-position.invariant.before
          c.in-Some.position (subst (λ (i : Positions). IsNextWithRoom i.free wish.spec.need c.loop-position.begin c.args.to (Some c.in-Some.position)) c.freed.ensures c.in-Some.ensures.next)
          (yields_none cell wish c.in-Some.position c.in_ok-victims.field-0 c.in_ok-victims.ensures c.in_default-2.is);
    }

pub returns-clause-first : goal.returns-clause-first
returns-clause-first c =
    yields_none_between (cell_after c.args.overlay.now) c.args.wish.now c.requires.sound.numbers c.args.level.now.index.free c.requires.freed c.args.from c.loop-position.begin c.args.to
    c.loop-position.invariant.before
    (subst (λ (i : Positions). IsNextWithRoom i.free c.args.wish.now.spec.need c.loop-position.begin c.args.to None) c.freed.ensures c.in_default.ensures.next)
