use Rattle.std.proofs.Common.{◌∙◌, ap, sym, subst}
use Rattle.omega_plan.specs.Indexes.{TellAll}
use Rattle.omega_plan.specs.Overlays.{OverlayState, cell_after}
use Rattle.omega_model.specs.Planning.{claims_for_wishes}
use Rattle.omega_plan.proofs.Planned.{Planned, planned_last, planned_more}
use Rattle.omega_plan.proofs.Whole.{planned_whole}
use Rattle.omega_plan.proofs.planning.claims_but_last.Goals as goal

pub claim_for_wish-requires-clause-tell : goal.claim_for_wish-requires-clause-tell
claim_for_wish-requires-clause-tell c =
    subst (λ (o : OverlayState). TellAll (cell_after o) c.loop-wish.indexes) (sym c.make_ready.ensures) c.loop-wish.invariant.tell

pub claim_for_wish-requires-clause-serves : goal.claim_for_wish-requires-clause-serves
claim_for_wish-requires-clause-serves c =
    c.advance-begin.ensures.serves (cell_after c.make_ready.new.overlay)
    (subst (λ (o : OverlayState). Planned o c.args.overlay.now c.args.start c.args.preempts c.in-Some.others.now c.in-Some.last.now c.loop-wish.wish-index c.loop-wish.previous.now c.loop-wish.progress)
    (sym c.make_ready.ensures) c.loop-wish.invariant.planned).serves

pub place-requires-clause-goes_in : goal.place-requires-clause-goes_in
place-requires-clause-goes_in c =
    planned_whole (cell_after c.make_ready.new.overlay) c.advance-begin.result.start c.args.preempts c.wish-item.result c.in_ok-step.step.claim
    c.in_ok-step.ensures.ordered c.in_ok-step.ensures.step.claim

pub loop-wish-preserved : goal.loop-wish-preserved
loop-wish-preserved c =
    let at = c.loop-wish in
    let ready : Planned c.make_ready.new.overlay c.args.overlay.now c.args.start c.args.preempts c.in-Some.others.now c.in-Some.last.now at.wish-index at.previous.now at.progress =
    subst (λ (o : OverlayState). Planned o c.args.overlay.now c.args.start c.args.preempts c.in-Some.others.now c.in-Some.last.now at.wish-index at.previous.now at.progress)
    (sym c.make_ready.ensures) at.invariant.planned in
    record {
      planned = planned_more c.make_ready.new.overlay c.args.overlay.now c.place.new.overlay c.args.start c.args.preempts c.in-Some.others.now c.in-Some.last.now at.wish-index at.previous.now c.wish-item.result
          at.progress c.advance-begin.result c.in_ok-step.step ready c.loop-wish-test.true c.wish-item.is c.advance-begin.ensures.start c.in_ok-step.ensures.step
          c.in_ok-place.ensures.cell c.in_ok-place.ensures.claims c.place.ensures.board;
      tell = c.place.ensures.tell;
      seen = c.place.ensures.seen ∙ c.claim_for_wish.ensures.seen ∙ at.invariant.seen;
    }

pub claim_for_wish-requires-2-clause-tell : goal.claim_for_wish-requires-2-clause-tell
claim_for_wish-requires-2-clause-tell c =
    subst (λ (o : OverlayState). TellAll (cell_after o) c.loop-wish.indexes) (sym c.make_ready-2.ensures) c.loop-wish.invariant.tell

pub claim_for_wish-requires-2-clause-serves : goal.claim_for_wish-requires-2-clause-serves
claim_for_wish-requires-2-clause-serves c =
    c.advance-begin-2.ensures.serves (cell_after c.make_ready-2.new.overlay)
    (subst (λ (o : OverlayState). Planned o c.args.overlay.now c.args.start c.args.preempts c.in-Some.others.now c.in-Some.last.now c.loop-wish.wish-index c.loop-wish.previous.now c.loop-wish.progress)
    (sym c.make_ready-2.ensures) c.loop-wish.invariant.planned).serves

pub returns-clause-claims : goal.returns-clause-claims
returns-clause-claims c =
    let at = c.loop-wish in
    let ready : Planned c.make_ready-2.new.overlay c.args.overlay.now c.args.start c.args.preempts c.in-Some.others.now c.in-Some.last.now at.wish-index at.previous.now at.progress =
    subst (λ (o : OverlayState). Planned o c.args.overlay.now c.args.start c.args.preempts c.in-Some.others.now c.in-Some.last.now at.wish-index at.previous.now at.progress)
    (sym c.make_ready-2.ensures) at.invariant.planned in
    planned_last c.make_ready-2.new.overlay c.args.overlay.now c.args.start c.args.preempts c.in-Some.others.now c.in-Some.last.now at.wish-index at.previous.now at.progress c.advance-begin-2.result c.in_ok-step-2.step
    ready c.loop-wish-test.false c.advance-begin-2.ensures.start c.in_ok-step-2.ensures.step
    ∙ ap (claims_for_wishes (cell_after c.args.overlay.now) c.args.start c.args.preempts) (sym c.in-Some.ensures.cases.0)
