use Rattle.std.proofs.Common.{[], ◌∷◌, sym, subst, arith, length-append}
use Rattle.omega_plan.specs.Indexes.{AreIndexesOf}
use Rattle.omega_model.proofs.Lists.{each_append}
use Rattle.omega_rounds.specs.Keeping.{AreIndexesFor}
use Rattle.omega_rounds.proofs.world.new_indexes.Goals as goal

pub loop-preserved : goal.loop-preserved
loop-preserved c = λ history.
    let kept = c.loop.invariant history in
    let count = kept.count in
    subst (AreIndexesFor _ history) (sym c.in_ok-push.ensures.items) (record {
      count = omega (arith, count, length-append c.loop.all.items (c.new.result ∷ []));
      each = each_append (AreIndexesOf history) c.loop.all.items (c.new.result ∷ []) kept.each (c.new.ensures history, tt);
    })

pub returns : goal.returns
returns c = λ history.
    let kept = c.loop.invariant history in
    let count = kept.count in
    record {
      count = omega (arith, count, c.loop-test.false, c.loop.auto.counter-end, c.schedulers-end.ensures);
      each = kept.each;
    }
