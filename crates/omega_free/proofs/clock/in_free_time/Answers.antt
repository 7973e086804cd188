use Rattle.std.proofs.Common.{◌∙◌, true, false, subst}
use Rattle.omega_model.specs.declared.settings.Settings.{Settings}
use Rattle.omega_free.specs.FreeLoop.{StepsOn}
use Rattle.omega_free.proofs.FreeLoop.{ended_so, less_to_come, made_more, over_so, runs_more}
use Rattle.omega_free_laws.proofs.OnlyFree.{only_free}
use Rattle.omega_free.proofs.clock.in_free_time.Goals as goal

pub loop-smaller : goal.loop-smaller
loop-smaller g c =
    let settings : Settings = g.W.FreeWorld.settings c.args.world.now in
    let on : StepsOn g.W.FreeWorld.stands g.W.FreeWorld.reads settings c.loop.world c.happen.new.world true =
    subst (StepsOn g.W.FreeWorld.stands g.W.FreeWorld.reads settings c.loop.world c.happen.new.world) c.if-branch.true
    (subst (λ (s : Settings). StepsOn g.W.FreeWorld.stands g.W.FreeWorld.reads s c.loop.world c.happen.new.world c.in_ok-happen.field-0) c.loop.invariant.stays c.in_ok-happen.ensures.steps) in
    less_to_come g.W.FreeWorld.stands g.W.FreeWorld.reads settings g.W.FreeWorld.left g.W.FreeWorld.bounds g.W.FreeWorld.settings g.W.FreeWorld.to_come g.W.FreeWorld.tells_to_come
    c.loop.world c.happen.new.world c.requires.tries c.loop.invariant.stays (c.happen.ensures.stays ∙ c.loop.invariant.stays) c.loop.invariant.made on

pub loop-preserved : goal.loop-preserved
loop-preserved g c =
    let settings : Settings = g.W.FreeWorld.settings c.args.world.now in
    let on : StepsOn g.W.FreeWorld.stands g.W.FreeWorld.reads settings c.loop.world c.happen.new.world true =
    subst (StepsOn g.W.FreeWorld.stands g.W.FreeWorld.reads settings c.loop.world c.happen.new.world) c.if-branch.true
    (subst (λ (s : Settings). StepsOn g.W.FreeWorld.stands g.W.FreeWorld.reads s c.loop.world c.happen.new.world c.in_ok-happen.field-0) c.loop.invariant.stays c.in_ok-happen.ensures.steps) in
    record {
      stays = c.happen.ensures.stays ∙ c.loop.invariant.stays;
      made = made_more g.W.FreeWorld.stands g.W.FreeWorld.reads settings c.loop.world c.happen.new.world c.loop.invariant.made on;
      runs = λ trace begins. runs_more g.W.FreeWorld.stands g.W.FreeWorld.reads settings c.args.world.now c.loop.world c.happen.new.world trace (c.loop.invariant.runs trace) on begins;
    }

pub returns-clause-over : goal.returns-clause-over
returns-clause-over g c trace begins =
    let settings : Settings = g.W.FreeWorld.settings c.args.world.now in
    let on : StepsOn g.W.FreeWorld.stands g.W.FreeWorld.reads settings c.loop.world c.happen.new.world false =
    subst (StepsOn g.W.FreeWorld.stands g.W.FreeWorld.reads settings c.loop.world c.happen.new.world) c.if-branch.false
    (subst (λ (s : Settings). StepsOn g.W.FreeWorld.stands g.W.FreeWorld.reads s c.loop.world c.happen.new.world c.in_ok-happen.field-0) c.loop.invariant.stays c.in_ok-happen.ensures.steps) in
    over_so g.W.FreeWorld.stands g.W.FreeWorld.reads settings c.args.world.now c.loop.world c.happen.new.world trace (c.loop.invariant.runs trace) on begins

pub returns-clause-free : goal.returns-clause-free
returns-clause-free g c trace begins =
    ended_so g.W.FreeWorld.stands g.W.FreeWorld.reads (g.W.FreeWorld.settings c.args.world.now) g.W.FreeWorld.history g.W.FreeWorld.times
    g.W.FreeWorld.tells_history g.W.FreeWorld.tells_times c.happen.new.world trace (returns-clause-over g c trace begins)

pub returns-clause-only : goal.returns-clause-only
returns-clause-only g c trace begins history times other =
    only_free (g.W.FreeWorld.settings c.args.world.now) (g.W.FreeWorld.reads (g.W.FreeWorld.settings c.args.world.now) trace) history _ times _ other (returns-clause-free g c trace begins)

pub returns-clause-stays : goal.returns-clause-stays
returns-clause-stays g c = c.happen.ensures.stays ∙ c.loop.invariant.stays
