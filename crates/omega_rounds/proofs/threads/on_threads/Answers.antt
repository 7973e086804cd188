use Rattle.std.proofs.Common.{◌∙◌, ap, subst, sym}
use Rattle.omega_model.specs.Lawful.{Lawful}
use Rattle.omega_model.specs.declared.rows.TraceTables.{TraceTables}
use Rattle.omega_model.specs.declared.settings.Settings.{Settings}
use Rattle.omega_rounds.specs.Going.{GoesOn, IsOverAtLast, MovesOn}
use Rattle.omega_rounds.specs.Stages.{IsInRunOf, WorldState}
use Rattle.omega_rounds.specs.declared.steps.RoundStep.{RoundStep}
use Rattle.omega_rounds.proofs.EndedRounds.{begun_some, ended_idle, ended_more, ended_none, nobody_begun, same_run}
use Rattle.omega_rounds.proofs.threads.on_threads.Goals as goal

pub loop-next-init : goal.loop-next-init
loop-next-init g c = ended_none c.args.world c.requires.new

pub play_on_threads-requires-clause-begun : goal.play_on_threads-requires-clause-begun
play_on_threads-requires-clause-begun g c κs within =
    begun_some c.loop-next.world c.in_ok-next.next c.in-Begun.field-0 (subst (MovesOn c.loop-next.world c.in_ok-next.next) c.in-Begun.is c.in_ok-next.ensures.stage)

pub play_on_threads-requires-clause-nobody : goal.play_on_threads-requires-clause-nobody
play_on_threads-requires-clause-nobody g c κs within =
    let now = c.loop-next.world in
    let next = c.in_ok-next.next in
    nobody_begun now next c.in-Begun.field-0 c.next_round.ensures.made
    (subst (MovesOn now next) c.in-Begun.is c.in_ok-next.ensures.stage)
    (subst (λ (step : RoundStep). (trace : TraceTables) → IsInRunOf now.stage trace → GoesOn trace now next step) c.in-Begun.is c.in_ok-next.ensures.run)

pub loop-next-preserved : goal.loop-next-preserved
loop-next-preserved g c =
    let now = c.loop-next.world in
    let next = c.in_ok-next.next in
    ended_more c.args.world now next c.in_ok-world-in-Begun.world c.in-Begun.field-0 c.loop-next.invariant
    (subst (MovesOn now next) c.in-Begun.is c.in_ok-next.ensures.stage)
    c.in_ok-world-in-Begun.ensures.stage c.in_ok-world-in-Begun.ensures.done

pub unreachable-requires : goal.unreachable-requires
unreachable-requires g c =
    let now = c.loop-next.world in
    ended_idle c.args.world now c.in-Unfinished.field-0 c.loop-next.invariant c.next_round.ensures.start c.next_round.ensures.made
    (subst (λ (step : RoundStep). (trace : TraceTables) → IsInRunOf now.stage trace → GoesOn trace now c.in_ok-next.next step) c.in-Unfinished.is c.in_ok-next.ensures.run)

pub returns-in-Over-clause-source : goal.returns-in-Over-clause-source
returns-in-Over-clause-source g c =
    ap (λ (w : WorldState). w.stage.source) (subst (MovesOn c.loop-next.world c.in_ok-next.next) c.in-Over.is c.in_ok-next.ensures.stage)
    ∙ c.loop-next.invariant.source

pub returns-in-Over-clause-settings : goal.returns-in-Over-clause-settings
returns-in-Over-clause-settings g c =
    ap (λ (w : WorldState). w.stage.settings) (subst (MovesOn c.loop-next.world c.in_ok-next.next) c.in-Over.is c.in_ok-next.ensures.stage)
    ∙ c.loop-next.invariant.settings

pub returns-in-Over-clause-last : goal.returns-in-Over-clause-last
returns-in-Over-clause-last g c = subst (IsOverAtLast c.in_ok-next.next.stage) c.in-Over.is c.in_ok-next.ensures.last

pub returns-in-Over-clause-lawful : goal.returns-in-Over-clause-lawful
returns-in-Over-clause-lawful g c = λ trace made.
    let now = c.loop-next.world in
    let next = c.in_ok-next.next in
    let same = subst (MovesOn now next) c.in-Over.is c.in_ok-next.ensures.stage in
    let here = same_run c.args.world now c.loop-next.invariant trace made in
    let whole = subst (λ (step : RoundStep). (trace : TraceTables) → IsInRunOf now.stage trace → GoesOn trace now next step) c.in-Over.is c.in_ok-next.ensures.run trace here in
    subst (λ (s : Settings). Lawful s trace next.history) c.loop-next.invariant.settings
    (subst (λ (w : WorldState). Lawful now.stage.settings trace w.history) (sym same) whole)
