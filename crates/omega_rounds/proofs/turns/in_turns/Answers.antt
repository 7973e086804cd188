use Rattle.std.proofs.Common.{◌∙◌, ap, sym, subst}
use Rattle.omega_model.specs.Lawful.{Lawful}
use Rattle.omega_model.specs.Turns.{InTurns}
use Rattle.omega_model.specs.declared.rows.TraceTables.{TraceTables}
use Rattle.omega_model.specs.declared.settings.Settings.{Settings}
use Rattle.omega_rounds.specs.Going.{GoesOn, IsOverAtLast, MovesOn}
use Rattle.omega_rounds.specs.Stages.{IsInRunOf, WorldState}
use Rattle.omega_rounds.specs.declared.steps.RoundStep.{RoundStep}
use Rattle.omega_rounds.proofs.EndedRounds.{same_run}
use Rattle.omega_rounds.proofs.PlayedRounds.{played_more, played_none, turns_now}
use Rattle.omega_laws.proofs.TurnOrder.{only_history}
use Rattle.omega_rounds.proofs.turns.in_turns.Goals as goal

pub loop-next-init : goal.loop-next-init
loop-next-init g c = played_none c.args.world c.requires.new

pub loop-next-preserved : goal.loop-next-preserved
loop-next-preserved g c =
    let now = c.loop-next.world in
    let next = c.in_ok-next.next in
    played_more c.args.world now next c.play_round.new.world c.in-Begun.field-0 c.loop-next.invariant c.next_round.ensures.start c.next_round.ensures.made
    (subst (MovesOn now next) c.in-Begun.is c.in_ok-next.ensures.stage)
    (subst (λ (step : RoundStep). (trace : TraceTables) → IsInRunOf now.stage trace → GoesOn trace now next step) c.in-Begun.is c.in_ok-next.ensures.run)
    c.in_ok-play_round-in-Begun.ensures.stage c.in_ok-play_round-in-Begun.ensures.plays

pub returns-in-Over-clause-turns : goal.returns-in-Over-clause-turns
returns-in-Over-clause-turns g c =
    let now = c.loop-next.world in
    subst (λ (w : WorldState). InTurns w.history) (sym (subst (MovesOn now c.in_ok-next.next) c.in-Over.is c.in_ok-next.ensures.stage))
    (turns_now c.args.world now c.loop-next.invariant c.next_round.ensures.start)

pub returns-in-Over-clause-only : goal.returns-in-Over-clause-only
returns-in-Over-clause-only g c trace made other lawful turns =
    let now = c.loop-next.world in
    let next = c.in_ok-next.next in
    let same = subst (MovesOn now next) c.in-Over.is c.in_ok-next.ensures.stage in
    let here = same_run c.args.world now c.loop-next.invariant.ended trace made in
    let whole = subst (λ (step : RoundStep). (trace : TraceTables) → IsInRunOf now.stage trace → GoesOn trace now next step) c.in-Over.is c.in_ok-next.ensures.run trace here in
    only_history c.args.world.stage.settings trace other next.history lawful turns
    (subst (λ (s : Settings). Lawful s trace next.history) c.loop-next.invariant.ended.settings
    (subst (λ (w : WorldState). Lawful now.stage.settings trace w.history) (sym same) whole))
    (subst (λ (w : WorldState). InTurns w.history) (sym same) (turns_now c.args.world now c.loop-next.invariant c.next_round.ensures.start))

pub returns-in-Over-clause-source : goal.returns-in-Over-clause-source
returns-in-Over-clause-source g c =
    ap (λ (w : WorldState). w.stage.source) (subst (MovesOn c.loop-next.world c.in_ok-next.next) c.in-Over.is c.in_ok-next.ensures.stage)
    ∙ c.loop-next.invariant.ended.source

pub returns-in-Over-clause-settings : goal.returns-in-Over-clause-settings
returns-in-Over-clause-settings g c =
    ap (λ (w : WorldState). w.stage.settings) (subst (MovesOn c.loop-next.world c.in_ok-next.next) c.in-Over.is c.in_ok-next.ensures.stage)
    ∙ c.loop-next.invariant.ended.settings

pub returns-in-Over-clause-last : goal.returns-in-Over-clause-last
returns-in-Over-clause-last g c = subst (IsOverAtLast c.in_ok-next.next.stage) c.in-Over.is c.in_ok-next.ensures.last

pub returns-in-Over-clause-lawful : goal.returns-in-Over-clause-lawful
returns-in-Over-clause-lawful g c = λ trace made.
    let now = c.loop-next.world in
    let next = c.in_ok-next.next in
    let same = subst (MovesOn now next) c.in-Over.is c.in_ok-next.ensures.stage in
    let here = same_run c.args.world now c.loop-next.invariant.ended trace made in
    let whole = subst (λ (step : RoundStep). (trace : TraceTables) → IsInRunOf now.stage trace → GoesOn trace now next step) c.in-Over.is c.in_ok-next.ensures.run trace here in
    subst (λ (s : Settings). Lawful s trace next.history) c.loop-next.invariant.ended.settings
    (subst (λ (w : WorldState). Lawful now.stage.settings trace w.history) (sym same) whole)
