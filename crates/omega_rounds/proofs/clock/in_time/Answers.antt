use Rattle.std.proofs.Common.{◌∙◌, ap, subst}
use Rattle.omega_model.specs.declared.rows.TraceTables.{TraceTables}
use Rattle.omega_rounds.specs.Going.{GoesOn, IsOverAtLast, MovesOn}
use Rattle.omega_rounds.specs.Stages.{IsInRunOf, WorldState}
use Rattle.omega_rounds.specs.declared.steps.RoundStep.{RoundStep}
use Rattle.omega_rounds.proofs.EndedRounds.{ended_idle, fewer_rounds}
use Rattle.omega_rounds.proofs.TickedRounds.{begins_in_time, round_at, ticked_more, ticked_over}
use Rattle.omega_laws.proofs.TimeOrder.{only_simulated}
use Rattle.omega_rounds.proofs.clock.in_time.Goals as goal

pub play_round-requires : goal.play_round-requires
play_round-requires c =
    let now = c.loop-times.world in
    let next = c.in_ok-next.next in
    let made = c.next_round.ensures.made in
    let reaches = subst (MovesOn now next) c.in-Begun.is c.in_ok-next.ensures.stage in
    let opens = subst (λ (step : RoundStep). (trace : TraceTables) → IsInRunOf now.stage trace → GoesOn trace now next step) c.in-Begun.is c.in_ok-next.ensures.run in
    record {
      begins = (
        round_at made.0 now c.loop-times.times reaches.round,
        begins_in_time now next c.in-Begun.field-0 c.loop-times.times reaches made.0 made.1 (opens made.0 made.1),
      );
    }

pub loop-times-smaller : goal.loop-times-smaller
loop-times-smaller c =
    let now = c.loop-times.world in
    let next = c.in_ok-next.next in
    fewer_rounds now next c.play_round.new.world c.in-Begun.field-0 (subst (MovesOn now next) c.in-Begun.is c.in_ok-next.ensures.stage)
    c.in_ok-play_round-in-Begun.ensures.stage

pub loop-times-preserved : goal.loop-times-preserved
loop-times-preserved c =
    let now = c.loop-times.world in
    let next = c.in_ok-next.next in
    ticked_more c.args.world now next c.play_round.new.world c.loop-times.times c.play_round.new.times c.in-Begun.field-0 c.loop-times.invariant c.next_round.ensures.start
    (subst (MovesOn now next) c.in-Begun.is c.in_ok-next.ensures.stage)
    (subst (λ (step : RoundStep). (trace : TraceTables) → IsInRunOf now.stage trace → GoesOn trace now next step) c.in-Begun.is c.in_ok-next.ensures.run)
    c.in_ok-play_round-in-Begun.ensures.stage c.in_ok-play_round-in-Begun.ensures.plays

pub unreachable-requires : goal.unreachable-requires
unreachable-requires c =
    let now = c.loop-times.world in
    let next = c.in_ok-next.next in
    ended_idle c.args.world now c.in-Unfinished.field-0 c.loop-times.invariant.ended c.next_round.ensures.start c.next_round.ensures.made
    (subst (λ (step : RoundStep). (trace : TraceTables) → IsInRunOf now.stage trace → GoesOn trace now next step) c.in-Unfinished.is c.in_ok-next.ensures.run)

pub returns-in-Over-clause-simulated : goal.returns-in-Over-clause-simulated
returns-in-Over-clause-simulated c trace made =
    let now = c.loop-times.world in
    let next = c.in_ok-next.next in
    ticked_over c.args.world now next c.loop-times.times c.loop-times.invariant c.next_round.ensures.start
    (subst (MovesOn now next) c.in-Over.is c.in_ok-next.ensures.stage) (subst (IsOverAtLast next.stage) c.in-Over.is c.in_ok-next.ensures.last) trace made

pub returns-in-Over-clause-only : goal.returns-in-Over-clause-only
returns-in-Over-clause-only c trace made other times simulated =
    let now = c.loop-times.world in
    let next = c.in_ok-next.next in
    only_simulated c.args.world.stage.settings trace other next.history times c.loop-times.times simulated
    (ticked_over c.args.world now next c.loop-times.times c.loop-times.invariant c.next_round.ensures.start
    (subst (MovesOn now next) c.in-Over.is c.in_ok-next.ensures.stage) (subst (IsOverAtLast next.stage) c.in-Over.is c.in_ok-next.ensures.last) trace made)

pub returns-in-Over-clause-source : goal.returns-in-Over-clause-source
returns-in-Over-clause-source c =
    ap (λ (w : WorldState). w.stage.source) (subst (MovesOn c.loop-times.world c.in_ok-next.next) c.in-Over.is c.in_ok-next.ensures.stage)
    ∙ c.loop-times.invariant.ended.source

pub returns-in-Over-clause-settings : goal.returns-in-Over-clause-settings
returns-in-Over-clause-settings c =
    ap (λ (w : WorldState). w.stage.settings) (subst (MovesOn c.loop-times.world c.in_ok-next.next) c.in-Over.is c.in_ok-next.ensures.stage)
    ∙ c.loop-times.invariant.ended.settings

pub returns-in-Over-clause-last : goal.returns-in-Over-clause-last
returns-in-Over-clause-last c = subst (IsOverAtLast c.in_ok-next.next.stage) c.in-Over.is c.in_ok-next.ensures.last
