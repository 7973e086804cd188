use Rattle.std.proofs.Common.{◌∙◌, List, length, ap, subst, sym, arith}
use Rattle.std.proofs.lemmas.Result.{err_from_is_err_and}
use Rattle.omega_model.specs.Lawful.{Lawful}
use Rattle.omega_model.specs.Turns.{InTurns}
use Rattle.omega_model.specs.declared.entries.Entry.{Entry}
use Rattle.omega_model.specs.declared.rows.TraceTables.{TraceTables}
use Rattle.omega_model.specs.declared.settings.Settings.{Settings}
use Rattle.omega_rounds.specs.Going.{GoesOn, IsOverAtLast, MovesOn}
use Rattle.omega_rounds.specs.Resuming.{IsPastEnd}
use Rattle.omega_rounds.specs.Stages.{IsInRunOf, WorldState}
use Rattle.omega_rounds.specs.declared.steps.RoundStep.{RoundStep}
use Rattle.omega_rounds.proofs.EndedRounds.{ended_idle, same_run}
use Rattle.omega_rounds.proofs.PlayedRounds.{turns_now}
use Rattle.omega_rounds.proofs.ResumedRounds.{begins_agreed, end_agreed, end_kept, end_leaves, end_refused, leaves_rounds, resumed_more, stops_leaves, stops_refused}
use Rattle.omega_laws.proofs.TurnOrder.{only_history}
use Rattle.omega_rounds.proofs.resume.resume_turns.Goals as goal

pub returns-in_err-next-clause-rounds : goal.returns-in_err-next-clause-rounds
returns-in_err-next-clause-rounds g c =
    let p = err_from_is_err_and c.from_residual.result c.from_residual.ensures.1 in
    rw (p.1, p.2) (leaves_rounds c.args.kept.now (g.P.Keeper.kept c.args.keeper.now) c.args.world c.loop-next.world (g.P.Keeper.kept c.loop-next.keeper)
    c.loop-next.invariant.resumed c.next_round.ensures.start)

pub resume_round-requires-clause-agreed : goal.resume_round-requires-clause-agreed
resume_round-requires-clause-agreed g c κs within =
    let now = c.loop-next.world in
    let next = c.in_ok-next.next in
    let reaches = subst (MovesOn now next) c.in-Begun.is c.in_ok-next.ensures.stage in
    let opens = subst (λ (step : RoundStep). (trace : TraceTables) → IsInRunOf now.stage trace → GoesOn trace now next step) c.in-Begun.is c.in_ok-next.ensures.run in
    begins_agreed c.args.kept.now (g.P.Keeper.kept c.args.keeper.now) c.args.world now next c.in-Begun.field-0 (g.P.Keeper.kept c.loop-next.keeper)
    c.loop-next.invariant.resumed c.next_round.ensures.start c.next_round.ensures.made reaches opens
    (length c.history-from.result.now) (ap (λ (h : List Entry). length h) c.history-from.ensures.history)

pub returns-in_err-resume_round-in-Begun-clause-refused : goal.returns-in_err-resume_round-in-Begun-clause-refused
returns-in_err-resume_round-in-Begun-clause-refused g c =
    let now = c.loop-next.world in
    let next = c.in_ok-next.next in
    let reaches = subst (MovesOn now next) c.in-Begun.is c.in_ok-next.ensures.stage in
    let opens = subst (λ (step : RoundStep). (trace : TraceTables) → IsInRunOf now.stage trace → GoesOn trace now next step) c.in-Begun.is c.in_ok-next.ensures.run in
    let p = err_from_is_err_and c.from_residual-in_err-resume_round-in-Begun.result c.from_residual-in_err-resume_round-in-Begun.ensures.1 in
    rw (p.1, p.2) (stops_refused c.args.kept.now (g.P.Keeper.kept c.args.keeper.now) c.args.world now next c.in-Begun.field-0 (g.P.Keeper.kept c.loop-next.keeper)
    c.loop-next.invariant.resumed c.next_round.ensures.start c.next_round.ensures.made reaches opens
    (length c.history-from.result.now) (ap (λ (h : List Entry). length h) c.history-from.ensures.history) c.in_err-resume_round-in-Begun.field-0.0
    c.in_err-resume_round-in-Begun.ensures.stops)

pub returns-in_err-resume_round-in-Begun-clause-rounds : goal.returns-in_err-resume_round-in-Begun-clause-rounds
returns-in_err-resume_round-in-Begun-clause-rounds g c =
    let now = c.loop-next.world in
    let next = c.in_ok-next.next in
    let reaches = subst (MovesOn now next) c.in-Begun.is c.in_ok-next.ensures.stage in
    let opens = subst (λ (step : RoundStep). (trace : TraceTables) → IsInRunOf now.stage trace → GoesOn trace now next step) c.in-Begun.is c.in_ok-next.ensures.run in
    let p = err_from_is_err_and c.from_residual-in_err-resume_round-in-Begun.result c.from_residual-in_err-resume_round-in-Begun.ensures.1 in
    rw (p.1, p.2, c.in_err-resume_round-in-Begun.ensures.stays) (stops_leaves c.args.kept.now (g.P.Keeper.kept c.args.keeper.now) c.args.world now next c.in-Begun.field-0 (g.P.Keeper.kept c.loop-next.keeper)
    c.loop-next.invariant.resumed c.next_round.ensures.start c.next_round.ensures.made reaches opens
    (length c.history-from.result.now) (ap (λ (h : List Entry). length h) c.history-from.ensures.history) c.in_err-resume_round-in-Begun.field-0.0
    c.in_err-resume_round-in-Begun.ensures.stops)

pub unreachable-requires : goal.unreachable-requires
unreachable-requires g c =
    let now = c.loop-next.world in
    ended_idle c.args.world now c.in-Unfinished.field-0 c.loop-next.invariant.resumed.played.ended c.next_round.ensures.start c.next_round.ensures.made
    (subst (λ (step : RoundStep). (trace : TraceTables) → IsInRunOf now.stage trace → GoesOn trace now c.in_ok-next.next step) c.in-Unfinished.is c.in_ok-next.ensures.run)

pub loop-next-preserved : goal.loop-next-preserved
loop-next-preserved g c =
    let now = c.loop-next.world in
    let next = c.in_ok-next.next in
    let reaches = subst (MovesOn now next) c.in-Begun.is c.in_ok-next.ensures.stage in
    let opens = subst (λ (step : RoundStep). (trace : TraceTables) → IsInRunOf now.stage trace → GoesOn trace now next step) c.in-Begun.is c.in_ok-next.ensures.run in
    let played = c.in_ok-resume_round-in-Begun in
    record {
      resumed = resumed_more c.args.kept.now (g.P.Keeper.kept c.args.keeper.now) c.args.world now next c.in-Begun.field-0 (g.P.Keeper.kept c.loop-next.keeper)
          c.loop-next.invariant.resumed c.next_round.ensures.start c.next_round.ensures.made reaches opens
          c.resume_round.new.world played.ensures.stage played.ensures.plays (g.P.Keeper.kept c.resume_round.new.keeper)
          (length c.history-from.result.now) (ap (λ (h : List Entry). length h) c.history-from.ensures.history) played.ensures.takes;
      path = c.resume_round.ensures.path ∙ c.loop-next.invariant.path;
      later = omega (arith, c.resume_round.ensures.later, c.loop-next.invariant.later);
    }

pub returns-in_err-end_kept-in-Over-clause-refused : goal.returns-in_err-end_kept-in-Over-clause-refused
returns-in_err-end_kept-in-Over-clause-refused g c =
    let now = c.loop-next.world in
    let next = c.in_ok-next.next in
    let same = subst (MovesOn now next) c.in-Over.is c.in_ok-next.ensures.stage in
    let all = subst (IsOverAtLast next.stage) c.in-Over.is c.in_ok-next.ensures.last in
    let p = err_from_is_err_and c.from_residual-in_err-end_kept-in-Over.result c.from_residual-in_err-end_kept-in-Over.ensures.1 in
    rw (p.1, p.2) (end_refused c.args.kept.now (g.P.Keeper.kept c.args.keeper.now) c.args.world now next (g.P.Keeper.kept c.loop-next.keeper)
    c.loop-next.invariant.resumed c.next_round.ensures.start same all c.in_err-end_kept-in-Over.field-0.0 c.in_err-end_kept-in-Over.ensures.refused)

pub returns-in_err-end_kept-in-Over-clause-rounds : goal.returns-in_err-end_kept-in-Over-clause-rounds
returns-in_err-end_kept-in-Over-clause-rounds g c =
    let now = c.loop-next.world in
    let next = c.in_ok-next.next in
    let same = subst (MovesOn now next) c.in-Over.is c.in_ok-next.ensures.stage in
    let all = subst (IsOverAtLast next.stage) c.in-Over.is c.in_ok-next.ensures.last in
    let p = err_from_is_err_and c.from_residual-in_err-end_kept-in-Over.result c.from_residual-in_err-end_kept-in-Over.ensures.1 in
    rw (p.1, p.2) (end_leaves c.args.kept.now (g.P.Keeper.kept c.args.keeper.now) c.args.world now next (g.P.Keeper.kept c.loop-next.keeper)
    c.loop-next.invariant.resumed c.next_round.ensures.start same all c.in_err-end_kept-in-Over.field-0.0 c.in_err-end_kept-in-Over.ensures.refused)

pub returns-in_err-end_kept-in-Over-clause-cause : goal.returns-in_err-end_kept-in-Over-clause-cause
returns-in_err-end_kept-in-Over-clause-cause g c =
    let p = err_from_is_err_and c.from_residual-in_err-end_kept-in-Over.result c.from_residual-in_err-end_kept-in-Over.ensures.1 in
    rw (p.1, p.2) (λ is. absurd (subst (IsPastEnd c.in_ok-next.next c.args.kept.now) is c.in_err-end_kept-in-Over.ensures.refused))

pub returns-in-Over-clause-only : goal.returns-in-Over-clause-only
returns-in-Over-clause-only g c trace made other lawful turns =
    let now = c.loop-next.world in
    let next = c.in_ok-next.next in
    let played = c.loop-next.invariant.resumed.played in
    let same = subst (MovesOn now next) c.in-Over.is c.in_ok-next.ensures.stage in
    let here = same_run c.args.world now played.ended trace made in
    let whole = subst (λ (step : RoundStep). (trace : TraceTables) → IsInRunOf now.stage trace → GoesOn trace now next step) c.in-Over.is c.in_ok-next.ensures.run trace here in
    only_history c.args.world.stage.settings trace other next.history lawful turns
    (subst (λ (s : Settings). Lawful s trace next.history) played.ended.settings
    (subst (λ (w : WorldState). Lawful now.stage.settings trace w.history) (sym same) whole))
    (subst (λ (w : WorldState). InTurns w.history) (sym same) (turns_now c.args.world now played c.next_round.ensures.start))

pub returns-in-Over-clause-agreed : goal.returns-in-Over-clause-agreed
returns-in-Over-clause-agreed g c =
    let now = c.loop-next.world in
    let next = c.in_ok-next.next in
    let same = subst (MovesOn now next) c.in-Over.is c.in_ok-next.ensures.stage in
    let all = subst (IsOverAtLast next.stage) c.in-Over.is c.in_ok-next.ensures.last in
    end_agreed c.args.kept.now (g.P.Keeper.kept c.args.keeper.now) c.args.world now next (g.P.Keeper.kept c.loop-next.keeper)
    c.loop-next.invariant.resumed c.next_round.ensures.start same all
    c.in_ok-end_kept-in-Over.ensures.all c.next_round.ensures.made

pub returns-in-Over-clause-kept : goal.returns-in-Over-clause-kept
returns-in-Over-clause-kept g c =
    let now = c.loop-next.world in
    let next = c.in_ok-next.next in
    let same = subst (MovesOn now next) c.in-Over.is c.in_ok-next.ensures.stage in
    let all = subst (IsOverAtLast next.stage) c.in-Over.is c.in_ok-next.ensures.last in
    end_kept c.args.kept.now (g.P.Keeper.kept c.args.keeper.now) c.args.world now next (g.P.Keeper.kept c.loop-next.keeper)
    c.loop-next.invariant.resumed c.next_round.ensures.start same all

pub returns-in-Over-clause-source : goal.returns-in-Over-clause-source
returns-in-Over-clause-source g c =
    ap (λ (w : WorldState). w.stage.source) (subst (MovesOn c.loop-next.world c.in_ok-next.next) c.in-Over.is c.in_ok-next.ensures.stage)
    ∙ c.loop-next.invariant.resumed.played.ended.source

pub returns-in-Over-clause-settings : goal.returns-in-Over-clause-settings
returns-in-Over-clause-settings g c =
    ap (λ (w : WorldState). w.stage.settings) (subst (MovesOn c.loop-next.world c.in_ok-next.next) c.in-Over.is c.in_ok-next.ensures.stage)
    ∙ c.loop-next.invariant.resumed.played.ended.settings

pub returns-in-Over-clause-last : goal.returns-in-Over-clause-last
returns-in-Over-clause-last g c = subst (IsOverAtLast c.in_ok-next.next.stage) c.in-Over.is c.in_ok-next.ensures.last

pub returns-in-Over-clause-lawful : goal.returns-in-Over-clause-lawful
returns-in-Over-clause-lawful g c = λ trace made.
    let now = c.loop-next.world in
    let next = c.in_ok-next.next in
    let same = subst (MovesOn now next) c.in-Over.is c.in_ok-next.ensures.stage in
    let here = same_run c.args.world now c.loop-next.invariant.resumed.played.ended trace made in
    let whole = subst (λ (step : RoundStep). (trace : TraceTables) → IsInRunOf now.stage trace → GoesOn trace now next step) c.in-Over.is c.in_ok-next.ensures.run trace here in
    subst (λ (s : Settings). Lawful s trace next.history) c.loop-next.invariant.resumed.played.ended.settings
    (subst (λ (w : WorldState). Lawful now.stage.settings trace w.history) (sym same) whole)

pub returns-in-Over-clause-turns : goal.returns-in-Over-clause-turns
returns-in-Over-clause-turns g c =
    let now = c.loop-next.world in
    subst (λ (w : WorldState). InTurns w.history) (sym (subst (MovesOn now c.in_ok-next.next) c.in-Over.is c.in_ok-next.ensures.stage))
    (turns_now c.args.world now c.loop-next.invariant.resumed.played c.next_round.ensures.start)
