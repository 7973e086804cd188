use Rattle.std.proofs.Common.{◌≤◌, ◌<◌, List, Option, ℕ, length, sym, subst, take}
use Rattle.std.proofs.lemmas.Result.{err_from_is_err_and}
use Rattle.omega_keep.specs.Keeping.{Adds}
use Rattle.omega_model.specs.Legal.{Legal}
use Rattle.omega_model.specs.declared.entries.Entry.{Entry}
use Rattle.omega_rounds.specs.Resuming.{Agree, RefusesRound, lines_behind}
use Rattle.omega_rounds.proofs.AnsweredEntries.{are_answered}
use Rattle.omega_rounds.proofs.ResumedRounds.{agree_played, stops_played, within_played}
use Rattle.omega_rounds.proofs.resume.resume_round.Goals as goal

pub take_round-requires-clause-within : goal.take_round-requires-clause-within
take_round-requires-clause-within g c =
    subst (λ (h : List Entry). c.args.from ≤ length h) (sym c.history.ensures.history)
    (within_played c.args.kept.now c.args.from c.args.world.now c.play_round.new.world c.requires.agreed c.in_ok-play_round.ensures.plays)

pub take_round-requires-clause-answered : goal.take_round-requires-clause-answered
take_round-requires-clause-answered g c =
    are_answered c.history.result.now (subst Legal (sym c.history.ensures.history) c.history.ensures.legal)

pub take_round-requires-clause-agree : goal.take_round-requires-clause-agree
take_round-requires-clause-agree g c =
    subst (λ (h : List Entry). Agree c.args.kept.now (take c.args.from h)) (sym c.history.ensures.history)
    (agree_played c.args.kept.now c.args.from c.args.world.now c.play_round.new.world c.requires.agreed c.in_ok-play_round.ensures.plays)

pub returns-in_err-take_round-clause-stops : goal.returns-in_err-take_round-clause-stops
returns-in_err-take_round-clause-stops g c =
    let p = err_from_is_err_and c.from_residual-in_err-take_round.result c.from_residual-in_err-take_round.ensures.1 in
    let refusal = c.in_err-take_round.field-0.0 in
    rw (p.1, p.2) (stops_played c.args.kept.now c.args.from c.args.world.now c.play_round.new.world c.requires.agreed c.in_ok-play_round.ensures.plays c.in_ok-play_round.ensures.stage refusal
    (subst (λ (h : List Entry). RefusesRound c.args.kept.now c.args.from h refusal) c.history.ensures.history c.in_err-take_round.ensures.refused))

pub returns-clause-takes : goal.returns-clause-takes
returns-clause-takes g c =
    let took = c.in_ok-take_round.ensures in
    record {
      agree = subst (Agree c.args.kept.now) c.history.ensures.history took.agree;
      ends = subst (λ (h : List Entry). c.args.from < length c.args.kept.now → length h ≤ length c.args.kept.now) c.history.ensures.history took.ends;
      adds = subst (λ (h : List Entry). (first : Option (List (List ℕ))) → Adds (lines_behind c.args.kept.now (take c.args.from h)) first (g.P.Keeper.kept c.args.keeper.now)
          → Adds (lines_behind c.args.kept.now h) first (g.P.Keeper.kept c.take_round.new.keeper)) c.history.ensures.history took.adds;
    }
