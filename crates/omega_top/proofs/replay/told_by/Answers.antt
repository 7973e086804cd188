use Rattle.std.proofs.Common.{List, subst, sym}
use Rattle.omega_model.specs.declared.entries.Entry.{Entry}
use Rattle.omega_model.specs.declared.rows.Round.{Round}
use Rattle.omega_top.specs.Clocks.{IsTimedRun}
use Rattle.omega_top.specs.Reports.{AreReadRounds, AreTimesBy, IsOfSomeTrace, IsOfSomeTraceBy, IsTold}
use Rattle.omega_top.proofs.TellingTimes.{timed_by, told_with, told_without}
use Rattle.omega_top.proofs.replay.told_by.Goals as goal

pub told_of-requires-clause-run : goal.told_of-requires-clause-run
told_of-requires-clause-run c =
    let settings = c.args.settings.now in
    let world = c.args.world.now in
    let times = c.in-Some.times in
    subst (λ (some : List Round). IsOfSomeTrace settings some c.history.result.now times) (sym c.rounds.ensures)
    (subst (λ (entries : List Entry). IsOfSomeTrace settings world.stage.source.rounds entries times) (sym c.history.ensures.history)
    (subst (IsOfSomeTraceBy settings world.stage.source.rounds world.history) c.in-Some.is c.requires.run))

pub returns-in_ok-told-in-Some : goal.returns-in_ok-told-in-Some
returns-in_ok-told-in-Some c trace rounds timed =
    let settings = c.args.settings.now in
    let history = c.args.world.now.history in
    let times = c.in-Some.times in
    let told = c.in_ok-told-in-Some.told in
    let by = subst (AreTimesBy settings.command settings trace history) c.in-Some.is timed in
    told_with settings trace history settings.command times told by
    (subst (λ (entries : List Entry). IsTold settings trace entries told) c.history.ensures.history
    (c.in_ok-told-in-Some.ensures trace (subst (AreReadRounds settings trace) (sym c.rounds.ensures) rounds)
    (subst (λ (entries : List Entry). IsTimedRun settings trace entries times) (sym c.history.ensures.history)
    (timed_by settings trace history settings.command times by))))

pub returns-in-None : goal.returns-in-None
returns-in-None c trace rounds timed =
    let settings = c.args.settings.now in
    let history = c.args.world.now.history in
    told_without settings trace history settings.command (subst (AreTimesBy settings.command settings trace history) c.in-None.is timed)
