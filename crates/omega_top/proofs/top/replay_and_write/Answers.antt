use Rattle.std.proofs.Common.{◌≡◌, ◌∙◌, List, ℕ, ap, subst, sym}
use Rattle.omega_model.specs.declared.results.Status.TheVariants.{NoMemory}
use Rattle.omega_model.specs.declared.settings.Command.TheVariants.{Resume, Run}
use Rattle.omega_top.specs.Answers.{Writes}
use Rattle.omega_top.specs.Commands.{takes_turns}
use Rattle.omega_top.specs.Runs.{IsRun}
use Rattle.omega_top.proofs.Clocks.{resume_not_free}
use Rattle.omega_top.proofs.GoneOn.{reported_resume, stopped_resume, stops_whole}
use Rattle.omega_top.proofs.Replayed.{replayed}
use Rattle.omega_top.proofs.Runs.{only_run, turns_of_run}
use Rattle.omega_top.proofs.Written.{if_reported, written_if}
use Rattle.omega_top.proofs.top.replay_and_write.Goals as goal

pub returns-clause-run : goal.returns-clause-run
returns-clause-run g c =
    let run = c.in-Ok.run' in
    if_reported (IsRun c.args.input.settings c.args.input.trace run.history) c.write-status.result c.in-Ok.ensures.run.history

pub returns-clause-written : goal.returns-clause-written
returns-clause-written g c =
    let before = g.K.Sink.written c.args.out.now in
    let now = g.K.Sink.written c.write-status.new.out in
    let settings = c.args.input.settings in
    let trace = c.args.input.trace in
    let said = c.in-Ok-report_of_run.ensures trace c.in-Ok.ensures.run in
    written_if settings trace c.in-Ok.run'.history c.write-status.result before now c.in-Ok-report_of_run.bytes said
    (subst (λ (bytes : List ℕ). Writes bytes before now c.write-status.result) c.as_slice.ensures c.write-status.ensures.written)

pub returns-clause-resume : goal.returns-clause-resume
returns-clause-resume g c is =
    let settings = c.args.input.settings in
    let trace = c.args.input.trace in
    let before = g.K.Sink.written c.args.out.now in
    let now = g.K.Sink.written c.write-status.new.out in
    let history = c.in-Ok.run'.history in
    let run = c.in-Ok.ensures.run.history in
    let status = c.write-status.result in
    let said = c.in-Ok-report_of_run.ensures trace c.in-Ok.ensures.run in
    let waits = resume_not_free settings is in
    reported_resume settings trace (g.P.Keeper.kept c.args.keeper.now) (g.P.Keeper.kept c.run_of.new.keeper) history status before now
    (c.in-Ok.ensures.kept is) c.write-status.ensures.ends
    (replayed settings trace history status before now c.in-Ok-report_of_run.bytes is (run.lawful waits) (run.ordered waits)
    (only_run settings trace history run waits (λ threads. let clash : Resume ≡ Run = sym is ∙ threads in absurd (cc))) said
    (subst (λ (bytes : List ℕ). Writes bytes before now status) c.as_slice.ensures c.write-status.ensures.written))

pub returns-in-Err-clause-resume : goal.returns-in-Err-clause-resume
returns-in-Err-clause-resume g c =
    rw (c.refused.ensures.nothing, c.refused.ensures.status)
    (λ is. stopped_resume c.args.input.settings c.args.input.trace _ _ c.in-Err.status _ (c.in-Err.ensures.refused is))

pub returns-in_default-clause-resume : goal.returns-in_default-clause-resume
returns-in_default-clause-resume g c =
    let settings = c.args.input.settings in
    let trace = c.args.input.trace in
    let before = g.P.Keeper.kept c.args.keeper.now in
    let now = g.P.Keeper.kept c.run_of.new.keeper in
    let history = c.in-Ok.run'.history in
    let run = c.in-Ok.ensures.run.history in
    rw (c.refused-in_default.ensures.nothing, c.refused-in_default.ensures.status)
    (λ is. stopped_resume settings trace before now NoMemory _ (stops_whole settings trace before now history (c.in-Ok.ensures.kept is) (run.lawful (resume_not_free settings is))
    (turns_of_run settings trace history run (ap takes_turns is))))
