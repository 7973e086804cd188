use Rattle.std.proofs.Common.{◌≡◌, ◌∙◌, List, ap, refl, subst, sym, true≢false}
use Rattle.omega_io.specs.Edge.{Tells}
use Rattle.omega_laws.proofs.WholeCommits.{lawful_whole}
use Rattle.omega_laws.specs.WholeCommits.{CommitsAreWhole}
use Rattle.omega_model.specs.Lawful.{Lawful}
use Rattle.omega_model.specs.Trace.{trace_of}
use Rattle.omega_model.specs.Turns.{InTurns}
use Rattle.omega_model.specs.declared.entries.Entry.{Entry}
use Rattle.omega_model.specs.declared.results.Status.{Status}
use Rattle.omega_model.specs.declared.rows.TraceTables.{TraceTables}
use Rattle.omega_model.specs.declared.settings.Command.{Command}
use Rattle.omega_model.specs.declared.settings.Settings.{Settings}
use Rattle.omega_tables.specs.Reading.{status_of}
use Rattle.omega_tables.specs.declared.refusal.ReadRefusal.{ReadRefusal}
use Rattle.omega_top.proofs.AuditEnds.{audit_no_further, audit_not_usage, audit_read_cause, audit_writes_nothing}
use Rattle.omega_top.proofs.Clocks.{audit_not_free, keeps_free_laws, only_by_free}
use Rattle.omega_top.proofs.GoneOn.{refused_resume, refused_some_resume}
use Rattle.omega_top.proofs.Reading.{audit_reads_none}
use Rattle.omega_top.proofs.Refusing.{answers_refusal}
use Rattle.omega_top.proofs.NoHistory.{sound_empty, turns_empty}
use Rattle.omega_top.proofs.Runs.{answered, only_run, reported, sound_of, turns_of_run}
use Rattle.omega_top.proofs.SomeRun.{refused_free_run, refused_run}
use Rattle.omega_top.proofs.Unread.{ends_no_further, stops_there}
use Rattle.omega_top.specs.Answers.{EndsRun, IfReported, IsTheOnly, IsWritten}
use Rattle.omega_top.specs.Clocks.{IsFree}
use Rattle.omega_top.specs.Commands.{IsOrdered, makes_tables, takes_turns, uses_keeper}
use Rattle.omega_top.specs.FreeAnswers.{IsOnlyFree, KeepsFreeLaws}
use Rattle.omega_top.specs.Reads.{left_by}
use Rattle.omega_top.specs.Runs.{IsRun}
use Rattle.omega_top.specs.SoundHistory.{IsSoundHistory}
use Rattle.omega_top.proofs.top.omega_with.Goals as goal

pub returns-in-Audit-clause-first : goal.returns-in-Audit-clause-first
returns-in-Audit-clause-first g c bytes reads = absurd (audit_reads_none c.args.settings.now _ bytes reads c.in-Audit.is)

pub returns-in-Audit-clause-lawful : goal.returns-in-Audit-clause-lawful
returns-in-Audit-clause-lawful g c waits bytes reads = absurd (audit_reads_none c.args.settings.now _ bytes reads c.in-Audit.is)

pub returns-in-Audit-clause-only : goal.returns-in-Audit-clause-only
returns-in-Audit-clause-only g c waits no_threads bytes reads = absurd (audit_reads_none c.args.settings.now _ bytes reads c.in-Audit.is)

pub returns-in-Audit-clause-ordered : goal.returns-in-Audit-clause-ordered
returns-in-Audit-clause-ordered g c waits bytes reads = absurd (audit_reads_none c.args.settings.now _ bytes reads c.in-Audit.is)

pub returns-in-Audit-clause-whole_commits : goal.returns-in-Audit-clause-whole_commits
returns-in-Audit-clause-whole_commits g c waits bytes reads = absurd (audit_reads_none c.args.settings.now _ bytes reads c.in-Audit.is)

pub returns-in-Audit-clause-written : goal.returns-in-Audit-clause-written
returns-in-Audit-clause-written g c bytes reads = absurd (audit_reads_none c.args.settings.now _ bytes reads c.in-Audit.is)

pub returns-in-Audit-clause-made : goal.returns-in-Audit-clause-made
returns-in-Audit-clause-made g c makes = absurd (true≢false (sym makes ∙ ap makes_tables c.in-Audit.is))

pub returns-in-Audit-clause-turns : goal.returns-in-Audit-clause-turns
returns-in-Audit-clause-turns g c takes = absurd (true≢false (sym takes ∙ ap takes_turns c.in-Audit.is))

pub returns-in-Audit-clause-some_run : goal.returns-in-Audit-clause-some_run
returns-in-Audit-clause-some_run g c waits other = absurd (other c.in-Audit.is)

-- an audit runs by no clock
pub returns-in-Audit-clause-free : goal.returns-in-Audit-clause-free
returns-in-Audit-clause-free g c free = absurd (true≢false (sym free ∙ audit_not_free c.args.settings.now c.in-Audit.is))

pub returns-in-Audit-clause-free_laws : goal.returns-in-Audit-clause-free_laws
returns-in-Audit-clause-free_laws g c free = absurd (true≢false (sym free ∙ audit_not_free c.args.settings.now c.in-Audit.is))

pub returns-in-Audit-clause-only_free : goal.returns-in-Audit-clause-only_free
returns-in-Audit-clause-only_free g c free = absurd (true≢false (sym free ∙ audit_not_free c.args.settings.now c.in-Audit.is))

pub returns-in-Audit-clause-some_free_run : goal.returns-in-Audit-clause-some_free_run
returns-in-Audit-clause-some_free_run g c free = absurd (true≢false (sym free ∙ audit_not_free c.args.settings.now c.in-Audit.is))

pub returns-in-Audit-clause-not_kept : goal.returns-in-Audit-clause-not_kept
returns-in-Audit-clause-not_kept g c none = absurd (true≢false (sym (ap uses_keeper c.in-Audit.is) ∙ none))

pub returns-in-Audit-clause-kept_faults : goal.returns-in-Audit-clause-kept_faults
returns-in-Audit-clause-kept_faults g c none = absurd (true≢false (sym (ap uses_keeper c.in-Audit.is) ∙ none))

pub returns-in-Audit-clause-unread : goal.returns-in-Audit-clause-unread
returns-in-Audit-clause-unread g c none = record { rests = λ table. refl; counts = λ table. refl }

pub returns-in-Audit-clause-not_usage : goal.returns-in-Audit-clause-not_usage
returns-in-Audit-clause-not_usage g c =
    let audit = c.audit_and_write.ensures.audit in audit_not_usage audit.lines _ _ audit.answers

pub returns-in-Audit-clause-no_further : goal.returns-in-Audit-clause-no_further
returns-in-Audit-clause-no_further g c =
    let audit = c.audit_and_write.ensures.audit in audit_no_further audit.lines _ _ _ _ _ c.audit_and_write.result.status audit.answers

pub returns-in-Audit-clause-read_fault : goal.returns-in-Audit-clause-read_fault
returns-in-Audit-clause-read_fault g c =
    let audit = c.audit_and_write.ensures.audit in audit_read_cause audit.lines _ _ _ c.audit_and_write.result.status audit.answers

pub returns-in-Audit-clause-nothing : goal.returns-in-Audit-clause-nothing
returns-in-Audit-clause-nothing g c =
    let audit = c.audit_and_write.ensures.audit in audit_writes_nothing audit.lines _ _ _ _ c.audit_and_write.result.status audit.answers audit.written

pub returns-in-Audit-clause-to_end : goal.returns-in-Audit-clause-to_end
returns-in-Audit-clause-to_end g c bytes told done =
    subst (λ (command : Command). Tells (g.T.Tables.rest c.args.tables.now) (left_by command bytes)) (sym c.in-Audit.is) told

-- what holds of a run that reached its report, of the trace of these bytes
of_bytes : (Says : TraceTables → Type 0) (settings : Settings) (trace other : TraceTables) (history : List Entry) (status : Status)
    → trace ≡ other → ((at : TraceTables) → IsRun settings at history → Says at) → IfReported (IsRun settings trace history) status
    → IfReported (Says other) status
of_bytes Says settings trace other history status are says run =
    reported (IsRun settings trace history) (Says other) status (λ one. subst Says are (says trace one)) run

pub returns-in-Ok-clause-lawful : goal.returns-in-Ok-clause-lawful
returns-in-Ok-clause-lawful g c waits bytes told =
    let settings = c.args.settings.now in
    let done = c.replay_and_write.result in
    of_bytes (λ (trace : TraceTables). Lawful settings trace done.history) settings _ _ done.history done.status (c.in-Ok.ensures.trace bytes told)
    (λ trace run. run.lawful waits) c.replay_and_write.ensures.run

pub returns-in-Ok-clause-ordered : goal.returns-in-Ok-clause-ordered
returns-in-Ok-clause-ordered g c waits bytes told =
    let settings = c.args.settings.now in
    let done = c.replay_and_write.result in
    of_bytes (λ (trace : TraceTables). IsOrdered settings trace done.history) settings _ _ done.history done.status (c.in-Ok.ensures.trace bytes told)
    (λ trace run. run.ordered waits) c.replay_and_write.ensures.run

pub returns-in-Ok-clause-only : goal.returns-in-Ok-clause-only
returns-in-Ok-clause-only g c waits no_threads bytes told =
    let settings = c.args.settings.now in
    let done = c.replay_and_write.result in
    of_bytes (λ (trace : TraceTables). IsTheOnly settings trace done.history) settings _ _ done.history done.status (c.in-Ok.ensures.trace bytes told)
    (λ trace run. only_run settings trace done.history run waits no_threads) c.replay_and_write.ensures.run

pub returns-in-Ok-clause-whole_commits : goal.returns-in-Ok-clause-whole_commits
returns-in-Ok-clause-whole_commits g c waits bytes told =
    let settings = c.args.settings.now in
    let done = c.replay_and_write.result in
    of_bytes (λ (trace : TraceTables). CommitsAreWhole settings trace done.history) settings _ _ done.history done.status (c.in-Ok.ensures.trace bytes told)
    (λ trace run. lawful_whole settings trace done.history (run.lawful waits)) c.replay_and_write.ensures.run

pub returns-in-Ok-clause-free : goal.returns-in-Ok-clause-free
returns-in-Ok-clause-free g c free bytes told =
    let settings = c.args.settings.now in
    let done = c.replay_and_write.result in
    of_bytes (λ (trace : TraceTables). IsFree settings trace done.history) settings _ _ done.history done.status (c.in-Ok.ensures.trace bytes told)
    (λ trace run. run.free free) c.replay_and_write.ensures.run

pub returns-in-Ok-clause-free_laws : goal.returns-in-Ok-clause-free_laws
returns-in-Ok-clause-free_laws g c free bytes told =
    let settings = c.args.settings.now in
    let done = c.replay_and_write.result in
    of_bytes (λ (trace : TraceTables). KeepsFreeLaws settings trace done.history) settings _ _ done.history done.status (c.in-Ok.ensures.trace bytes told)
    (λ trace run. keeps_free_laws settings trace done.history c.requires.range (run.free free)) c.replay_and_write.ensures.run

pub returns-in-Ok-clause-only_free : goal.returns-in-Ok-clause-only_free
returns-in-Ok-clause-only_free g c free bytes told =
    let settings = c.args.settings.now in
    let done = c.replay_and_write.result in
    of_bytes (λ (trace : TraceTables). IsOnlyFree settings trace done.history) settings _ _ done.history done.status (c.in-Ok.ensures.trace bytes told)
    (λ trace run. only_by_free settings trace done.history (run.free free)) c.replay_and_write.ensures.run

pub returns-in-Ok-clause-some_free_run : goal.returns-in-Ok-clause-some_free_run
returns-in-Ok-clause-some_free_run g c free =
    let settings = c.args.settings.now in
    let trace = c.in-Ok.trace in
    let done = c.replay_and_write.result in
    record {
      trace = trace;
      within = c.in-Ok.ensures.within;
      laws = reported (IsRun settings trace done.history) (KeepsFreeLaws settings trace done.history) done.status
          (λ one. keeps_free_laws settings trace done.history c.requires.range (one.free free)) c.replay_and_write.ensures.run;
      written = c.replay_and_write.ensures.written;
    }

pub returns-in-Ok-clause-turns : goal.returns-in-Ok-clause-turns
returns-in-Ok-clause-turns g c takes =
    let settings = c.args.settings.now in
    let done = c.replay_and_write.result in
    answered (IsRun settings c.in-Ok.trace done.history) InTurns done.history done.status turns_empty
    (λ run. turns_of_run settings c.in-Ok.trace done.history run takes) c.replay_and_write.ensures.history c.replay_and_write.ensures.run

pub returns-in-Ok-clause-sound : goal.returns-in-Ok-clause-sound
returns-in-Ok-clause-sound g c =
    let done = c.replay_and_write.result in
    answered (IsRun c.args.settings.now c.in-Ok.trace done.history) IsSoundHistory done.history done.status sound_empty
    (λ run. sound_of done.history run.legal) c.replay_and_write.ensures.history c.replay_and_write.ensures.run

pub returns-in-Ok-clause-some_run : goal.returns-in-Ok-clause-some_run
returns-in-Ok-clause-some_run g c waits runs =
    let settings = c.args.settings.now in
    let trace = c.in-Ok.trace in
    let done = c.replay_and_write.result in
    let run = c.replay_and_write.ensures.run in
    record {
      trace = trace;
      within = c.in-Ok.ensures.within;
      whole = reported (IsRun settings trace done.history) (Lawful settings trace done.history) done.status (λ one. one.lawful waits) run;
      ordered = reported (IsRun settings trace done.history) (IsOrdered settings trace done.history) done.status (λ one. one.ordered waits) run;
      written = c.replay_and_write.ensures.written;
    }

pub returns-in-Ok-clause-no_further : goal.returns-in-Ok-clause-no_further
returns-in-Ok-clause-no_further g c = ends_no_further _ _ _ _ c.args.settings.now.command c.replay_and_write.result.status c.replay_and_write.ensures.ends

pub returns-in-Err-clause-no_further : goal.returns-in-Err-clause-no_further
returns-in-Err-clause-no_further g c =
    rw (c.refused.ensures.status, c.from.ensures) (stops_there _ _ _ _ c.in-Err.refusal c.in-Err.ensures.stopped)

pub returns-in-Err-clause-first : goal.returns-in-Err-clause-first
returns-in-Err-clause-first g c bytes told =
    rw (c.refused.ensures.status, c.from.ensures) (answers_refusal bytes c.in-Err.refusal (c.in-Err.ensures.refusal bytes told))

pub returns-in-Err-clause-made : goal.returns-in-Err-clause-made
returns-in-Err-clause-made g c makes =
    rw (c.refused.ensures.status, c.from.ensures)
    (subst (λ (refusal : ReadRefusal). EndsRun (status_of refusal)) (sym (c.in-Err.ensures.made makes)) tt)

pub returns-in-Err-clause-some_run : goal.returns-in-Err-clause-some_run
returns-in-Err-clause-some_run g c =
    rw (c.refused.ensures.nothing, c.refused.ensures.status, c.from.ensures) (λ waits runs. refused_run c.args.settings.now c.in-Err.refusal _ _ refl)

pub returns-in-Err-clause-some_free_run : goal.returns-in-Err-clause-some_free_run
returns-in-Err-clause-some_free_run g c =
    rw (c.refused.ensures.nothing, c.refused.ensures.status, c.from.ensures) (λ free. refused_free_run c.args.settings.now c.in-Err.refusal _ _ refl)

pub returns-in-Ok-clause-written : goal.returns-in-Ok-clause-written
returns-in-Ok-clause-written g c bytes told =
    let run = c.replay_and_write.result in
    subst
    (λ (trace : TraceTables). IsWritten c.args.settings.now trace run.history run.status (g.K.Sink.written c.args.out.now)
    (g.K.Sink.written c.replay_and_write.new.out))
    (c.in-Ok.ensures.trace bytes told) c.replay_and_write.ensures.written

pub returns-in-Err-clause-resume : goal.returns-in-Err-clause-resume
returns-in-Err-clause-resume g c =
    rw (c.refused.ensures.nothing, c.refused.ensures.status, c.from.ensures)
    (λ is bytes told. refused_resume c.args.settings.now (trace_of bytes) (g.P.Keeper.kept c.args.keeper.now) c.in-Err.refusal _)

pub returns-in-Err-clause-some_resume : goal.returns-in-Err-clause-some_resume
returns-in-Err-clause-some_resume g c =
    rw (c.refused.ensures.nothing, c.refused.ensures.status, c.from.ensures)
    (λ is. refused_some_resume c.args.settings.now (g.P.Keeper.kept c.args.keeper.now) c.in-Err.refusal _)
