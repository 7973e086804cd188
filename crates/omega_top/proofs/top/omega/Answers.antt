use Rattle.std.proofs.Common.{◌∙◌, ℕ, List, Option, ap, refl, subst, sym}
use Rattle.omega_keep.specs.Keeping.{Rose as RoseOfKeeper}
use Rattle.omega_model.specs.Trace.{trace_of}
use Rattle.omega_model.specs.declared.settings.Settings.{Settings}
use Rattle.omega_top.specs.Audits.{KeepsAudited}
use Rattle.omega_top.specs.Commands.{makes_tables}
use Rattle.omega_top.specs.Reads.{Reads}
use Rattle.omega_top.specs.Resumes.{IsResume, KeepsRounds}
use Rattle.omega_top.proofs.AuditedLines.{audit_completes, no_memory_audit}
use Rattle.omega_top.proofs.Completing.{completes, completes_resume, ends_well}
use Rattle.omega_top.proofs.GoneOn.{no_memory_resume, no_memory_some_resume}
use Rattle.omega_top.proofs.Reading.{entered_reads, reads_alone}
use Rattle.omega_top.proofs.SomeRun.{no_memory_free_run, no_memory_run}
use Rattle.omega_top.proofs.Unread.{entered_no_further, untouched}
use Rattle.omega_top.proofs.top.omega.Goals as goal

-- entering a folder leaves what is told of the tables
pub returns-clause-first : goal.returns-clause-first
returns-clause-first g c bytes =
    rw c.omega_with.ensures.settings
    (λ reads. c.omega_with.ensures.first bytes (entered_reads c.in-Ok.parsed.settings _ _ bytes c.enter.ensures.rests reads))

pub returns-clause-lawful : goal.returns-clause-lawful
returns-clause-lawful g c bytes =
    rw c.omega_with.ensures.settings
    (λ waits reads. c.omega_with.ensures.lawful waits bytes (entered_reads c.in-Ok.parsed.settings _ _ bytes c.enter.ensures.rests reads))

pub returns-clause-only : goal.returns-clause-only
returns-clause-only g c bytes =
    rw c.omega_with.ensures.settings
    (λ waits others reads. c.omega_with.ensures.only waits others bytes (entered_reads c.in-Ok.parsed.settings _ _ bytes c.enter.ensures.rests reads))

pub returns-clause-ordered : goal.returns-clause-ordered
returns-clause-ordered g c bytes =
    rw c.omega_with.ensures.settings
    (λ waits reads. c.omega_with.ensures.ordered waits bytes (entered_reads c.in-Ok.parsed.settings _ _ bytes c.enter.ensures.rests reads))

pub returns-clause-free : goal.returns-clause-free
returns-clause-free g c bytes =
    rw c.omega_with.ensures.settings
    (λ free reads. c.omega_with.ensures.free free bytes (entered_reads c.in-Ok.parsed.settings _ _ bytes c.enter.ensures.rests reads))

pub returns-clause-free_laws : goal.returns-clause-free_laws
returns-clause-free_laws g c bytes =
    rw c.omega_with.ensures.settings
    (λ free reads. c.omega_with.ensures.free_laws free bytes (entered_reads c.in-Ok.parsed.settings _ _ bytes c.enter.ensures.rests reads))

pub returns-clause-only_free : goal.returns-clause-only_free
returns-clause-only_free g c bytes =
    rw c.omega_with.ensures.settings
    (λ free reads. c.omega_with.ensures.only_free free bytes (entered_reads c.in-Ok.parsed.settings _ _ bytes c.enter.ensures.rests reads))

pub returns-clause-turns : goal.returns-clause-turns
returns-clause-turns g c = rw c.omega_with.ensures.settings c.omega_with.ensures.turns

pub returns-clause-whole_commits : goal.returns-clause-whole_commits
returns-clause-whole_commits g c bytes =
    rw c.omega_with.ensures.settings
    (λ waits reads. c.omega_with.ensures.whole_commits waits bytes (entered_reads c.in-Ok.parsed.settings _ _ bytes c.enter.ensures.rests reads))

pub returns-clause-written : goal.returns-clause-written
returns-clause-written g c bytes =
    rw c.omega_with.ensures.settings
    (λ reads. c.omega_with.ensures.written bytes (entered_reads c.in-Ok.parsed.settings _ _ bytes c.enter.ensures.rests reads))

pub returns-clause-made : goal.returns-clause-made
returns-clause-made g c = rw c.omega_with.ensures.settings c.omega_with.ensures.made

pub returns-clause-unread : goal.returns-clause-unread
returns-clause-unread g c =
    rw c.omega_with.ensures.settings (λ makes. record {
      rests = λ table. (c.omega_with.ensures.unread makes).rests table ∙ c.enter.ensures.rests table;
      counts = λ table. (c.omega_with.ensures.unread makes).counts table ∙ c.enter.ensures.counts table;
    })

pub returns-clause-complete : goal.returns-clause-complete
returns-clause-complete g c bytes reads clean none alone taken =
    let chosen = subst (λ (settings : Settings). Reads settings (g.T.Tables.rest c.args.tables.now) bytes) (sym c.in-Ok.ensures.settings) reads in
    completes bytes _ _ _ _ _ clean none c.enter.ensures.counts c.omega_with.result.status
    (c.omega_with.ensures.not_kept (reads_alone c.in-Ok.parsed.settings _ bytes
    (λ is. alone (ap (λ (settings : Settings). settings.command) (sym c.in-Ok.ensures.settings) ∙ is)) chosen))
    (c.omega_with.ensures.first bytes (entered_reads c.in-Ok.parsed.settings _ _ bytes c.enter.ensures.rests chosen))
    c.omega_with.ensures.read_fault c.omega_with.ensures.write_fault

pub returns-clause-complete_resume : goal.returns-clause-complete_resume
returns-clause-complete_resume g c bytes resumes reads clean keeps stays none taken =
    let settings = c.in-Ok.parsed.settings in
    let chosen = subst (λ (settings : Settings). Reads settings (g.T.Tables.rest c.args.tables.now) bytes) (sym c.in-Ok.ensures.settings) reads in
    let entered = entered_reads settings _ _ bytes c.enter.ensures.rests chosen in
    let is = ap (λ (settings : Settings). settings.command) c.in-Ok.ensures.settings ∙ resumes in
    completes_resume bytes _ _ _ _ _ clean none c.enter.ensures.counts settings (trace_of bytes) _ _ c.omega_with.result.history c.omega_with.result.status _ _ _ _
    (c.omega_with.ensures.resume is bytes entered)
    (subst (KeepsRounds settings (trace_of bytes)) (sym c.enter-2.ensures.list)
    (subst (λ (settings : Settings). KeepsRounds settings (trace_of bytes) (g.P.Keeper.kept c.args.keeper.now)) (sym c.in-Ok.ensures.settings) keeps))
    stays
    (λ fault. subst (λ (count : ℕ). RoseOfKeeper count (g.P.Keeper.faults c.omega_with.new.keeper)) c.enter-2.ensures.count (c.omega_with.ensures.keep_fault fault))
    (c.omega_with.ensures.first bytes entered)
    c.omega_with.ensures.read_fault c.omega_with.ensures.write_fault

pub returns-clause-resume : goal.returns-clause-resume
returns-clause-resume g c bytes =
    let settings = c.in-Ok.parsed.settings in
    let done = c.omega_with.result in
    rw c.omega_with.ensures.settings
    (λ is reads. subst (λ (list : Option (List (List ℕ))). IsResume settings (trace_of bytes) list (g.P.Keeper.kept c.omega_with.new.keeper) done.history done.status
    (g.K.Sink.written c.args.out.now) (g.K.Sink.written c.omega_with.new.out))
    c.enter-2.ensures.list
    (c.omega_with.ensures.resume is bytes (entered_reads settings _ _ bytes c.enter.ensures.rests reads)))

pub returns-then-is_err-clause-resume : goal.returns-then-is_err-clause-resume
returns-then-is_err-clause-resume g c bytes =
    rw (c.refused-then-is_err.ensures.settings, c.refused-then-is_err.ensures.nothing, c.refused-then-is_err.ensures.status) (λ is reads. no_memory_resume c.in-Ok.parsed.settings (trace_of bytes) _ _ _ refl)

pub returns-then-is_err-2-clause-resume : goal.returns-then-is_err-2-clause-resume
returns-then-is_err-2-clause-resume g c bytes =
    rw (c.refused-then-is_err-2.ensures.settings, c.refused-then-is_err-2.ensures.nothing, c.refused-then-is_err-2.ensures.status) (λ is reads. no_memory_resume c.in-Ok.parsed.settings (trace_of bytes) _ _ _ c.enter-2.ensures.list)

pub returns-then-is_err-clause-some_resume : goal.returns-then-is_err-clause-some_resume
returns-then-is_err-clause-some_resume g c =
    rw (c.refused-then-is_err.ensures.settings, c.refused-then-is_err.ensures.nothing, c.refused-then-is_err.ensures.status) (λ is. no_memory_some_resume c.in-Ok.parsed.settings _ _ _ refl)

pub returns-then-is_err-2-clause-some_resume : goal.returns-then-is_err-2-clause-some_resume
returns-then-is_err-2-clause-some_resume g c =
    rw (c.refused-then-is_err-2.ensures.settings, c.refused-then-is_err-2.ensures.nothing, c.refused-then-is_err-2.ensures.status) (λ is. no_memory_some_resume c.in-Ok.parsed.settings _ _ _ c.enter-2.ensures.list)

pub returns-clause-complete_made : goal.returns-clause-complete_made
returns-clause-complete_made g c makes stays taken =
    ends_well _ _ _ (c.omega_with.ensures.made (ap (λ (settings : Settings). makes_tables settings.command) c.in-Ok.ensures.settings ∙ makes))
    stays c.omega_with.ensures.write_fault

pub returns-clause-to_end : goal.returns-clause-to_end
returns-clause-to_end g c bytes told done =
    rw c.omega_with.ensures.settings (c.omega_with.ensures.to_end bytes (λ table. c.enter.ensures.rests table ∙ told table) done)

pub returns-clause-some_run : goal.returns-clause-some_run
returns-clause-some_run g c = rw c.omega_with.ensures.settings c.omega_with.ensures.some_run

pub returns-clause-some_free_run : goal.returns-clause-some_free_run
returns-clause-some_free_run g c = rw c.omega_with.ensures.settings c.omega_with.ensures.some_free_run

pub returns-then-is_err-clause-some_run : goal.returns-then-is_err-clause-some_run
returns-then-is_err-clause-some_run g c = rw (c.refused-then-is_err.ensures.settings, c.refused-then-is_err.ensures.nothing, c.refused-then-is_err.ensures.status) (λ waits other. no_memory_run c.in-Ok.parsed.settings _ _ refl)

pub returns-then-is_err-2-clause-some_run : goal.returns-then-is_err-2-clause-some_run
returns-then-is_err-2-clause-some_run g c = rw (c.refused-then-is_err-2.ensures.settings, c.refused-then-is_err-2.ensures.nothing, c.refused-then-is_err-2.ensures.status) (λ waits other. no_memory_run c.in-Ok.parsed.settings _ _ refl)

pub returns-then-is_err-clause-some_free_run : goal.returns-then-is_err-clause-some_free_run
returns-then-is_err-clause-some_free_run g c = rw (c.refused-then-is_err.ensures.settings, c.refused-then-is_err.ensures.nothing, c.refused-then-is_err.ensures.status) (λ free. no_memory_free_run c.in-Ok.parsed.settings _ _ refl)

pub returns-then-is_err-2-clause-some_free_run : goal.returns-then-is_err-2-clause-some_free_run
returns-then-is_err-2-clause-some_free_run g c = rw (c.refused-then-is_err-2.ensures.settings, c.refused-then-is_err-2.ensures.nothing, c.refused-then-is_err-2.ensures.status) (λ free. no_memory_free_run c.in-Ok.parsed.settings _ _ refl)

pub returns-then-is_err-clause-audit : goal.returns-then-is_err-clause-audit
returns-then-is_err-clause-audit g c = rw (c.refused-then-is_err.ensures.settings, c.refused-then-is_err.ensures.nothing, c.refused-then-is_err.ensures.status) (λ audits. no_memory_audit c.in-Ok.parsed.settings.format _ _)

pub returns-then-is_err-2-clause-audit : goal.returns-then-is_err-2-clause-audit
returns-then-is_err-2-clause-audit g c = rw (c.refused-then-is_err-2.ensures.settings, c.refused-then-is_err-2.ensures.nothing, c.refused-then-is_err-2.ensures.status) (λ audits. no_memory_audit c.in-Ok.parsed.settings.format _ _)

pub returns-clause-complete_audit : goal.returns-clause-complete_audit
returns-clause-complete_audit g c audits keeps keeper sink taken =
    let is = ap (λ (settings : Settings). settings.command) c.in-Ok.ensures.settings ∙ audits in
    let audit = c.omega_with.ensures.audit is in
    audit_completes c.audited_lines_are_not_refused.ensures c.in-Ok.parsed.settings.format _ c.omega_with.result.history c.omega_with.result.status _ _ _ _ _ _
    audit (subst KeepsAudited (sym c.enter-2.ensures.list) keeps) keeper sink
    (λ fault. subst (λ (count : ℕ). RoseOfKeeper count (g.P.Keeper.faults c.omega_with.new.keeper)) c.enter-2.ensures.count (c.omega_with.ensures.keep_fault fault))
    c.omega_with.ensures.write_fault

pub returns-clause-no_further : goal.returns-clause-no_further
returns-clause-no_further g c =
    entered_no_further _ _ _ _ _ _ c.enter.ensures.rests c.enter.ensures.counts c.omega_with.result.status c.omega_with.ensures.no_further

pub returns-in-Err-clause-untouched : goal.returns-in-Err-clause-untouched
returns-in-Err-clause-untouched g c none = untouched _ _ _
