-- Audits of kept lines.
use Rattle.std.proofs.Common.{◌≡◌, ◌⊎◌, ℕ, List, [], Option, Some, None, inl, inr, refl, subst}
use Rattle.std.specs.Prelude.{IfSome, unwrap_or}
use Rattle.omega_io.specs.Edge.{Rose}
use Rattle.omega_keep.specs.Audited.{IsAudited, IsFirstRefused}
use Rattle.omega_keep.specs.Keeping.{Rose as RoseOfKeeper}
use Rattle.omega_model.specs.declared.entries.Entry.{Entry}
use Rattle.omega_model.specs.declared.results.Status.{Status}
use Rattle.omega_model.specs.declared.results.Status.TheVariants.{Done, Usage, ReadFault, TooLong, BadRow, TooMany, BadKept, KeepFault, WriteFault, NoMemory}
use Rattle.omega_model.specs.declared.settings.Format.{Format}
use Rattle.omega_top.specs.Answers.{Writes}
use Rattle.omega_top.specs.Audits.{AuditAnswers, AuditStops, IsAudit, KeepsAudited, StopsAudit}

-- an audit of lines that are those of a history, each of whose entries is possible, is done or wants memory,
-- where neither the keeper nor the sink failed
pub audit_completes : ((lines : List (List ℕ)) (history : List Entry) (place : ℕ) → IsAudited lines history → IsFirstRefused lines place → ⊥)
    → (format : Format) (kept : Option (List (List ℕ))) (history : List Entry) (status : Status) (before now : Option (List ℕ))
    (keep_before keep_now sink_before sink_now : ℕ) → IsAudit format kept history status before now → KeepsAudited kept
    → ¬ RoseOfKeeper keep_before keep_now → ¬ Rose sink_before sink_now
    → (status ≡ KeepFault → RoseOfKeeper keep_before keep_now) → (status ≡ WriteFault → Rose sink_before sink_now)
    → (status ≡ Done) ⊎ (status ≡ NoMemory)
audit_completes never_refused format kept history status before now keep_before keep_now sink_before sink_now audit keeps keeper sink keep_cause sink_cause =
    go status audit.answers keep_cause sink_cause where
      lines : audit.lines ≡ keeps.lines
      lines = subst (λ (list : Option (List (List ℕ))). IfSome list (λ told. audit.lines ≡ told)) keeps.told audit.told

      go : (status : Status) → AuditAnswers audit.lines history status → (status ≡ KeepFault → RoseOfKeeper keep_before keep_now)
          → (status ≡ WriteFault → Rose sink_before sink_now) → (status ≡ Done) ⊎ (status ≡ NoMemory)
      go Done answers keep write = inl refl
      go NoMemory answers keep write = inr refl
      go WriteFault answers keep write = absurd (sink (write refl))
      go KeepFault answers keep write = absurd (keeper (keep refl))
      go (BadKept place) answers keep write =
          absurd (never_refused keeps.lines keeps.history place keeps.audited (subst (λ (some : List (List ℕ)). IsFirstRefused some place) lines answers))
      go Usage answers keep write = absurd answers
      go (ReadFault table) answers keep write = absurd answers
      go (TooLong table) answers keep write = absurd answers
      go (BadRow table row column cause) answers keep write = absurd answers
      go (TooMany kind number) answers keep write = absurd answers

-- the lines of a keeper's list, where it tells that
pub told_list : (kept : Option (List (List ℕ))) → IfSome kept (λ list. unwrap_or kept [] ≡ list)
told_list None = tt
told_list (Some list) = refl

-- an audit that stops says nothing of lines
pub stops_for_keeper : (kept : Option (List (List ℕ))) (status : Status) → AuditStops (unwrap_or kept []) status → StopsAudit kept status
stops_for_keeper kept status stops = record { lines = unwrap_or kept []; told = told_list kept; stops = stops }

module _ (format : Format) (kept : Option (List (List ℕ))) (status : Status) (stopped : StopsAudit kept status) where
  stop_answers : (status : Status) → AuditStops stopped.lines status → AuditAnswers stopped.lines [] status
  stop_answers (BadKept place) stops = stops
  stop_answers KeepFault stops = tt
  stop_answers NoMemory stops = tt
  stop_answers Done stops = absurd stops
  stop_answers WriteFault stops = absurd stops
  stop_answers Usage stops = absurd stops
  stop_answers (ReadFault table) stops = absurd stops
  stop_answers (TooLong table) stops = absurd stops
  stop_answers (BadRow table row column cause) stops = absurd stops
  stop_answers (TooMany kind number) stops = absurd stops

  stop_writes : (report : List ℕ) (written : Option (List ℕ)) (status : Status) → AuditStops stopped.lines status → Writes report written written status
  stop_writes report written (BadKept place) stops = refl
  stop_writes report written KeepFault stops = refl
  stop_writes report written NoMemory stops = refl
  stop_writes report written Done stops = absurd stops
  stop_writes report written WriteFault stops = absurd stops
  stop_writes report written Usage stops = absurd stops
  stop_writes report written (ReadFault table) stops = absurd stops
  stop_writes report written (TooLong table) stops = absurd stops
  stop_writes report written (BadRow table row column cause) stops = absurd stops
  stop_writes report written (TooMany kind number) stops = absurd stops

  -- an audit that stops before its report
  pub stopped_audit : (written : Option (List ℕ)) → IsAudit format kept [] status written written
  stopped_audit written = record {
    lines = stopped.lines;
    told = stopped.told;
    answers = stop_answers status stopped.stops;
    written = stop_writes _ written status stopped.stops;
  }

-- an audit that wants memory before its lines are loaded
pub no_memory_audit : (format : Format) (kept : Option (List (List ℕ))) (written : Option (List ℕ)) → IsAudit format kept [] NoMemory written written
no_memory_audit format kept written = stopped_audit format kept NoMemory (stops_for_keeper kept NoMemory tt) written
