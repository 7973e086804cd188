-- What an audit of kept lines answers.
use Rattle.std.specs.Prelude.{◌≡◌, ℕ, true, List, Option, Some, IfSome, ⊤}
use Rattle.omega_keep.specs.Audited.{IsAudited, IsFirstRefused}
use Rattle.omega_keep.specs.Keeping.{Enters}
use Rattle.omega_model.specs.PlainWords.{is_plain}
use Rattle.omega_model.specs.ReportForms.{in_format}
use Rattle.omega_model.specs.WordSettings.{kept_of}
use Rattle.omega_model.specs.declared.entries.Entry.{Entry}
use Rattle.omega_model.specs.declared.results.Status.{Status}
use Rattle.omega_model.specs.declared.results.Status.TheVariants.{Done, Usage, ReadFault, TooLong, BadRow, TooMany, BadKept, KeepFault, WriteFault, NoMemory}
use Rattle.omega_model.specs.declared.settings.Format.{Format}
use Rattle.omega_report.specs.AuditLines.{audit_lines}
use Rattle.omega_top.specs.Answers.{Writes}
use Rattle.omega_words.specs.Built.{built_words}
use Rattle.omega_words.specs.Taken.{kept_in}

-- what an audit of these lines may answer: that they are those of the history, each of whose entries is
-- possible, however the writing went; or the first line that is refused; or that the keeper failed, or memory
-- ran out
abbrev pub AuditAnswers : List (List ℕ) → List Entry → Status → Type 0
AuditAnswers lines history Done = IsAudited lines history
AuditAnswers lines history WriteFault = IsAudited lines history
AuditAnswers lines history (BadKept place) = IsFirstRefused lines place
AuditAnswers lines history KeepFault = ⊤
AuditAnswers lines history NoMemory = ⊤
AuditAnswers lines history Usage = ⊥
AuditAnswers lines history (ReadFault table) = ⊥
AuditAnswers lines history (TooLong table) = ⊥
AuditAnswers lines history (BadRow table row column cause) = ⊥
AuditAnswers lines history (TooMany kind number) = ⊥

-- why an audit of these lines may stop before its report: the first line that is refused, a keeper that failed,
-- or want of memory
abbrev pub AuditStops : List (List ℕ) → Status → Type 0
AuditStops lines (BadKept place) = IsFirstRefused lines place
AuditStops lines KeepFault = ⊤
AuditStops lines NoMemory = ⊤
AuditStops lines Done = ⊥
AuditStops lines WriteFault = ⊥
AuditStops lines Usage = ⊥
AuditStops lines (ReadFault table) = ⊥
AuditStops lines (TooLong table) = ⊥
AuditStops lines (BadRow table row column cause) = ⊥
AuditStops lines (TooMany kind number) = ⊥

-- an audit stops before its report for some lines, which are the keeper's list where it tells that
pub record StopsAudit (kept : Option (List (List ℕ))) (status : Status) : Type 0 where
  pub lines : List (List ℕ)
  pub told : IfSome kept (λ list. lines ≡ list)
  pub stops : AuditStops lines status

-- a history and a report are those of an audit of some lines, which are the keeper's list where it tells that
pub record IsAuditOf (format : Format) (kept : Option (List (List ℕ))) (history : List Entry) (report : List ℕ) : Type 0 where
  pub lines : List (List ℕ)
  pub told : IfSome kept (λ list. lines ≡ list)
  pub audited : IsAudited lines history
  pub bytes : report ≡ in_format format (audit_lines history)

-- an audit of some lines, which are the keeper's list where it tells that; its report is written, or a part
-- of it from the front where the sink fails, and else nothing
pub record IsAudit (format : Format) (kept : Option (List (List ℕ))) (history : List Entry) (status : Status) (before now : Option (List ℕ)) : Type 0 where
  pub lines : List (List ℕ)
  pub told : IfSome kept (λ list. lines ≡ list)
  pub answers : AuditAnswers lines history status
  pub written : Writes (in_format format (audit_lines history)) before now status

-- the list of a keeper is told, and is the lines of a history each of whose entries is possible
pub record KeepsAudited (kept : Option (List (List ℕ))) : Type 0 where
  pub lines : List (List ℕ)
  pub history : List Entry
  pub told : kept ≡ Some lines
  pub audited : IsAudited lines history

-- a status says nothing of what is kept
abbrev pub IsNotOfKept : Status → Type 0
IsNotOfKept (BadKept place) = ⊥
IsNotOfKept KeepFault = ⊥
IsNotOfKept Done = ⊤
IsNotOfKept WriteFault = ⊤
IsNotOfKept NoMemory = ⊤
IsNotOfKept Usage = ⊤
IsNotOfKept (ReadFault table) = ⊤
IsNotOfKept (TooLong table) = ⊤
IsNotOfKept (BadRow table row column cause) = ⊤
IsNotOfKept (TooMany kind number) = ⊤

-- the path of the words is the one that the keeper entered last, where it tells a path; on plain words it is
-- the one that the words write
pub record EntersKept (words : List (List ℕ)) (before now : Option (Option (List ℕ))) : Type 0 where
  pub matched : Enters (kept_in built_words words) before now
  pub plain : is_plain built_words words ≡ true → Enters (kept_of words) before now

-- of a keeper nothing was entered, and its count of faults didn't move
pub record IsUntouched (entered entered_now : Option (Option (List ℕ))) (count count_now : ℕ) : Type 0 where
  pub path : entered_now ≡ entered
  pub faults : count_now ≡ count
