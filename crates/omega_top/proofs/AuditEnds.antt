-- How an audit ends.
use Rattle.std.proofs.Common.{◌≡◌, ℕ, List, Option}
use Rattle.omega_model.specs.declared.entries.Entry.{Entry}
use Rattle.omega_model.specs.declared.results.Status.{Status}
use Rattle.omega_model.specs.declared.results.Status.TheVariants.{Done, Usage, ReadFault, TooLong, BadRow, TooMany, BadKept, KeepFault, WriteFault, NoMemory}
use Rattle.omega_model.specs.declared.rows.Table.{Table}
use Rattle.omega_top.specs.Answers.{HasReadCause, Writes, WritesNothing}
use Rattle.omega_top.specs.Audits.{AuditAnswers}
use Rattle.omega_top.specs.Unread.{ReadsNoFurther}

module _ (lines : List (List ℕ)) (history : List Entry) where
  -- an audit refuses no words
  pub audit_not_usage : (status : Status) → AuditAnswers lines history status → status ≡ Usage → ⊥
  audit_not_usage Usage answers is = answers
  audit_not_usage Done answers is = cc
  audit_not_usage WriteFault answers is = cc
  audit_not_usage NoMemory answers is = cc
  audit_not_usage (BadKept place) answers is = cc
  audit_not_usage KeepFault answers is = cc
  audit_not_usage (ReadFault table) answers is = answers
  audit_not_usage (TooLong table) answers is = answers
  audit_not_usage (BadRow table row column cause) answers is = answers
  audit_not_usage (TooMany kind number) answers is = answers

  -- it refuses no tables
  pub audit_no_further : (rest rest_now : Table → Option (List ℕ)) (count count_now : Table → ℕ) (status : Status)
      → AuditAnswers lines history status → ReadsNoFurther rest rest_now count count_now status
  audit_no_further rest rest_now count count_now Done answers = tt
  audit_no_further rest rest_now count count_now WriteFault answers = tt
  audit_no_further rest rest_now count count_now NoMemory answers = tt
  audit_no_further rest rest_now count count_now (BadKept place) answers = tt
  audit_no_further rest rest_now count count_now KeepFault answers = tt
  audit_no_further rest rest_now count count_now Usage answers = absurd answers
  audit_no_further rest rest_now count count_now (ReadFault table) answers = absurd answers
  audit_no_further rest rest_now count count_now (TooLong table) answers = absurd answers
  audit_no_further rest rest_now count count_now (BadRow table row column cause) answers = absurd answers
  audit_no_further rest rest_now count count_now (TooMany kind number) answers = absurd answers

  pub audit_read_cause : (before now : Table → ℕ) (status : Status) → AuditAnswers lines history status → HasReadCause before now status
  audit_read_cause before now Done answers = tt
  audit_read_cause before now WriteFault answers = tt
  audit_read_cause before now NoMemory answers = tt
  audit_read_cause before now (BadKept place) answers = tt
  audit_read_cause before now KeepFault answers = tt
  audit_read_cause before now Usage answers = absurd answers
  audit_read_cause before now (ReadFault table) answers = absurd answers
  audit_read_cause before now (TooLong table) answers = absurd answers
  audit_read_cause before now (BadRow table row column cause) answers = absurd answers
  audit_read_cause before now (TooMany kind number) answers = absurd answers

  -- it writes nothing unless it reaches its report
  pub audit_writes_nothing : (report : List ℕ) (before now : Option (List ℕ)) (status : Status)
      → AuditAnswers lines history status → Writes report before now status → WritesNothing before now status
  audit_writes_nothing report before now Done answers written = tt
  audit_writes_nothing report before now WriteFault answers written = tt
  audit_writes_nothing report before now NoMemory answers written = written
  audit_writes_nothing report before now (BadKept place) answers written = written
  audit_writes_nothing report before now KeepFault answers written = written
  audit_writes_nothing report before now Usage answers written = absurd answers
  audit_writes_nothing report before now (ReadFault table) answers written = absurd answers
  audit_writes_nothing report before now (TooLong table) answers written = absurd answers
  audit_writes_nothing report before now (BadRow table row column cause) answers written = absurd answers
  audit_writes_nothing report before now (TooMany kind number) answers written = absurd answers
