-- What is written of a run.
use Rattle.std.proofs.Common.{List, ℕ, Option}
use Rattle.omega_model.specs.declared.entries.Entry.{Entry}
use Rattle.omega_model.specs.declared.results.Status.{Status}
use Rattle.omega_model.specs.declared.results.Status.TheVariants.{Done, Usage, ReadFault, TooLong, BadRow, TooMany, BadKept, KeepFault, WriteFault, NoMemory}
use Rattle.omega_model.specs.declared.rows.TraceTables.{TraceTables}
use Rattle.omega_model.specs.declared.settings.Settings.{Settings}
use Rattle.omega_top.specs.Answers.{IfReported, IsWritten, Writes}
use Rattle.omega_top.specs.Reports.{IsReport}

-- what holds, holds of a run that reached its report
pub if_reported : (Fact : Type 0) (status : Status) → Fact → IfReported Fact status
if_reported Fact Done fact = fact
if_reported Fact WriteFault fact = fact
if_reported Fact NoMemory fact = tt
if_reported Fact Usage fact = tt
if_reported Fact (ReadFault table) fact = tt
if_reported Fact (TooLong table) fact = tt
if_reported Fact (BadRow table row column cause) fact = tt
if_reported Fact (TooMany kind number) fact = tt
if_reported Fact (BadKept number) fact = tt
if_reported Fact KeepFault fact = tt

-- a report that is written
pub written_if : (settings : Settings) (trace : TraceTables) (history : List Entry) (status : Status) (before now : Option (List ℕ)) (report : List ℕ)
    → IsReport settings trace history report → Writes report before now status → IsWritten settings trace history status before now
written_if settings trace history status before now report said writes = record {
  report = report;
  is_report = if_reported (IsReport settings trace history report) status said;
  written = writes;
}
