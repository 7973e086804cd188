-- What the top call answers, and why.
use Rattle.std.specs.Prelude.{◌≡◌, ℕ, List, [], Option, Some, None, take, ⊤}
use Rattle.omega_io.specs.Edge.{Appends, AppendsPart, Rose}
use Rattle.omega_model.specs.Lawful.{Lawful}
use Rattle.omega_model.specs.Legal.{Sound}
use Rattle.omega_model.specs.State.{state}
use Rattle.omega_model.specs.Refusals.{first_refusal, refusal_before}
use Rattle.omega_model.specs.declared.entries.Entry.{Entry}
use Rattle.omega_model.specs.declared.results.Status.{Status}
use Rattle.omega_model.specs.declared.results.Status.TheVariants.{Done, Usage, ReadFault, TooLong, BadRow, TooMany, BadKept, KeepFault, WriteFault, NoMemory}
use Rattle.omega_model.specs.declared.rows.Table.{Table}
use Rattle.omega_model.specs.declared.rows.TraceTables.{TraceTables}
use Rattle.omega_model.specs.declared.settings.Settings.{Settings}
use Rattle.omega_model.specs.Limits.{IsWithinLimits}
use Rattle.omega_laws.specs.WholeCommits.{CommitsAreWhole}
use Rattle.omega_top.specs.Commands.{IsOrdered}
use Rattle.omega_top.specs.Reports.{IsReport}

-- after each of its entries the state of the history is sound: no machine is used beyond its capacity,
-- no task runs twice, and each is on a machine that is up
abbrev pub NeverOvercommits : List Entry → Type 0
NeverOvercommits history = (n : ℕ) → Sound (state (take n history))

-- what may be answered of tables that tell these bytes: their first refusal; a read that fails before any of
-- them; where there is none, how the run ended, also for what is kept; and want of memory in any case
abbrev pub Answers : (Table → List ℕ) → Status → Type 0
Answers bytes Done = first_refusal bytes ≡ None
Answers bytes WriteFault = first_refusal bytes ≡ None
Answers bytes NoMemory = ⊤
Answers bytes Usage = ⊥
Answers bytes (ReadFault table) = refusal_before table bytes ≡ None
Answers bytes (TooLong table) = first_refusal bytes ≡ Some (TooLong table)
Answers bytes (BadRow table row column cause) = first_refusal bytes ≡ Some (BadRow table row column cause)
Answers bytes (TooMany kind number) = first_refusal bytes ≡ Some (TooMany kind number)
Answers bytes (BadKept number) = first_refusal bytes ≡ None
Answers bytes KeepFault = first_refusal bytes ≡ None

-- a fault of reading is answered only where the count of its table rose
abbrev pub HasReadCause : (Table → ℕ) → (Table → ℕ) → Status → Type 0
HasReadCause before now Done = ⊤
HasReadCause before now WriteFault = ⊤
HasReadCause before now NoMemory = ⊤
HasReadCause before now Usage = ⊤
HasReadCause before now (ReadFault table) = Rose (before table) (now table)
HasReadCause before now (TooLong table) = ⊤
HasReadCause before now (BadRow table row column cause) = ⊤
HasReadCause before now (TooMany kind number) = ⊤
HasReadCause before now (BadKept number) = ⊤
HasReadCause before now KeepFault = ⊤

-- of the report all is written in the end, a part of it where the sink fails, and else nothing
abbrev pub Writes : List ℕ → Option (List ℕ) → Option (List ℕ) → Status → Type 0
Writes report before now Done = Appends report before now
Writes report before now WriteFault = AppendsPart report before now
Writes report before now NoMemory = now ≡ before
Writes report before now Usage = now ≡ before
Writes report before now (ReadFault table) = now ≡ before
Writes report before now (TooLong table) = now ≡ before
Writes report before now (BadRow table row column cause) = now ≡ before
Writes report before now (TooMany kind number) = now ≡ before
Writes report before now (BadKept number) = now ≡ before
Writes report before now KeepFault = now ≡ before

-- this holds, if the run reached its report
abbrev pub IfReported : Type 0 → Status → Type 0
IfReported Fact Done = Fact
IfReported Fact WriteFault = Fact
IfReported Fact NoMemory = ⊤
IfReported Fact Usage = ⊤
IfReported Fact (ReadFault table) = ⊤
IfReported Fact (TooLong table) = ⊤
IfReported Fact (BadRow table row column cause) = ⊤
IfReported Fact (TooMany kind number) = ⊤
IfReported Fact (BadKept number) = ⊤
IfReported Fact KeepFault = ⊤

-- this holds, unless the run reached its report
abbrev pub UnlessReported : Type 0 → Status → Type 0
UnlessReported Fact Done = ⊤
UnlessReported Fact WriteFault = ⊤
UnlessReported Fact NoMemory = Fact
UnlessReported Fact Usage = Fact
UnlessReported Fact (ReadFault table) = Fact
UnlessReported Fact (TooLong table) = Fact
UnlessReported Fact (BadRow table row column cause) = Fact
UnlessReported Fact (TooMany kind number) = Fact
UnlessReported Fact (BadKept number) = Fact
UnlessReported Fact KeepFault = Fact

-- the history of a run that didn't reach its report is empty
abbrev pub HasHistory : List Entry → Status → Type 0
HasHistory history status = UnlessReported (history ≡ []) status

-- the history of a run that reached its report is the whole run of the trace under the settings
abbrev pub IsWholeRun : Settings → TraceTables → List Entry → Status → Type 0
IsWholeRun settings trace history status = IfReported (Lawful settings trace history) status

-- a history is the only one that is the whole run of the trace under the settings with its commits in the
-- order of the command
abbrev pub IsTheOnly : Settings → TraceTables → List Entry → Type 0
IsTheOnly settings trace history = (other : List Entry) → Lawful settings trace other → IsOrdered settings trace other → other ≡ history

-- the commits of a run that reached its report stand in the order of the command
abbrev pub IsOrderedRun : Settings → TraceTables → List Entry → Status → Type 0
IsOrderedRun settings trace history status = IfReported (IsOrdered settings trace history) status

-- the history of a run that reached its report is the only one
abbrev pub IsOnlyRun : Settings → TraceTables → List Entry → Status → Type 0
IsOnlyRun settings trace history status = IfReported (IsTheOnly settings trace history) status

-- in a run that reached its report each commit is the attempt on a request of the trace: each claim is on a
-- machine that meets the constraints of its wish, a gang claims all of its request or nothing, and no
-- transaction evicts a task of its own job
abbrev pub HasWholeCommits : Settings → TraceTables → List Entry → Status → Type 0
HasWholeCommits settings trace history status = IfReported (CommitsAreWhole settings trace history) status

-- the report of a run that reached it is written, or a part of it from the front where the sink fails
pub record IsWritten (settings : Settings) (trace : TraceTables) (history : List Entry) (status : Status) (before now : Option (List ℕ)) : Type 0 where
  pub report : List ℕ
  pub is_report : IfReported (IsReport settings trace history report) status
  pub written : Writes report before now status

-- whatever the tables tell, there is a trace within the limits of which the history of a run that reached
-- its report is the whole run, with its commits in the order of the command, and of which that report, or a
-- part of it from the front, is written
pub record IsSomeRun (settings : Settings) (history : List Entry) (status : Status) (before now : Option (List ℕ)) : Type 0 where
  pub trace : TraceTables
  pub within : IsWithinLimits trace
  pub whole : IsWholeRun settings trace history status
  pub ordered : IsOrderedRun settings trace history status
  pub written : IsWritten settings trace history status before now

-- nothing is written by a run that doesn't reach its report
abbrev pub WritesNothing : Option (List ℕ) → Option (List ℕ) → Status → Type 0
WritesNothing before now status = UnlessReported (now ≡ before) status

-- how a run may end that reads the tables that it makes
abbrev pub EndsRun : Status → Type 0
EndsRun Done = ⊤
EndsRun WriteFault = ⊤
EndsRun NoMemory = ⊤
EndsRun Usage = ⊥
EndsRun (ReadFault table) = ⊥
EndsRun (TooLong table) = ⊥
EndsRun (BadRow table row column cause) = ⊥
EndsRun (TooMany kind number) = ⊥
EndsRun (BadKept number) = ⊥
EndsRun KeepFault = ⊥

-- no count of faults rose
pub record NoneRose (tables_before tables_now : Table → ℕ) (sink_before sink_now : ℕ) : Type 0 where
  pub tables : (table : Table) → ¬ Rose (tables_before table) (tables_now table)
  pub sink : ¬ Rose sink_before sink_now
