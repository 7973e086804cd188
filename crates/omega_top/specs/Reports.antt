-- The report of a run: of a simulated one with how long its schedulers decided and its jobs waited, and with each of these
-- times, if they are asked for.
use Rattle.std.specs.Prelude.{◌≡◌, ◌≤◌, ℕ, Bool, true, false, List, [], ◌++◌, All, Option, Some, None, ⊤}
use Rattle.omega_laws.specs.VirtualTime.{Timed}
use Rattle.omega_model.specs.Feed.{rounds}
use Rattle.omega_model.specs.Fields.{most_activities}
use Rattle.omega_model.specs.Limits.{IsWithinLimits}
use Rattle.omega_model.specs.Report.{Line}
use Rattle.omega_model.specs.ReportForms.{printed_report}
use Rattle.omega_model.specs.ReportLines.{lines_where}
use Rattle.omega_model.specs.declared.entries.Entry.{Entry}
use Rattle.omega_model.specs.declared.rows.Round.{Round}
use Rattle.omega_model.specs.declared.rows.TraceTables.{TraceTables}
use Rattle.omega_model.specs.declared.settings.Command.{Command}
use Rattle.omega_model.specs.declared.settings.Command.TheVariants.{Audit, Generate, Replay, Resume, Run, Simulate}
use Rattle.omega_model.specs.declared.settings.Settings.{Settings}
use Rattle.omega_report.specs.JsonOfText.{in_wide_format}
use Rattle.omega_sim.specs.TimeDetails.{detail_lines, first_commits_of, lines_of_details}
use Rattle.omega_sim.specs.TimeLines.{lines_of_time, totals_of}
use Rattle.omega_top.specs.Clocks.{IsTimedRun, wanted_at_end}
use Rattle.omega_top.specs.declared.told.Details.{Details}
use Rattle.omega_top.specs.declared.told.ToldTimes.{ToldTimes}

-- the lines of each commit and of each job's first one, if they are asked for
abbrev pub details_if : Bool → TraceTables → List Entry → List Timed → List Line
details_if true trace history times = lines_of_details trace history times
details_if false trace history times = []

-- the lines of the report of a simulated history whose commits have these times
abbrev pub simulated_lines : Settings → TraceTables → List Entry → List Timed → List Line
simulated_lines settings trace history times =
    lines_where settings trace (wanted_at_end settings trace history) history
    ++ lines_of_time settings trace history times ++ details_if settings.times trace history times

-- these bytes are the report of a simulated history: its commits have the times in it that they have by the clock of the
-- settings
pub record IsSimulatedReport (settings : Settings) (trace : TraceTables) (history : List Entry) (report : List ℕ) : Type 0 where
  pub times : List Timed
  pub timed : IsTimedRun settings trace history times
  pub bytes : report ≡ in_wide_format settings.format (simulated_lines settings trace history times)

-- these rounds are those of a trace that was read, which keeps its limits
pub record AreReadRounds (settings : Settings) (trace : TraceTables) (some : List Round) : Type 0 where
  pub within : IsWithinLimits trace
  pub few : All (λ row. row.activities ≤ most_activities) trace.activities
  pub rounds : some ≡ rounds trace settings.window

-- these are the times of the commits of a run of a command: only a simulated one has them
abbrev pub AreTimesBy : Command → Settings → TraceTables → List Entry → Option (List Timed) → Type 0
AreTimesBy Simulate settings trace history (Some times) = IsTimedRun settings trace history times
AreTimesBy Simulate settings trace history None = ⊥
AreTimesBy Replay settings trace history times = times ≡ None
AreTimesBy Run settings trace history times = times ≡ None
AreTimesBy Generate settings trace history times = times ≡ None
AreTimesBy Resume settings trace history times = times ≡ None
AreTimesBy Audit settings trace history times = times ≡ None

-- these are the rounds, the history and the times of a run of some trace that was read, by the clock of the settings
pub record IsOfSomeTrace (settings : Settings) (some : List Round) (history : List Entry) (times : List Timed) : Type 0 where
  pub trace : TraceTables
  pub rounds : AreReadRounds settings trace some
  pub timed : IsTimedRun settings trace history times

-- if a run has times, these are the rounds, the history and the times of a run of some trace that was read
abbrev pub IsOfSomeTraceBy : Settings → List Round → List Entry → Option (List Timed) → Type 0
IsOfSomeTraceBy settings some history None = ⊤
IsOfSomeTraceBy settings some history (Some times) = IsOfSomeTrace settings some history times

-- what is told of each commit and of each job's first one, if that is asked for
abbrev pub told_if : Bool → TraceTables → List Entry → List Timed → Option Details
told_if true trace history times = Some (record { times = times; firsts = first_commits_of trace history times })
told_if false trace history times = None

-- the lines of what is told of each commit and of each job's first one
abbrev pub lines_of_told : Option Details → List Line
lines_of_told (Some details) = detail_lines details.times details.firsts
lines_of_told None = []

-- this is what a report tells of the times of a simulated history: what they add up to, and each of them, if the settings
-- ask for that
pub record IsTold (settings : Settings) (trace : TraceTables) (history : List Entry) (told : ToldTimes) : Type 0 where
  pub times : List Timed
  pub timed : IsTimedRun settings trace history times
  pub totals : told.totals ≡ totals_of settings trace history times
  pub details : told.details ≡ told_if settings.times trace history times

-- this is what the report of a command tells of the times of a history: only a simulated one has them
abbrev pub IsToldBy : Command → Settings → TraceTables → List Entry → Option ToldTimes → Type 0
IsToldBy Simulate settings trace history (Some told) = IsTold settings trace history told
IsToldBy Simulate settings trace history None = ⊥
IsToldBy Replay settings trace history told = told ≡ None
IsToldBy Run settings trace history told = told ≡ None
IsToldBy Generate settings trace history told = told ≡ None
IsToldBy Resume settings trace history told = told ≡ None
IsToldBy Audit settings trace history told = told ≡ None

-- these bytes are the report of a history, as a command prints it
abbrev pub ReportedBy : Command → Settings → TraceTables → List Entry → List ℕ → Type 0
ReportedBy Simulate settings trace history report = IsSimulatedReport settings trace history report
ReportedBy Replay settings trace history report = report ≡ printed_report settings trace history
ReportedBy Run settings trace history report = report ≡ printed_report settings trace history
ReportedBy Generate settings trace history report = report ≡ printed_report settings trace history
ReportedBy Resume settings trace history report = report ≡ printed_report settings trace history
ReportedBy Audit settings trace history report = report ≡ printed_report settings trace history

-- these bytes are the report of a history, as the command of the settings prints it
abbrev pub IsReport : Settings → TraceTables → List Entry → List ℕ → Type 0
IsReport settings = ReportedBy settings.command settings
