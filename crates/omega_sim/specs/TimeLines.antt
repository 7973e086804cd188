-- The lines of a report that say how long schedulers decided and how long jobs waited.
use Rattle.std.specs.Prelude.{ℕ, List, [], ◌∷◌, codes, length, map}
use Rattle.std.specs.List.{flat_map, range_with_len}
use Rattle.omega_model.specs.Feed.{rounds}
use Rattle.omega_model.specs.Policy.{schedulers}
use Rattle.omega_model.specs.Report.{Line, Name, Number}
use Rattle.omega_model.specs.ReportForms.{text_of}
use Rattle.omega_model.specs.declared.entries.Entry.{Entry}
use Rattle.omega_model.specs.declared.rows.TraceTables.{TraceTables}
use Rattle.omega_model.specs.declared.settings.Settings.{Settings}
use Rattle.omega_laws.specs.TimeReport.{busy, committed_jobs, span, wait}
use Rattle.omega_laws.specs.VirtualTime.{Timed}
use Rattle.omega_sim.specs.declared.totals.TimeTotals.{TimeTotals}

-- the line of how long a scheduler decided, and how long the whole run took
abbrev pub busy_line : ℕ → ℕ → ℕ → Line
busy_line scheduler decided whole = Name (codes "busy") ∷ Number scheduler ∷ Number decided ∷ Number whole ∷ []

-- the line of how many jobs of a scheduler have a commit, and how long these waited
abbrev pub wait_line : ℕ → ℕ → ℕ → Line
wait_line scheduler jobs waited = Name (codes "wait") ∷ Number scheduler ∷ Number jobs ∷ Number waited ∷ []

-- both lines of a scheduler
abbrev pub lines_of_one : Settings → TraceTables → List Entry → List Timed → ℕ → List Line
lines_of_one settings trace history times scheduler =
    busy_line scheduler (busy scheduler times) (span (rounds trace settings.window) times)
    ∷ wait_line scheduler (length (committed_jobs scheduler history times)) (wait trace history times scheduler) ∷ []

-- those of each scheduler, from 0
abbrev pub lines_of_time : Settings → TraceTables → List Entry → List Timed → List Line
lines_of_time settings trace history times =
    flat_map (lines_of_one settings trace history times) (range_with_len 0 (schedulers settings))

-- what the times of a scheduler's commits add up to
abbrev pub totals_of_one : Settings → TraceTables → List Entry → List Timed → ℕ → TimeTotals
totals_of_one settings trace history times scheduler = record {
  scheduler = scheduler;
  busy = busy scheduler times;
  span = span (rounds trace settings.window) times;
  jobs = length (committed_jobs scheduler history times);
  wait = wait trace history times scheduler;
}

-- those of each scheduler, from 0
abbrev pub totals_of : Settings → TraceTables → List Entry → List Timed → List TimeTotals
totals_of settings trace history times =
    map (totals_of_one settings trace history times) (range_with_len 0 (schedulers settings))

-- both lines of a scheduler, by what its times add up to
abbrev pub lines_by : TimeTotals → List Line
lines_by totals =
    busy_line totals.scheduler totals.busy totals.span
    ∷ wait_line totals.scheduler totals.jobs totals.wait ∷ []

-- as text
abbrev pub text_of_totals : TimeTotals → List ℕ
text_of_totals totals = text_of (lines_by totals)

-- those of each of these schedulers
abbrev pub lines_of_totals : List TimeTotals → List Line
lines_of_totals totals = flat_map lines_by totals
