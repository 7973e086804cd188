-- What one walk over a history has gathered.
use Rattle.std.specs.Prelude.{◌≡◌, ℕ, Bool, true, false, List, [], ◌∷◌, map, take, if◌then◌else◌}
use Rattle.std.specs.List.{enumerate_from, flat_map}
use Rattle.omega_model.specs.Cell.{Cell}
use Rattle.omega_model.specs.Report.{Line}
use Rattle.omega_model.specs.ReportLines.{counts_line, lines_at, use_line}
use Rattle.omega_model.specs.Requests.{failed}
use Rattle.omega_model.specs.declared.entries.Entry.{Entry}
use Rattle.omega_model.specs.declared.settings.Command.{Command}
use Rattle.omega_model.specs.declared.settings.Command.TheVariants.{Replay, Run, Generate, Simulate, Resume, Audit}
use Rattle.omega_model.specs.declared.settings.Format.{Format}
use Rattle.omega_desk.specs.Counts.{count_of}
use Rattle.omega_report.specs.Counted.{counts_in}
use Rattle.omega_report.specs.Tallies.{tallies}
use Rattle.omega_report.specs.declared.counts.Counts.{Counts as HeldCounts}
use Rattle.omega_report.specs.declared.walk.Walk.{Walk}

-- whether a command prints the lines of the rounds
abbrev pub prints_rounds : Command → Bool
prints_rounds Replay = true
prints_rounds Run = true
prints_rounds Simulate = true
prints_rounds Resume = true
prints_rounds Generate = false
prints_rounds Audit = false

-- lines, if they are printed
abbrev pub if_printed : Bool → List Line → List Line
if_printed prints lines = if prints then lines else []

-- the lines of the first so many entries of a history
abbrev pub lines_to : List Entry → ℕ → List Line
lines_to history count = flat_map (lines_at history) (take count (enumerate_from 0 history))

-- the line that says how much of a cell is used, if it is due
abbrev pub use_if : Bool → Cell → List Line
use_if due cell = if due then use_line cell ∷ [] else []

-- the line of a scheduler with its counts
abbrev pub line_of_one : ℕ × HeldCounts → Line
line_of_one (scheduler, counts) = counts_line scheduler (counts_in counts)

-- the lines of schedulers with these counts, from this one on
abbrev pub lines_from : ℕ → List HeldCounts → List Line
lines_from scheduler counts = map line_of_one (enumerate_from scheduler counts)

-- the lines of all schedulers
abbrev pub lines_of_all : List HeldCounts → List Line
lines_of_all counts = lines_from 0 counts

-- a walk after these entries, with these lines on its page: it has counted what they count for each
-- scheduler and each job
pub record IsAfter (schedulers : ℕ) (format : Format) (lines : List Line) (entries : List Entry) (walk : Walk) : Type 0 where
  pub form : walk.page.format ≡ format
  pub printed : walk.page.lines ≡ lines
  pub counted : walk.tally ≡ tallies schedulers entries
  pub failing : (job : ℕ) → count_of walk.failures job ≡ failed entries job
