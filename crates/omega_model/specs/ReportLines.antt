-- The lines of a whole report: those of each entry, the use of the cell at each round's end, and what
-- the history comes to.
use Rattle.std.specs.Prelude.{ℕ, Bool, true, false, List, [], ◌∷◌, ◌++◌, Option, Some, None, ◌+◌, length, map, take, slice_get, codes, if◌then◌else◌}
use Rattle.std.specs.List.{flat_map, enumerate_from, range_with_len}
use Rattle.omega_model.specs.Cell.{Cell}
use Rattle.omega_model.specs.ExtraTasks.{used_in, capacity_in_all}
use Rattle.omega_model.specs.Feed.{feed, rounds}
use Rattle.omega_model.specs.Policy.{schedulers}
use Rattle.omega_model.specs.Report.{Line, Name, Number, task_words, entry_lines}
use Rattle.omega_model.specs.ReportCounts.{Counts, counts_of, waiting_of, abandoned_of}
use Rattle.omega_model.specs.State.{state, displaced}
use Rattle.omega_model.specs.Wanted.{WantedTask, wanted}
use Rattle.omega_model.specs.declared.cells.Task.{Task}
use Rattle.omega_model.specs.declared.entries.Entry.{Entry}
use Rattle.omega_model.specs.declared.entries.Entry.TheVariants.{Round, MachineAdd, MachineUpdate, MachineRemove, AttrSet, AttrDelete, End, Commit}
use Rattle.omega_model.specs.declared.rows.TraceTables.{TraceTables}
use Rattle.omega_model.specs.declared.settings.Command.{Command}
use Rattle.omega_model.specs.declared.settings.Command.TheVariants.{Replay, Run, Generate, Simulate, Resume, Audit}
use Rattle.omega_model.specs.declared.settings.Settings.{Settings}

-- the first line, with the version of the format
abbrev pub first_line : Line
first_line = Name (codes "omega") ∷ Number 2 ∷ []

-- the line of a task that stops since its machine became too small for it or went
abbrev pub displace_line : ℕ → Task → Line
displace_line machine task = Name (codes "displace") ∷ task_words task.key machine

-- the lines of the tasks that an entry of this machine displaces in a cell, in the order in which they stop
abbrev pub displace_lines : Cell → ℕ → Entry → List Line
displace_lines cell machine entry = map (displace_line machine) (displaced cell.tasks entry)

-- the lines of an entry on the cell before it
abbrev pub lines_on : Cell → Entry → List Line
lines_on cell (Round number) = entry_lines (Round number)
lines_on cell (MachineAdd machine cap) = displace_lines cell machine (MachineAdd machine cap)
lines_on cell (MachineUpdate machine cap) = displace_lines cell machine (MachineUpdate machine cap)
lines_on cell (MachineRemove machine) = displace_lines cell machine (MachineRemove machine)
lines_on cell (AttrSet machine name value) = []
lines_on cell (AttrDelete machine name) = []
lines_on cell (End key machine) = (Name (codes "end") ∷ task_words key machine) ∷ []
lines_on cell (Commit scheduler seen txn reply) = entry_lines (Commit scheduler seen txn reply)

-- the line that says how much of the cell is used, and how much there is, on the machines that are up
abbrev pub use_line : Cell → Line
use_line cell =
    Name (codes "use")
    ∷ Name (codes "cpu") ∷ Number (used_in cell).cpu ∷ Number (capacity_in_all cell).cpu
    ∷ Name (codes "mem") ∷ Number (used_in cell).mem ∷ Number (capacity_in_all cell).mem
    ∷ Name (codes "disk") ∷ Number (used_in cell).disk ∷ Number (capacity_in_all cell).disk ∷ []

-- whether a round ends before this entry: it begins the next one, or there is no entry
abbrev pub is_round_end : Option Entry → Bool
is_round_end None = true
is_round_end (Some (Round number)) = true
is_round_end (Some _) = false

-- the use of the cell after so many entries of a history, where a round ends there
abbrev pub use_lines : List Entry → ℕ → List Line
use_lines history count = if is_round_end (slice_get history count) then use_line (state (take count history)) ∷ [] else []

-- the lines of the entry at a place of a history, on the state of those before it
abbrev pub lines_at : List Entry → ℕ × Entry → List Line
lines_at history (place, entry) = lines_on (state (take place history)) entry ++ use_lines history (place + 1)

-- the lines of all rounds of a history
abbrev pub round_lines : List Entry → List Line
round_lines history = flat_map (lines_at history) (enumerate_from 0 history)

-- the lengths of the history and of the list of rounds
abbrev pub lengths_line : Settings → TraceTables → List Entry → Line
lengths_line settings trace history =
    Name (codes "entries") ∷ Number (length history)
    ∷ Name (codes "rounds") ∷ Number (length (rounds trace settings.window)) ∷ []

-- the line of a scheduler with these counts
abbrev pub counts_line : ℕ → Counts → Line
counts_line scheduler counts =
    Name (codes "scheduler") ∷ Number scheduler
    ∷ Name (codes "commits") ∷ Number counts.commits
    ∷ Name (codes "empty") ∷ Number counts.empty
    ∷ Name (codes "placing") ∷ Number counts.placing
    ∷ Name (codes "conflicted") ∷ Number counts.conflicted
    ∷ Name (codes "placed") ∷ Number counts.placed
    ∷ Name (codes "refused") ∷ Number counts.refused
    ∷ Name (codes "withdrawn") ∷ Number counts.withdrawn
    ∷ Name (codes "evicted") ∷ Number counts.evicted ∷ []

-- the line of each scheduler, from 0
abbrev pub scheduler_lines : Settings → List Entry → List Line
scheduler_lines settings history =
    map (λ scheduler. counts_line scheduler (counts_of scheduler history)) (range_with_len 0 (schedulers settings))

-- how many of the wanted tasks don't run at the end, and how many of their jobs are given up
abbrev pub waiting_line : Settings → List WantedTask → List Entry → Line
waiting_line settings tasks history =
    Name (codes "waiting") ∷ Number (length (waiting_of tasks (state history)))
    ∷ Name (codes "abandoned") ∷ Number (length (abandoned_of settings tasks history)) ∷ []

-- what the history comes to, at whose end these tasks are wanted
abbrev pub final_lines : Settings → TraceTables → List WantedTask → List Entry → List Line
final_lines settings trace tasks history =
    lengths_line settings trace history
    ∷ scheduler_lines settings history
    ++ use_line (state history)
    ∷ waiting_line settings tasks history ∷ []

-- the lines between the first one and what the history comes to: the summary of `generate` has none, and
-- `audit` has another report
abbrev pub middle_lines : Command → List Entry → List Line
middle_lines Replay history = round_lines history
middle_lines Run history = round_lines history
middle_lines Simulate history = round_lines history
middle_lines Resume history = round_lines history
middle_lines Generate history = []
middle_lines Audit history = []

-- the lines of the report of a history, at whose end these tasks are wanted
abbrev pub lines_where : Settings → TraceTables → List WantedTask → List Entry → List Line
lines_where settings trace tasks history =
    first_line ∷ middle_lines settings.command history ++ final_lines settings trace tasks history

-- the lines of the report of a history, at whose end those tasks are wanted that all rows of the trace leave so
abbrev pub printed_lines : Settings → TraceTables → List Entry → List Line
printed_lines settings trace history = lines_where settings trace (wanted (feed trace)) history
