-- Every word of a report is a number or a plain name.
use Rattle.std.proofs.Common.{◌≡◌, ℕ, ◌+◌, Bool, true, false, List, [], ◌∷◌, ◌++◌, map, take, refl}
use Rattle.std.specs.Prelude.{slice_get, if◌then◌else◌}
use Rattle.std.proofs.lemmas.List.Folds.{list_all-append}
use Rattle.std.specs.List.{flat_map, list_all, enumerate_from, range_with_len, zip}
use Rattle.omega_model.specs.Cell.{Cell}
use Rattle.omega_model.specs.Policy.{schedulers}
use Rattle.omega_model.specs.Report.{Line, claim_lines, evict_line, place_line}
use Rattle.omega_model.specs.ReportCounts.{counts_of}
use Rattle.omega_model.specs.ReportForms.{is_plain, are_plain}
use Rattle.omega_model.specs.ReportLines.{displace_line, lines_on, use_line, is_round_end, use_lines, lines_at, counts_line, scheduler_lines, waiting_line, middle_lines, final_lines, lines_where}
use Rattle.omega_model.specs.State.{state, displaced}
use Rattle.omega_model.specs.Wanted.{WantedTask}
use Rattle.omega_model.specs.declared.cells.TaskKey.{TaskKey}
use Rattle.omega_model.specs.declared.claims.Claim.{Claim}
use Rattle.omega_model.specs.declared.claims.Verdict.{Verdict}
use Rattle.omega_model.specs.declared.claims.Verdict.TheVariants.{Placed, NoMachine, AlreadyRunning, Changed, VictimRank, SameJob, Full, Withdrawn}
use Rattle.omega_model.specs.declared.entries.Entry.{Entry}
use Rattle.omega_model.specs.declared.entries.Entry.TheVariants.{Round, MachineAdd, MachineUpdate, MachineRemove, AttrSet, AttrDelete, End, Commit}
use Rattle.omega_model.specs.declared.rows.TraceTables.{TraceTables}
use Rattle.omega_model.specs.declared.settings.Command.{Command}
use Rattle.omega_model.specs.declared.settings.Command.TheVariants.{Replay, Run, Generate, Simulate, Resume, Audit}
use Rattle.omega_model.specs.declared.settings.Settings.{Settings}

-- lines after lines
both : (xs ys : List Line) → are_plain xs ≡ true → are_plain ys ≡ true → are_plain (xs ++ ys) ≡ true
both xs ys first second = rw (list_all-append (λ line. list_all is_plain line) xs ys, first) second

-- one line for each item
each : {X : Type 0} (line : X → Line) → ((x : X) → list_all is_plain (line x) ≡ true)
    → (xs : List X) → are_plain (map line xs) ≡ true
each line plain [] = refl
each line plain (x ∷ xs) = rw (plain x) (each line plain xs)

-- lines for each item
every : {X : Type 0} (lines : X → List Line) → ((x : X) → are_plain (lines x) ≡ true)
    → (xs : List X) → are_plain (flat_map lines xs) ≡ true
every lines plain [] = refl
every lines plain (x ∷ xs) = both (lines x) (flat_map lines xs) (plain x) (every lines plain xs)

-- a claim with what was answered to it
claimed : (claim : Claim) (evicted : List TaskKey) (verdict : Verdict)
    → are_plain (claim_lines (claim, record { verdict = verdict; evicted = evicted })) ≡ true
claimed claim evicted Placed = both (map (evict_line claim) evicted) (place_line claim ∷ []) (each (evict_line claim) (λ key. refl) evicted) refl
claimed claim evicted NoMachine = refl
claimed claim evicted (AlreadyRunning machine) = refl
claimed claim evicted (Changed now copy) = refl
claimed claim evicted (VictimRank key) = refl
claimed claim evicted (SameJob key) = refl
claimed claim evicted (Full free) = refl
claimed claim evicted (Withdrawn place) = refl

-- an entry on any cell
entry_plain : (cell : Cell) (entry : Entry) → are_plain (lines_on cell entry) ≡ true
entry_plain cell (Round number) = refl
entry_plain cell (MachineAdd machine cap) = each (displace_line machine) (λ task. refl) (displaced cell.tasks (MachineAdd machine cap))
entry_plain cell (MachineUpdate machine cap) = each (displace_line machine) (λ task. refl) (displaced cell.tasks (MachineUpdate machine cap))
entry_plain cell (MachineRemove machine) = each (displace_line machine) (λ task. refl) (displaced cell.tasks (MachineRemove machine))
entry_plain cell (AttrSet machine name value) = refl
entry_plain cell (AttrDelete machine name) = refl
entry_plain cell (End key machine) = refl
entry_plain cell (Commit scheduler seen txn reply) =
    every claim_lines (λ decided. claimed decided.0 decided.1.evicted decided.1.verdict) (zip txn.claims reply)

-- what stands at a round's end
use_plain : (ends : Bool) (cell : Cell) → are_plain (if ends then use_line cell ∷ [] else []) ≡ true
use_plain true cell = refl
use_plain false cell = refl

place_plain : (history : List Entry) (numbered : ℕ × Entry) → are_plain (lines_at history numbered) ≡ true
place_plain history (place, entry) =
    both (lines_on (state (take place history)) entry) (use_lines history (place + 1))
    (entry_plain (state (take place history)) entry)
    (use_plain (is_round_end (slice_get history (place + 1))) (state (take (place + 1) history)))

middle_plain : (command : Command) (history : List Entry) → are_plain (middle_lines command history) ≡ true
middle_plain Replay history = every (lines_at history) (place_plain history) (enumerate_from 0 history)
middle_plain Run history = every (lines_at history) (place_plain history) (enumerate_from 0 history)
middle_plain Simulate history = every (lines_at history) (place_plain history) (enumerate_from 0 history)
middle_plain Resume history = every (lines_at history) (place_plain history) (enumerate_from 0 history)
middle_plain Generate history = refl
middle_plain Audit history = refl

final_plain : (settings : Settings) (trace : TraceTables) (tasks : List WantedTask) (history : List Entry)
    → are_plain (final_lines settings trace tasks history) ≡ true
final_plain settings trace tasks history =
    both (scheduler_lines settings history) (use_line (state history) ∷ waiting_line settings tasks history ∷ [])
    (each (λ scheduler. counts_line scheduler (counts_of scheduler history)) (λ scheduler. refl) (range_with_len 0 (schedulers settings)))
    refl

-- every word of a report is plain
pub report_plain : (settings : Settings) (trace : TraceTables) (tasks : List WantedTask) (history : List Entry)
    → are_plain (lines_where settings trace tasks history) ≡ true
report_plain settings trace tasks history =
    both (middle_lines settings.command history) (final_lines settings trace tasks history)
    (middle_plain settings.command history) (final_plain settings trace tasks history)
