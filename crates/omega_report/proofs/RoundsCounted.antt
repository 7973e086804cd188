-- A lawful history begins as many rounds as the trace has.
use Rattle.std.proofs.Common.{◌≡◌, ℕ, suc, ◌+◌, ◌≤◌, true, false, cond, List, [], ◌∷◌, ◌++◌, map, drop, length, slice_get, Some, refl, sym, ap, ◌∙◌, arith, add-zero, if◌then◌else◌, ◌==◌}
use Rattle.std.specs.Prelude.{count_by}
use Rattle.std.specs.List.{fold}
use Rattle.std.proofs.lemmas.List.{take-append-drop}
use Rattle.std.proofs.lemmas.List.Sums.{sum_by-append, sum_by-cons}
use Rattle.omega_model.proofs.RowEnds.{end_task, stopped_by, stops}
use Rattle.omega_model.specs.Cell.{Cell}
use Rattle.omega_model.specs.Feed.{rounds}
use Rattle.omega_model.specs.Fields.{AttrFields, DiskFields, MachineFields}
use Rattle.omega_model.proofs.RoundsInOrder.{commit_begins_none}
use Rattle.omega_model.specs.Lawful.{Applied, Lawful, RoundSoFar, Rounds, begins_round, opened, with_row}
use Rattle.omega_model.specs.State.{state}
use Rattle.omega_model.specs.RowEntries.{row_entries}
use Rattle.omega_model.specs.Wanted.{WantedTask, attr_entry, capacity_from, machine_entry, wanted}
use Rattle.omega_model.specs.declared.cells.Task.{Task}
use Rattle.omega_model.specs.declared.entries.Entry.{Entry}
use Rattle.omega_model.specs.declared.entries.Entry.TheVariants.{Round as RoundEntry, MachineAdd, MachineUpdate, MachineRemove, AttrSet, AttrDelete}
use Rattle.omega_model.specs.declared.rows.Round.{Round}
use Rattle.omega_model.specs.declared.rows.Row.{Row}
use Rattle.omega_model.specs.declared.rows.Row.TheVariants.{Machine as MachineEvent, Attr as AttrEvent, Task as TaskEvent}
use Rattle.omega_model.specs.declared.rows.TraceTables.{TraceTables}
use Rattle.omega_model.specs.declared.settings.Settings.{Settings}
use Rattle.omega_report.specs.Begun.{BeginsRoundsOf}

-- how many rounds some entries begin
abbrev begun : List Entry → ℕ
begun entries = count_by begins_round entries

more_begun : (first later : List Entry) → begun (first ++ later) ≡ begun first + begun later
more_begun first later = sum_by-append (λ e. cond (begins_round e) 1 0) first later

-- a row begins none
machine_none : (disks : List DiskFields) (row : MachineFields) → begins_round (machine_entry disks row) ≡ false
machine_none disks row =
    elim (row.code == 0) as (λ test. begins_round (if test then MachineAdd row.machine (capacity_from disks row)
    else (if row.code == 1 then MachineRemove row.machine else MachineUpdate row.machine (capacity_from disks row))) ≡ false) [
      | true ↦ refl
      | false ↦ elim (row.code == 1) as (λ test. begins_round (if test then MachineRemove row.machine else MachineUpdate row.machine (capacity_from disks row)) ≡ false) [ true ↦ refl | false ↦ refl ]
    ]

attr_none : (row : AttrFields) → begins_round (attr_entry row) ≡ false
attr_none row =
    elim row.deleted as (λ test. begins_round (if test then AttrDelete row.machine row.name else AttrSet row.machine row.name row.value) ≡ false) [ true ↦ refl | false ↦ refl ]

one_none : (entry : Entry) → begins_round entry ≡ false → begun (entry ∷ []) ≡ 0
one_none entry none = rw none refl

ends_none : (some : List Task) → begun (map end_task some) ≡ 0
ends_none [] = refl
ends_none (task ∷ some) =
    let rest : begun (map end_task some) ≡ 0 = ends_none some in
    sum_by-cons (λ e. cond (begins_round e) 1 0) (end_task task) (map end_task some) ∙ omega (arith, rest)

row_none : (disks : List DiskFields) (cell : Cell) (left : List WantedTask) (row : Row) → begun (row_entries disks cell left row) ≡ 0
row_none disks cell left (MachineEvent row) = one_none (machine_entry disks row) (machine_none disks row)
row_none disks cell left (AttrEvent row) = one_none (attr_entry row) (attr_none row)
row_none disks cell left (TaskEvent row) =
    ap begun (stops cell left row) ∙ ends_none (stopped_by cell left row)

rows_none : (trace : TraceTables) (rows : List Row) (applied : Applied) → begun (fold (with_row trace) applied rows).history ≡ begun applied.history
rows_none trace [] applied = refl
rows_none trace (row ∷ rows) applied =
    let left : List WantedTask = wanted (applied.rows ++ row ∷ []) in
    rows_none trace rows (with_row trace applied row)
    ∙ more_begun applied.history (row_entries trace.disks (state applied.history) left row)
    ∙ ap (λ n. begun applied.history + n) (row_none trace.disks (state applied.history) left row)
    ∙ add-zero (begun applied.history)

-- the places behind some items
behind : {X : Type 0} (Q : X → Type 0) (xs ys : List X) → ((place : ℕ) (y : X) → slice_get (xs ++ ys) place ≡ Some y → length xs ≤ place → Q y)
    → (place : ℕ) (y : X) → slice_get ys place ≡ Some y → Q y
behind Q [] ys all place y is = all place y is (omega arith)
behind Q (x ∷ xs) ys all place y is = behind Q xs ys (λ at z found past. all (suc at) z found (omega (arith, past))) place y is

none_begun : (entries : List Entry) → ((place : ℕ) (entry : Entry) → slice_get entries place ≡ Some entry → begins_round entry ≡ false) → begun entries ≡ 0
none_begun [] none = refl
none_begun (entry ∷ entries) none =
    let rest : begun entries ≡ 0 = none_begun entries (λ place e is. none (suc place) e is) in
    let here : begins_round entry ≡ false = none 0 entry refl in
    sum_by-cons (λ e. cond (begins_round e) 1 0) entry entries ∙ rw here (omega (arith, rest))

-- a round begins once
round_begun : (settings : Settings) (trace : TraceTables) (rows : List Row) (start : List Entry) (round : Round) (history : List Entry)
    → RoundSoFar settings trace rows start round history → begun history ≡ begun start + 1
round_begun settings trace rows start round history so_far =
    let base : List Entry = (opened trace rows start round).history in
    let later : List Entry = drop (length base) history in
    let whole : history ≡ base ++ later = sym (take-append-drop (length base) history) ∙ ap (λ (front : List Entry). front ++ later) so_far.begins in
    let commits : begun later ≡ 0 =
    none_begun later (behind (λ (entry : Entry). begins_round entry ≡ false) base later
    (λ place entry is past. commit_begins_none settings (length base) _ entry (so_far.commits place entry (ap (λ (h : List Entry). slice_get h place) whole ∙ is) past))) in
    let based : begun base ≡ begun (start ++ RoundEntry round.number ∷ []) = rows_none trace round.rows (record { rows = rows; history = start ++ RoundEntry round.number ∷ [] }) in
    let began : begun (start ++ RoundEntry round.number ∷ []) ≡ begun start + 1 = more_begun start (RoundEntry round.number ∷ []) in
    ap begun whole ∙ more_begun base later ∙ omega (arith, commits, based, began)

rounds_begun : (settings : Settings) (trace : TraceTables) (rows : List Row) (start : List Entry) (some : List Round) (history : List Entry)
    → Rounds settings trace rows start some history → begun history ≡ begun start + length some
rounds_begun settings trace rows start [] history whole = ap begun whole ∙ sym (add-zero (begun start))
rounds_begun settings trace rows start (round ∷ some) history whole =
    let first = round_begun settings trace rows start round whole.0 whole.1.0.begun in
    let rest = rounds_begun settings trace (rows ++ round.rows) whole.0 some history whole.1.1 in
    omega (arith, first, rest)

pub rounds_counted : (settings : Settings) (trace : TraceTables) (history : List Entry) → Lawful settings trace history → BeginsRoundsOf settings trace history
rounds_counted settings trace history lawful =
    let all = rounds_begun settings trace [] [] (rounds trace settings.window) history lawful in omega (arith, all)
