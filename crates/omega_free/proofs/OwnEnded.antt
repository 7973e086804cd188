-- A task ends of itself: its entries are those of a row that ends it, and its extras' ends change no count.
use Rattle.std.proofs.Common.{◌≡◌, ◌<◌, ◌≤◌, ◌++◌, ◌∷◌, ℕ, Bool, true, false, List, [], Some, map, refl, sym, ap, ap₂, subst, ◌∙◌, arith, append-nil, append_assoc}
use Rattle.std.specs.Prelude.{◌==◌, ◌&&◌, if◌then◌else◌, nat_le, not, length}
use Rattle.std.specs.List.{AllByRecursion as Each}
use Rattle.std.proofs.lemmas.Bool.{and_parts, leb-true}
use Rattle.omega_model.proofs.InOrder.{key_same}
use Rattle.omega_model.proofs.Lists.{by_answer, each_map, each_passes}
use Rattle.omega_model.specs.Cell.{task_at}
use Rattle.omega_model.specs.ExtraTasks.{ends_of_extras, first_extra, is_extra_of, is_wanted, running_extras}
use Rattle.omega_model.specs.Fields.{TaskFields}
use Rattle.omega_model.specs.Keys.{same_key}
use Rattle.omega_model.specs.RowEntries.{task_entries}
use Rattle.omega_model.specs.State.{state}
use Rattle.omega_model.specs.Wanted.{WantedTask, end_of, ends, wanted}
use Rattle.omega_model.specs.declared.cells.Task.{Task}
use Rattle.omega_model.specs.declared.cells.TaskKey.{TaskKey}
use Rattle.omega_model.specs.declared.entries.Entry.{Entry}
use Rattle.omega_model.specs.declared.entries.Entry.TheVariants.{End}
use Rattle.omega_model.specs.declared.rows.Row.{Row}
use Rattle.omega_model.specs.declared.rows.Row.TheVariants.{Machine, Attr as AttrEvent, Task as TaskEvent}
use Rattle.omega_model.specs.declared.rows.TraceTables.{TraceTables}
use Rattle.omega_laws.specs.VirtualTime.{Timed}
use Rattle.omega_free_laws.specs.FreeSteps.{end_entries, ended_alone}
use Rattle.omega_free_laws.specs.Lives.{DueEnd, counting, counting_behind, counts, first_own_end, pieces_of}
use Rattle.omega_free_laws.specs.LivesLaws.{IsDueEnd}
use Rattle.omega_free_laws.specs.Readings.{by_lives}
use Rattle.omega_free_laws.proofs.DueEnds.{ended_same, own_end_is}
use Rattle.omega_free_laws.proofs.LivesSteps.{end_in_turn, ended_with, entries_of_end}
use Rattle.omega_pieces.specs.Due.{KeepsEnds}
use Rattle.omega_pieces.specs.Kept.{KeepsPieces}
use Rattle.omega_pieces.specs.declared.task_pieces.TaskPieces.{TaskPieces}
use Rattle.omega_pieces.proofs.EndsOn.{keeps_ends}
use Rattle.omega_pieces.proofs.PiecesOn.{keeps_entry}
use Rattle.omega_free.specs.KeptEnds.{IsLowRow}

-- ---- the entries of an end

ending_entries : (trace : TraceTables) (history : List Entry) (left : List WantedTask) (row : TaskFields) → row.code ≡ 4
    → task_entries (state history) left row ≡ end_of (task_at (state history).tasks row.key) ++ ends_of_extras (state history) left row.key.job
ending_entries trace history left row code = rw code refl

-- a row that ends the task gives them
pub end_of_row : (trace : TraceTables) (rows : List Row) (history : List Entry) (times : List Timed) (end : DueEnd) (row : TaskFields) (left : List WantedTask)
    → first_own_end trace history times ≡ Some end → row.key ≡ end.key → row.code ≡ 4 → left ≡ wanted (counting rows (ended_alone history end))
    → task_entries (state history) left row ≡ end_entries (by_lives trace) rows history end
end_of_row trace rows history times end row left is named code wants =
    let due : IsDueEnd trace history times end = own_end_is trace history times end is in
    let runs : task_at (state history).tasks row.key ≡ Some due.task = ap (task_at (state history).tasks) (named ∙ due.key) ∙ due.runs in
    let first : end_of (task_at (state history).tasks row.key) ≡ End end.key end.machine ∷ [] =
    ap end_of runs ∙ ap₂ (λ (key : TaskKey) (machine : ℕ). End key machine ∷ []) (sym due.key) (sym due.machine) in
    ending_entries trace history left row code
    ∙ ap₂ (λ (entries : List Entry) (key : TaskKey). entries ++ ends_of_extras (state history) left key.job) first named
    ∙ ap (λ (tasks : List WantedTask). End end.key end.machine ∷ ends_of_extras (state history) tasks end.key.job) wants

-- ---- what stays with each end of an extra

abbrev IsHigh : Task → Type 0
IsHigh task = first_extra ≤ task.key.index

module _ (P : List Entry → Type 0)
    (stays : (history : List Entry) (key : TaskKey) (machine : ℕ) → first_extra ≤ key.index → P history → P (history ++ End key machine ∷ [])) where
  high_ends : (history : List Entry) (some : List Task) → Each IsHigh some → P history → P (history ++ map (λ task. End task.key task.machine) some)
  high_ends history [] high holds = subst P (sym (append-nil history)) holds
  high_ends history (task ∷ some) high holds =
      subst P (append_assoc history (End task.key task.machine ∷ []) (map (λ (it : Task). End it.key it.machine) some))
      (high_ends (history ++ End task.key task.machine ∷ []) some high.1 (stays history task.key task.machine high.0 holds))

  stays_high : (rows : List Row) (trace : TraceTables) (history : List Entry) (end : DueEnd) → P (ended_alone history end)
      → P (history ++ end_entries (by_lives trace) rows history end)
  stays_high rows trace history end holds =
      subst P (append_assoc history (End end.key end.machine ∷ []) (ends_of_extras (state history) left end.key.job))
      (by_answer (is_wanted left end.key.job)
      (λ t. rw t (high_ends (ended_alone history end) [] tt holds))
      (λ f. rw f (high_ends (ended_alone history end) (running_extras (state history) end.key.job) high holds))) where
        left : List WantedTask
        left = wanted (counting rows (ended_alone history end))

        high : Each IsHigh (running_extras (state history) end.key.job)
        high =
            each_map (λ (task : Task). is_extra_of end.key.job task ≡ true) IsHigh
            (λ task is. leb-true first_extra task.key.index (and_parts (task.key.job == end.key.job) (nat_le first_extra task.key.index) is).1)
            (running_extras (state history) end.key.job) (each_passes (is_extra_of end.key.job) (state history).tasks)

-- ---- an extra's end changes no count

apart : (key low : TaskKey) → first_extra ≤ key.index → low.index < first_extra → same_key key low ≡ false
apart key low high less =
    by_answer (same_key key low)
    (λ t. let same = ap (λ (it : TaskKey). it.index) (key_same key low t) in absurd (omega (arith, same, high, less)))
    (λ f. f)

counts_low : (history : List Entry) (key : TaskKey) (machine : ℕ) (before : List Row) (row : Row) → first_extra ≤ key.index → IsLowRow row
    → counts (history ++ End key machine ∷ []) before row ≡ counts history before row
counts_low history key machine before (Machine row) high low = refl
counts_low history key machine before (AttrEvent row) high low = refl
counts_low history key machine before (TaskEvent row) high low =
    ap (λ (n : ℕ). not (ends row.code) && length (pieces_of row.key before).lives == n) (ended_same row.key history (End key machine) (apart key row.key high low))

behind_low : (history : List Entry) (key : TaskKey) (machine : ℕ) (before rows : List Row) → first_extra ≤ key.index → Each IsLowRow rows
    → counting_behind (history ++ End key machine ∷ []) before rows ≡ counting_behind history before rows
behind_low history key machine before [] high low = refl
behind_low history key machine before (row ∷ rows) high low =
    ap₂ (λ (counted : Bool) (rest : List Row). (if counted then row ∷ [] else []) ++ rest) (counts_low history key machine before row high low.0)
    (behind_low history key machine (before ++ row ∷ []) rows high low.1)

module _ (trace : TraceTables) (rows : List Row) (history : List Entry) (end : DueEnd) where
  pub counting_ended : Each IsLowRow rows
      → counting rows (history ++ end_entries (by_lives trace) rows history end) ≡ counting rows (ended_alone history end)
  counting_ended low =
      stays_high (λ (later : List Entry). counting rows later ≡ counting rows (ended_alone history end))
      (λ later key machine high same. behind_low later key machine [] rows high low ∙ same) rows trace history end refl

  pub pieces_ended : (pieces : TaskPieces) → KeepsPieces trace rows (ended_alone history end) pieces
      → KeepsPieces trace rows (history ++ end_entries (by_lives trace) rows history end) pieces
  pieces_ended pieces keeps =
      stays_high (λ (later : List Entry). KeepsPieces trace rows later pieces)
      (λ later key machine high kept. keeps_entry trace rows later pieces (End key machine) (λ low less. apart key low high less) kept) rows trace history end keeps

  pub ends_ended : (times : List Timed) (ends : List (TaskKey × ℕ)) → first_own_end trace history times ≡ Some end → KeepsEnds trace history times ends
      → KeepsEnds trace (history ++ end_entries (by_lives trace) rows history end) times ends
  ends_ended times ends is keeps =
      let due : IsDueEnd trace history times end = own_end_is trace history times end is in
      subst (λ (entries : List Entry). KeepsEnds trace (history ++ entries) times ends) (sym (entries_of_end trace rows history times end due))
      (keeps_ends trace ends history times (ended_with (by_lives trace) rows history end due.task) (end_in_turn trace rows history times end due) keeps)
