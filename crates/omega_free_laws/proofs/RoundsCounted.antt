-- A run by the free clock begins as many rounds as the trace has.
use Rattle.std.proofs.Common.{◌≡◌, ℕ, suc, ◌+◌, false, cond, List, [], ◌∷◌, ◌++◌, length, refl, sym, ap, subst, ◌∙◌, inl, inr, arith, add-zero, append-nil, append_assoc}
use Rattle.std.specs.Prelude.{All, count_by}
use Rattle.std.specs.List.{fold}
use Rattle.std.proofs.lemmas.List.Elements.{All-head, All-tail}
use Rattle.std.proofs.lemmas.List.Sums.{sum_by-append}
use Rattle.omega_laws.proofs.RowEntries.{IsOfRow, are_of_row}
use Rattle.omega_model.specs.Feed.{rounds}
use Rattle.omega_model.specs.Lawful.{Applied, begins_round, with_row}
use Rattle.omega_model.specs.RowEntries.{row_entries}
use Rattle.omega_model.specs.State.{state}
use Rattle.omega_model.specs.Wanted.{wanted}
use Rattle.omega_model.specs.declared.entries.Entry.{Entry}
use Rattle.omega_model.specs.declared.entries.Entry.TheVariants.{Round as RoundEntry, MachineAdd, MachineUpdate, MachineRemove, AttrSet, AttrDelete, End, Commit}
use Rattle.omega_model.specs.declared.rows.Round.{Round}
use Rattle.omega_model.specs.declared.rows.Row.{Row}
use Rattle.omega_free_laws.specs.Readings.{Reading}
use Rattle.omega_model.specs.declared.settings.Settings.{Settings}
use Rattle.omega_free_laws.specs.Free.{FreeRun, after}
use Rattle.omega_free_laws.specs.FreeSteps.{Moment, due_entry}
use Rattle.omega_free_laws.specs.NextStep.{Happens}
use Rattle.omega_free_laws.proofs.OneStep.{holds_after}
use Rattle.omega_free_laws.proofs.Stretches.{over_is}
use Rattle.omega_free_laws.proofs.Seen.{stays_ended}
use Rattle.omega_model.specs.declared.rows.TraceTables.{TraceTables}

-- how many rounds some entries begin
abbrev begun : List Entry → ℕ
begun entries = count_by begins_round entries

more_begun : (first : List Entry) (entry : Entry) → begun (first ++ entry ∷ []) ≡ begun first + cond (begins_round entry) 1 0
more_begun first entry =
    let both = sum_by-append (λ (e : Entry). cond (begins_round e) 1 0) first (entry ∷ []) in
    let one : begun (entry ∷ []) ≡ 0 + cond (begins_round entry) 1 0 = refl in
    omega (arith, both, one)

of_row_none : (entry : Entry) → IsOfRow entry → begins_round entry ≡ false
of_row_none (RoundEntry number) is = absurd is
of_row_none (MachineAdd machine cap) is = refl
of_row_none (MachineUpdate machine cap) is = refl
of_row_none (MachineRemove machine) is = refl
of_row_none (AttrSet machine name value) is = refl
of_row_none (AttrDelete machine name) is = refl
of_row_none (End key machine) is = refl
of_row_none (Commit scheduler seen txn reply) is = absurd is

none_more : (first : List Entry) (entry : Entry) → begins_round entry ≡ false → begun (first ++ entry ∷ []) ≡ begun first
none_more first entry none = more_begun first entry ∙ ap (λ b. begun first + cond b 1 0) none ∙ add-zero (begun first)

entries_none : (first entries : List Entry) → All IsOfRow entries → begun (first ++ entries) ≡ begun first
entries_none first [] are = ap begun (append-nil first)
entries_none first (entry ∷ entries) are =
    ap begun (sym (append_assoc first (entry ∷ []) entries))
    ∙ entries_none (first ++ entry ∷ []) entries (All-tail IsOfRow entry entries are)
    ∙ none_more first entry (of_row_none entry (All-head IsOfRow entry entries are))

rows_none : (trace : TraceTables) (rows : List Row) (applied : Applied) → begun (fold (with_row trace) applied rows).history ≡ begun applied.history
rows_none trace [] applied = refl
rows_none trace (row ∷ rows) applied =
    let left = wanted (applied.rows ++ row ∷ []) in
    rows_none trace rows (with_row trace applied row)
    ∙ entries_none applied.history (row_entries trace.disks (state applied.history) left row) (are_of_row trace.disks (state applied.history) left row)

module _ (settings : Settings) (reading : Reading) where
  -- as many rounds have begun as there are, but for those that are to come
  abbrev IsCounted : Moment → Type 0
  IsCounted moment = begun moment.past.history + length moment.coming ≡ length (rounds reading.trace settings.window)

  counted_next : (old new : Moment) → IsCounted old → Happens settings reading old new → IsCounted new
  counted_next old new so_far (inl opens) =
      let round : Round = reading.heeded opens.round in
      let rows = rows_none reading.trace round.rows (record { rows = old.past.rows; history = old.past.history ++ RoundEntry round.number ∷ [] }) in
      let more : begun (old.past.history ++ RoundEntry round.number ∷ []) ≡ begun old.past.history + 1 = more_begun old.past.history (RoundEntry round.number) in
      let count : length old.coming ≡ suc (length opens.rest) = ap length opens.first in
      subst IsCounted (sym opens.happens) (omega (arith, rows, more, count, so_far))
  counted_next old new so_far (inr (inl ends)) =
      subst IsCounted (sym ends.happens)
      (stays_ended (λ (before : List Entry). begun before + length old.coming ≡ length (rounds reading.trace settings.window))
      (λ before key machine same. ap (λ (n : ℕ). n + length old.coming) (none_more before (End key machine) refl) ∙ same)
      reading old.past.rows old.past.history ends.end so_far)
  counted_next old new so_far (inr (inr commits)) =
      subst IsCounted (sym commits.happens)
      (ap (λ (n : ℕ). n + length old.coming) (none_more old.past.history (due_entry settings reading old.past commits.due.by commits.due.attempt) refl) ∙ so_far)

  counted_so_far : (steps : ℕ) → IsCounted (after settings reading steps)
  counted_so_far = holds_after settings reading IsCounted (omega arith) counted_next

  pub free_rounds_counted : (history : List Entry) (times : List _) → FreeRun settings reading history times
      → count_by begins_round history ≡ length (rounds reading.trace settings.window)
  free_rounds_counted history times free =
      let none : length (after settings reading free.steps).coming ≡ 0 = ap length (over_is settings reading (after settings reading free.steps) free.over).0 in
      let here = counted_so_far free.steps in
      let same : begun history ≡ begun (after settings reading free.steps).past.history = ap begun free.is_history in
      omega (arith, same, here, none)
