-- Rounds add to the history before them.
use Rattle.std.proofs.Common.{◌≡◌, List, [], ◌∷◌, ◌++◌, length, drop, sym, ap, ◌∙◌, append_assoc}
use Rattle.std.specs.List.{fold}
use Rattle.std.proofs.lemmas.List.{append-nil, take-append-drop}
use Rattle.omega_model.specs.Lawful.{Applied, RoundOf, RoundSoFar, Rounds, opened, with_row}
use Rattle.omega_model.specs.State.{state}
use Rattle.omega_model.specs.RowEntries.{row_entries}
use Rattle.omega_model.specs.Wanted.{wanted}
use Rattle.omega_model.specs.declared.entries.Entry.{Entry}
use Rattle.omega_model.specs.declared.entries.Entry.TheVariants.{Round as RoundEntry}
use Rattle.omega_model.specs.declared.rows.Row.{Row}
use Rattle.omega_model.specs.declared.rows.Round.{Round}
use Rattle.omega_model.specs.declared.rows.TraceTables.{TraceTables}
use Rattle.omega_model.specs.declared.settings.Settings.{Settings}

rows_add : (trace : TraceTables) (rows : List Row) (applied : Applied) → (later : List Entry) × ((fold (with_row trace) applied rows).history ≡ applied.history ++ later)
rows_add trace [] applied = ([], sym (append-nil applied.history))
rows_add trace (row ∷ rows) applied =
    let added : List Entry = row_entries trace.disks (state applied.history) (wanted (applied.rows ++ row ∷ [])) row in
    let rest = rows_add trace rows (with_row trace applied row) in
    (added ++ rest.0, rest.1 ∙ append_assoc applied.history added rest.0)

-- a round that is under way is its rows and what comes after them
pub round_from : (settings : Settings) (trace : TraceTables) (rows : List Row) (start : List Entry) (round : Round) (history : List Entry)
    → RoundSoFar settings trace rows start round history
    → history ≡ (opened trace rows start round).history ++ drop (length (opened trace rows start round).history) history
round_from settings trace rows start round history so_far =
    let base : List Entry = (opened trace rows start round).history in
    sym (take-append-drop (length base) history) ∙ ap (λ (front : List Entry). front ++ drop (length base) history) so_far.begins

-- a round is what was before it, its entry, and what comes after that
pub round_begins : (settings : Settings) (trace : TraceTables) (rows : List Row) (start : List Entry) (round : Round) (history : List Entry)
    → RoundOf settings trace rows start round history → (later : List Entry) × (history ≡ start ++ RoundEntry round.number ∷ later)
round_begins settings trace rows start round history whole =
    let base : List Entry = (opened trace rows start round).history in
    let added = rows_add trace round.rows (record { rows = rows; history = start ++ RoundEntry round.number ∷ [] }) in (
      added.0 ++ drop (length base) history,
      round_from settings trace rows start round history whole.begun
          ∙ ap (λ (front : List Entry). front ++ drop (length base) history)
          (added.1 ∙ append_assoc start (RoundEntry round.number ∷ []) added.0)
          ∙ append_assoc start (RoundEntry round.number ∷ added.0) (drop (length base) history),
    )

-- rounds add to the history before them
pub rounds_add : (settings : Settings) (trace : TraceTables) (rows : List Row) (start : List Entry) (some : List Round) (history : List Entry)
    → Rounds settings trace rows start some history → (later : List Entry) × (history ≡ start ++ later)
rounds_add settings trace rows start [] history whole = ([], whole ∙ sym (append-nil start))
rounds_add settings trace rows start (round ∷ some) history whole =
    let first = round_begins settings trace rows start round whole.0 whole.1.0 in
    let added : List Entry = RoundEntry round.number ∷ first.0 in
    let rest = rounds_add settings trace (rows ++ round.rows) whole.0 some history whole.1.1 in
    (added ++ rest.0, rest.1 ∙ ap (λ (front : List Entry). front ++ rest.0) first.1 ∙ append_assoc start added rest.0)
