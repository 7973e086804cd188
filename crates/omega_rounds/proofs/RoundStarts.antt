-- Where rounds begin in a history.
use Rattle.std.proofs.Common.{◌≡◌, ◌≤◌, ◌<◌, ◌+◌, ℕ, true, false, List, [], ◌∷◌, ◌++◌, length, take, drop, Some, refl, sym, ap, subst, arith, ◌∙◌, append_assoc, length-append}
use Rattle.std.specs.Prelude.{All, slice_get}
use Rattle.std.specs.List.{fold}
use Rattle.std.proofs.lemmas.List.{append-nil, length-take-le}
use Rattle.std.proofs.lemmas.List.Elements.{All-head, All-tail}
use Rattle.std.proofs.lemmas.Option.{slice_get_within}
use Rattle.omega_model.proofs.Growing.{by_place_push}
use Rattle.omega_model.proofs.RoundsInOrder.{commit_begins_none}
use Rattle.omega_model.specs.Lawful.{Applied, RoundSoFar, Rounds, begins_round, opened, with_row}
use Rattle.omega_model.specs.State.{state}
use Rattle.omega_model.specs.RowEntries.{row_entries}
use Rattle.omega_model.specs.Wanted.{wanted}
use Rattle.omega_model.specs.declared.entries.Entry.{Entry}
use Rattle.omega_model.specs.declared.entries.Entry.TheVariants.{Round as RoundEntry, MachineAdd, MachineUpdate, MachineRemove, AttrSet, AttrDelete, End, Commit}
use Rattle.omega_model.specs.declared.rows.Row.{Row}
use Rattle.omega_model.specs.declared.rows.Round.{Round}
use Rattle.omega_model.specs.declared.rows.TraceTables.{TraceTables}
use Rattle.omega_model.specs.declared.settings.Settings.{Settings}
use Rattle.omega_keep.specs.Resumed.{ends_round}
use Rattle.omega_laws.proofs.Places.{at_joined, get_seam}
use Rattle.omega_laws.proofs.RoundsAdd.{round_begins, round_from, rounds_add}
use Rattle.omega_laws.proofs.RowEntries.{IsOfRow, are_of_row}
use Rattle.omega_rounds.proofs.KeptRounds.{ends_all, ends_before}

-- an entry behind more than so many begins no round
abbrev BeginsNone : ℕ → List Entry → Entry → Type 0
BeginsNone from before entry = from < length before → begins_round entry ≡ false

-- so it is of each entry of a history
abbrev pub NoneBegins : ℕ → List Entry → Type 0
NoneBegins from history = (place : ℕ) (entry : Entry) → slice_get history place ≡ Some entry → BeginsNone from (take place history) entry

of_row_begins_none : (entry : Entry) → IsOfRow entry → begins_round entry ≡ false
of_row_begins_none (RoundEntry number) is = absurd is
of_row_begins_none (MachineAdd machine cap) is = refl
of_row_begins_none (MachineUpdate machine cap) is = refl
of_row_begins_none (MachineRemove machine) is = refl
of_row_begins_none (AttrSet machine name value) is = refl
of_row_begins_none (AttrDelete machine name) is = refl
of_row_begins_none (End key machine) is = refl
of_row_begins_none (Commit scheduler seen txn reply) is = absurd is

none_of_row : (from : ℕ) (before entries : List Entry) → All IsOfRow entries → NoneBegins from before → NoneBegins from (before ++ entries)
none_of_row from before [] are none = subst (NoneBegins from) (sym (append-nil before)) none
none_of_row from before (entry ∷ entries) are none =
    subst (NoneBegins from) (append_assoc before (entry ∷ []) entries)
    (none_of_row from (before ++ entry ∷ []) entries (All-tail IsOfRow entry entries are)
    (by_place_push (BeginsNone from) before entry none (λ behind. of_row_begins_none entry (All-head IsOfRow entry entries are))))

none_of_rows : (from : ℕ) (trace : TraceTables) (rows : List Row) (applied : Applied) → NoneBegins from applied.history → NoneBegins from (fold (with_row trace) applied rows).history
none_of_rows from trace [] applied none = none
none_of_rows from trace (row ∷ rows) applied none =
    let left = wanted (applied.rows ++ row ∷ []) in
    none_of_rows from trace rows (with_row trace applied row)
    (none_of_row from applied.history (row_entries trace.disks (state applied.history) left row)
    (are_of_row trace.disks (state applied.history) left row) none)

-- a round begins with its entry, and none of its rows begins another
none_opened : (trace : TraceTables) (rows : List Row) (start : List Entry) (round : Round) → NoneBegins (length start) (opened trace rows start round).history
none_opened trace rows start round =
    none_of_rows (length start) trace round.rows (record { rows = rows; history = start ++ RoundEntry round.number ∷ [] })
    (λ place entry is behind.
    let within : place < length (start ++ RoundEntry round.number ∷ []) = slice_get_within (start ++ RoundEntry round.number ∷ []) place entry is in
    let count : length (start ++ RoundEntry round.number ∷ []) ≡ length start + 1 = length-append start (RoundEntry round.number ∷ []) in
    let taken : length (take place (start ++ RoundEntry round.number ∷ [])) ≡ place = length-take-le place (start ++ RoundEntry round.number ∷ []) (omega (arith, within)) in
    absurd (omega (arith, behind, within, count, taken)))

-- nor does any of its commits
pub none_in_round : (settings : Settings) (trace : TraceTables) (rows : List Row) (start : List Entry) (round : Round) (history : List Entry)
    → RoundSoFar settings trace rows start round history → NoneBegins (length start) history
none_in_round settings trace rows start round history so_far =
    let base : List Entry = (opened trace rows start round).history in
    let whole : history ≡ base ++ drop (length base) history = round_from settings trace rows start round history so_far in
    subst (NoneBegins (length start)) (sym whole)
    (at_joined (BeginsNone (length start)) base (drop (length base) history) (none_opened trace rows start round)
    (subst (λ (h : List Entry). (place : ℕ) (entry : Entry) → slice_get h place ≡ Some entry → length base ≤ place → BeginsNone (length start) (take place h) entry) whole
    (λ place entry is past behind. commit_begins_none settings (length base) (take place history) entry (so_far.commits place entry is past))))

-- behind a history that goes on by whole rounds a round ends
pub ends_between : (settings : Settings) (trace : TraceTables) (rows : List Row) (start : List Entry) (some : List Round) (history : List Entry)
    → Rounds settings trace rows start some history → ends_round history (length start) ≡ true
ends_between settings trace rows start [] history whole = ends_all history (length start) (ap (λ (h : List Entry). length h) (sym whole))
ends_between settings trace rows start (round ∷ some) history whole =
    let first = round_begins settings trace rows start round whole.0 whole.1.0 in
    let rest = rounds_add settings trace (rows ++ round.rows) whole.0 some history whole.1.1 in
    let all : history ≡ start ++ RoundEntry round.number ∷ (first.0 ++ rest.0) =
    rest.1 ∙ ap (λ (front : List Entry). front ++ rest.0) first.1 ∙ append_assoc start (RoundEntry round.number ∷ first.0) rest.0 in
    ends_before history (length start) (RoundEntry round.number)
    (ap (λ (h : List Entry). slice_get h (length start)) all ∙ get_seam start (RoundEntry round.number) (first.0 ++ rest.0)) refl
