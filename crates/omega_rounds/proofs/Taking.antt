-- A whole round in turns, from its rows to its end.
use Rattle.std.proofs.Common.{◌≤◌, ◌<◌, ◌+◌, ℕ, List, [], ◌∷◌, ◌++◌, length, sym, subst, arith, append_assoc, length-append}
use Rattle.std.specs.Prelude.{All}
use Rattle.std.specs.List.{fold}
use Rattle.std.proofs.lemmas.List.{append-nil}
use Rattle.std.proofs.lemmas.List.Elements.{All-head, All-tail}
use Rattle.omega_model.specs.Lawful.{Applied, RoundOf, opened, with_row}
use Rattle.omega_model.specs.Policy.{schedulers}
use Rattle.omega_model.specs.State.{reply_of, state}
use Rattle.omega_model.specs.Turns.{InTurns, KeepsTurns}
use Rattle.omega_model.specs.RowEntries.{row_entries}
use Rattle.omega_model.specs.Wanted.{wanted}
use Rattle.omega_model.specs.declared.entries.Entry.{Entry}
use Rattle.omega_model.specs.declared.entries.Entry.TheVariants.{Round as RoundEntry, MachineAdd, MachineUpdate, MachineRemove, AttrSet, AttrDelete, End, Commit}
use Rattle.omega_model.specs.declared.rows.Row.{Row}
use Rattle.omega_model.specs.declared.rows.Round.{Round}
use Rattle.omega_model.specs.declared.rows.TraceTables.{TraceTables}
use Rattle.omega_model.specs.declared.settings.Settings.{Settings}
use Rattle.omega_model.specs.declared.wishes.Request.{Request}
use Rattle.omega_model.proofs.Growing.{by_place_push}
use Rattle.omega_laws.specs.NextCommit.{HasNoWork, NobodyHasWork, WorksOn, attempt_txn}
use Rattle.omega_rounds.specs.Taking.{Taking}
use Rattle.omega_laws.specs.TurnOrder.{attempt_in_turn, sees_in_turn}
use Rattle.omega_laws.proofs.RoundGrows.{round_ends, round_first, round_push}
use Rattle.omega_laws.proofs.RowEntries.{IsOfRow, are_of_row}
use Rattle.omega_rounds.proofs.TurnsTaken.{turns_agrees, turns_around, turns_commit, turns_first, turns_keeps, turns_may, turns_skip}

-- an entry of a row keeps to the turns
of_row_keeps : (before : List Entry) (entry : Entry) → IsOfRow entry → KeepsTurns before entry
of_row_keeps before (RoundEntry number) is = absurd is
of_row_keeps before (MachineAdd machine cap) is = tt
of_row_keeps before (MachineUpdate machine cap) is = tt
of_row_keeps before (MachineRemove machine) is = tt
of_row_keeps before (AttrSet machine name value) is = tt
of_row_keeps before (AttrDelete machine name) is = tt
of_row_keeps before (End key machine) is = tt
of_row_keeps before (Commit scheduler seen txn reply) is = absurd is

pub turns_push : (before : List Entry) (entry : Entry) → InTurns before → KeepsTurns before entry → InTurns (before ++ entry ∷ [])
turns_push before entry turns keeps = by_place_push KeepsTurns before entry turns keeps

turns_of_row : (before entries : List Entry) → All IsOfRow entries → InTurns before → InTurns (before ++ entries)
turns_of_row before [] are turns = subst InTurns (sym (append-nil before)) turns
turns_of_row before (entry ∷ entries) are turns =
    subst InTurns (append_assoc before (entry ∷ []) entries)
    (turns_of_row (before ++ entry ∷ []) entries (All-tail IsOfRow entry entries are)
    (turns_push before entry turns (of_row_keeps before entry (All-head IsOfRow entry entries are))))

turns_of_rows : (trace : TraceTables) (rows : List Row) (applied : Applied) → InTurns applied.history → InTurns (fold (with_row trace) applied rows).history
turns_of_rows trace [] applied turns = turns
turns_of_rows trace (row ∷ rows) applied turns =
    let left = wanted (applied.rows ++ row ∷ []) in
    turns_of_rows trace rows (with_row trace applied row)
    (turns_of_row applied.history (row_entries trace.disks (state applied.history) left row)
    (are_of_row trace.disks (state applied.history) left row) turns)

-- a round's rows keep to the turns
pub turns_opened : (trace : TraceTables) (rows : List Row) (start : List Entry) (round : Round) → InTurns start → InTurns (opened trace rows start round).history
turns_opened trace rows start round turns =
    turns_of_rows trace round.rows (record { rows = rows; history = start ++ RoundEntry round.number ∷ [] })
    (turns_push start (RoundEntry round.number) turns tt)

module _ (settings : Settings) (trace : TraceTables) (rows : List Row) (start : List Entry) (round : Round) where
  -- the first turn begins
  pub taking_first : InTurns start → Taking settings trace rows start round (opened trace rows start round).history 0 0
  taking_first turns = record {
    so_far = round_first settings trace rows start round;
    within = omega arith;
    turns = turns_opened trace rows start round turns;
    at = turns_first settings trace rows start round;
  }

  -- a scheduler with work commits in its turn
  pub taking_commit : (before : List Entry) (turn next : ℕ) (request : Request)
      → Taking settings trace rows start round before turn next → next < schedulers settings
      → WorksOn settings trace (rows ++ round.rows) (length (opened trace rows start round).history) before next request
      → Taking settings trace rows start round (before ++ attempt_in_turn settings before next request ∷ []) turn (next + 1)
  taking_commit before turn next request taking known works =
      let all : List Row = rows ++ round.rows in
      let at : ℕ = length (opened trace rows start round).history in
      let seen : ℕ = sees_in_turn before next in
      let txn = attempt_txn settings before next seen request in
      record {
        so_far = round_push settings trace rows start round before next seen txn (reply_of before seen txn)
            taking.so_far taking.within (turns_may settings trace all at before turn next request taking.at known works)
            (turns_agrees settings trace all at before next request works);
        within = rw (length-append before (attempt_in_turn settings before next request ∷ [])) (let w : at ≤ length before = taking.within in omega arith);
        turns = turns_push before (attempt_in_turn settings before next request) taking.turns (turns_keeps settings trace all at before turn next request taking.at known works);
        at = turns_commit settings trace all at before turn next request taking.at known works taking.within;
      }

  -- a scheduler without work is passed over
  pub taking_skip : (before : List Entry) (turn next : ℕ)
      → Taking settings trace rows start round before turn next
      → HasNoWork settings trace (rows ++ round.rows) (length (opened trace rows start round).history) before next
      → Taking settings trace rows start round before turn (next + 1)
  taking_skip before turn next taking idle = record {
    so_far = taking.so_far;
    within = taking.within;
    turns = taking.turns;
    at = turns_skip settings trace (rows ++ round.rows) (length (opened trace rows start round).history) before turn next taking.at idle;
  }

  -- after the last scheduler the next turn begins
  pub taking_around : (before : List Entry) (turn : ℕ)
      → Taking settings trace rows start round before turn (schedulers settings)
      → Taking settings trace rows start round before (turn + 1) 0
  taking_around before turn taking = record {
    so_far = taking.so_far;
    within = taking.within;
    turns = taking.turns;
    at = turns_around settings trace (rows ++ round.rows) (length (opened trace rows start round).history) before turn taking.at;
  }

  -- where nobody has work the round is whole, and in turns
  pub taking_ends : (before : List Entry) (turn next : ℕ)
      → Taking settings trace rows start round before turn next
      → NobodyHasWork settings trace (rows ++ round.rows) (length (opened trace rows start round).history) before
      → RoundOf settings trace rows start round before × InTurns before
  taking_ends before turn next taking nobody = (round_ends settings trace rows start round before taking.so_far nobody, taking.turns)
