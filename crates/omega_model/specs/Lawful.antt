-- Histories that are made of a trace's rounds, each with its rows and then the schedulers' attempts.
use Rattle.std.specs.Prelude.{◌≡◌, ℕ, Bool, true, false, List, [], ◌∷◌, ◌++◌, Some, ◌+◌, ◌<◌, ◌≤◌, ◌⊎◌, ◌==◌, length, take, slice_get, if◌then◌else◌}
use Rattle.std.specs.List.{fold, flat_map}
use Rattle.omega_model.specs.Feed.{rounds}
use Rattle.omega_model.specs.Policy.{schedulers}
use Rattle.omega_model.specs.RowEntries.{row_entries}
use Rattle.omega_model.specs.State.{state, reply_of}
use Rattle.omega_model.specs.Wanted.{wanted}
use Rattle.omega_model.specs.Work.{HasLeft}
use Rattle.omega_model.specs.declared.claims.Txn.{Txn}
use Rattle.omega_model.specs.declared.claims.Judgement.{Judgement}
use Rattle.omega_model.specs.declared.entries.Entry.{Entry}
use Rattle.omega_model.specs.declared.entries.Entry.TheVariants.{Round as RoundEntry, Commit}
use Rattle.omega_model.specs.declared.rows.Row.{Row}
use Rattle.omega_model.specs.declared.rows.Round.{Round}
use Rattle.omega_model.specs.declared.rows.TraceTables.{TraceTables}
use Rattle.omega_model.specs.declared.settings.Settings.{Settings}
use Rattle.omega_model.specs.declared.wishes.Request.{Request}

-- the rows that were applied, and the history that came of them
pub record Applied : Type 0 where
  pub rows : List Row
  pub history : List Entry

-- one more row: its entries on the state of the history before it
abbrev pub with_row : TraceTables → Applied → Row → Applied
with_row trace applied row = record {
  rows = applied.rows ++ row ∷ [];
  history = applied.history ++ row_entries trace.disks (state applied.history) (wanted (applied.rows ++ row ∷ [])) row;
}

-- a round's entry and those of its rows in order, after these rows and this history
abbrev pub opened : TraceTables → List Row → List Entry → Round → Applied
opened trace rows history round =
    fold (with_row trace) (record { rows = rows; history = history ++ RoundEntry round.number ∷ [] }) round.rows

-- how many entries of a history are read, and the place after the last commit of a scheduler among them, or
-- 0 where it has none
pub record LastCommit : Type 0 where
  pub place : ℕ
  pub after : ℕ

-- one more entry is read
abbrev pub note_commit : ℕ → LastCommit → Entry → LastCommit
note_commit scheduler last (Commit by seen txn reply) =
    record { place = last.place + 1; after = (if by == scheduler then last.place + 1 else last.after) }
note_commit scheduler last _ = record { place = last.place + 1; after = last.after }

-- the place after the last commit of this scheduler, or 0 where it has none
abbrev pub after_last : ℕ → List Entry → ℕ
after_last scheduler history = (fold (note_commit scheduler) (record { place = 0; after = 0 }) history).after

-- a commit may stand after these entries of a round whose rows end at place opened_at: its scheduler is
-- one of the settings', its copy had seen the round's rows and the scheduler's own last commit and no
-- entry that wasn't there, and the reply is the one that is due
pub record MayCommit (settings : Settings) (opened_at : ℕ) (before : List Entry) (scheduler seen : ℕ) (txn : Txn) (reply : List Judgement) : Type 0 where
  pub known : scheduler < schedulers settings
  pub there : seen ≤ length before
  pub rows : opened_at ≤ seen
  pub own : after_last scheduler before ≤ seen
  pub answered : reply ≡ reply_of before seen txn

-- whether an entry begins a round
abbrev pub begins_round : Entry → Bool
begins_round (RoundEntry number) = true
begins_round _ = false

-- an entry after a round's rows is a commit, and may stand there
abbrev pub IsCommitOfRound : Settings → ℕ → List Entry → Entry → Type 0
IsCommitOfRound settings opened_at before (Commit scheduler seen txn reply) = MayCommit settings opened_at before scheduler seen txn reply
IsCommitOfRound settings opened_at before _ = ⊥

-- a history goes on from the history `start`, which came of these rows: with the entries of a round's rows,
-- and then with commits alone, of which every scheduler's are attempts on its requests
pub record RoundSoFar (settings : Settings) (trace : TraceTables) (rows : List Row) (start : List Entry) (round : Round) (history : List Entry) : Type 0 where
  pub begins : take (length (opened trace rows start round).history) history ≡ (opened trace rows start round).history
  pub commits : (place : ℕ) (entry : Entry) → slice_get history place ≡ Some entry → length (opened trace rows start round).history ≤ place
      → IsCommitOfRound settings (length (opened trace rows start round).history) (take place history) entry
  pub work : (scheduler : ℕ) → scheduler < schedulers settings
      → (left : List Request) × HasLeft settings trace (rows ++ round.rows) (length (opened trace rows start round).history) scheduler history left

-- besides, the round is whole: no scheduler has anything left
pub record RoundOf (settings : Settings) (trace : TraceTables) (rows : List Row) (start : List Entry) (round : Round) (history : List Entry) : Type 0 where
  pub begun : RoundSoFar settings trace rows start round history
  pub finished : (scheduler : ℕ) → scheduler < schedulers settings
      → HasLeft settings trace (rows ++ round.rows) (length (opened trace rows start round).history) scheduler history []

-- a history is made of these rounds in order, after these rows and this history
abbrev pub Rounds : Settings → TraceTables → List Row → List Entry → List Round → List Entry → Type 0
Rounds settings trace rows start [] history = history ≡ start
Rounds settings trace rows start (round ∷ rest) history =
    (middle : List Entry) × (RoundOf settings trace rows start round middle
    × Rounds settings trace (rows ++ round.rows) middle rest history)

-- a history is the whole run of a trace: all its rounds, from nothing
abbrev pub Lawful : Settings → TraceTables → List Entry → Type 0
Lawful settings trace history = Rounds settings trace [] [] (rounds trace settings.window) history

-- the rows of some rounds
abbrev pub rows_of : List Round → List Row
rows_of some = flat_map (λ round. round.rows) some

-- some first rounds are whole and the next one has begun
pub record Underway (settings : Settings) (trace : TraceTables) (history : List Entry) : Type 0 where
  pub done : ℕ
  pub round : Round
  pub next : slice_get (rounds trace settings.window) done ≡ Some round
  pub start : List Entry
  pub whole : Rounds settings trace [] [] (take done (rounds trace settings.window)) start
  pub begun : RoundSoFar settings trace (rows_of (take done (rounds trace settings.window))) start round history

-- a history is the run of a trace up to some moment: it is empty or under way
abbrev pub LawfulSoFar : Settings → TraceTables → List Entry → Type 0
LawfulSoFar settings trace history = (history ≡ []) ⊎ Underway settings trace history
