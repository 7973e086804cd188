-- The commits of the last round of a history, as one more entry is read.
use Rattle.std.proofs.Common.{◌≡◌, ◌≤◌, ◌+◌, ℕ, Bool, false, List, [], ◌∷◌, ◌++◌, length, take, drop, Some, refl, ap, arith, ◌∙◌, cond}
use Rattle.std.specs.Prelude.{slice_get, ◌==◌, All}
use Rattle.std.specs.List.{fold, count_by}
use Rattle.std.proofs.lemmas.Grind.{common_steps}
use Rattle.std.proofs.lemmas.List.{append-nil}
use Rattle.std.proofs.lemmas.List.Elements.{All-head, All-tail}
use Rattle.std.proofs.lemmas.List.Sums.{fold-append, sum_by-cons}
use Rattle.omega_model.specs.Lawful.{Applied, IsCommitOfRound, RoundSoFar, opened, with_row}
use Rattle.omega_model.specs.State.{state}
use Rattle.omega_model.specs.Turns.{Reading, next_turn, read_entry, round_commits}
use Rattle.omega_model.specs.RowEntries.{row_entries}
use Rattle.omega_model.specs.Wanted.{wanted}
use Rattle.omega_model.specs.Work.{commits_of, is_commit_of}
use Rattle.omega_model.specs.declared.claims.Judgement.{Judgement}
use Rattle.omega_model.specs.declared.claims.Txn.{Txn}
use Rattle.omega_model.specs.declared.entries.Entry.{Entry}
use Rattle.omega_model.specs.declared.entries.Entry.TheVariants.{Round as RoundEntry, MachineAdd, MachineUpdate, MachineRemove, AttrSet, AttrDelete, End, Commit}
use Rattle.omega_model.specs.declared.rows.Row.{Row}
use Rattle.omega_model.specs.declared.rows.Round.{Round}
use Rattle.omega_model.specs.declared.rows.TraceTables.{TraceTables}
use Rattle.omega_model.specs.declared.settings.Settings.{Settings}
use Rattle.omega_laws.specs.TurnOrder.{turn_of}
use Rattle.omega_laws.proofs.Places.{at_seam_from, front_push, longer}
use Rattle.omega_laws.proofs.RoundsAdd.{round_from}
use Rattle.omega_laws.proofs.RowEntries.{IsOfRow, are_of_row}

-- nothing is read yet
abbrev pub nothing_read : Reading
nothing_read = record { place = 0; commits = [] }

read_entry-place : (reading : Reading) (entry : Entry) → (read_entry reading entry).place ≡ reading.place + 1
read_entry-place reading (RoundEntry number) = refl
read_entry-place reading (MachineAdd machine cap) = refl
read_entry-place reading (MachineUpdate machine cap) = refl
read_entry-place reading (MachineRemove machine) = refl
read_entry-place reading (AttrSet machine name value) = refl
read_entry-place reading (AttrDelete machine name) = refl
read_entry-place reading (End key machine) = refl
read_entry-place reading (Commit by seen txn reply) = refl

reads_length : (reading : Reading) (entries : List Entry) → (fold read_entry reading entries).place ≡ reading.place + length entries
reads_length reading [] = omega arith
reads_length reading (entry ∷ entries) =
    let rest : (fold read_entry (read_entry reading entry) entries).place ≡ (read_entry reading entry).place + length entries =
    reads_length (read_entry reading entry) entries in
    let next : (read_entry reading entry).place ≡ reading.place + 1 = read_entry-place reading entry in
    omega arith

-- the place read is the number of entries
pub place_read : (before : List Entry) → (fold read_entry nothing_read before).place ≡ length before
place_read before =
    let read : (fold read_entry nothing_read before).place ≡ 0 + length before = reads_length nothing_read before in
    omega (arith, read)

-- one more commit is read
pub commits_push : (before : List Entry) (scheduler seen : ℕ) (txn : Txn) (reply : List Judgement)
    → round_commits (before ++ Commit scheduler seen txn reply ∷ [])
    ≡ round_commits before ++ record {
      place = (fold read_entry nothing_read before).place;
      scheduler = scheduler;
      turn = turn_of before scheduler;
    } ∷ []
commits_push before scheduler seen txn reply =
    ap (λ (r : Reading). r.commits) (fold-append read_entry nothing_read before (Commit scheduler seen txn reply ∷ []))

count_last : {X : Type 0} (test : X → Bool) (xs : List X) (x : X) → count_by test (xs ++ x ∷ []) ≡ count_by test xs + cond (test x) 1 0
count_last test xs x = grind (arith, common_steps, fold-append)

-- one more commit is counted if it is the scheduler's
pub turn_push : (before : List Entry) (by seen : ℕ) (txn : Txn) (reply : List Judgement) (scheduler : ℕ)
    → turn_of (before ++ Commit by seen txn reply ∷ []) scheduler ≡ turn_of before scheduler + cond (by == scheduler) 1 0
turn_push before by seen txn reply scheduler =
    ap (next_turn scheduler) (commits_push before by seen txn reply)
    ∙ count_last (λ taken. taken.scheduler == scheduler) (round_commits before) _

-- a commit of another scheduler leaves the turn of a scheduler
pub turn_push-other : (before : List Entry) (by seen : ℕ) (txn : Txn) (reply : List Judgement) (scheduler : ℕ)
    → (by == scheduler) ≡ false
    → turn_of (before ++ Commit by seen txn reply ∷ []) scheduler ≡ turn_of before scheduler
turn_push-other before by seen txn reply scheduler other =
    let same : turn_of before scheduler + cond (by == scheduler) 1 0 ≡ turn_of before scheduler = rw other (omega arith) in
    turn_push before by seen txn reply scheduler ∙ same

-- entries leave a reading without commits as it is
abbrev pub AddNone : List Entry → Type 0
AddNone entries = (reading : Reading) → reading.commits ≡ [] → (fold read_entry reading entries).commits ≡ []

-- the entries of rows are no commits
of_row_adds_none : (entries : List Entry) → All IsOfRow entries → AddNone entries
of_row_adds_none [] are reading none = none
of_row_adds_none (entry ∷ entries) are reading none =
    of_row_adds_none entries (All-tail IsOfRow entry entries are) (read_entry reading entry) (by_entry entry (All-head IsOfRow entry entries are)) where
      by_entry : (entry : Entry) → IsOfRow entry → (read_entry reading entry).commits ≡ []
      by_entry (RoundEntry number) is = absurd is
      by_entry (MachineAdd machine cap) is = none
      by_entry (MachineUpdate machine cap) is = none
      by_entry (MachineRemove machine) is = none
      by_entry (AttrSet machine name value) is = none
      by_entry (AttrDelete machine name) is = none
      by_entry (End key machine) is = none
      by_entry (Commit scheduler seen txn reply) is = absurd is

rows_add_none : (trace : TraceTables) (rows : List Row) (applied : Applied) → round_commits applied.history ≡ []
    → round_commits (fold (with_row trace) applied rows).history ≡ []
rows_add_none trace [] applied none = none
rows_add_none trace (row ∷ rows) applied none =
    let left = wanted (applied.rows ++ row ∷ []) in
    let added : List Entry = row_entries trace.disks (state applied.history) left row in
    rows_add_none trace rows (with_row trace applied row)
    (ap (λ (r : Reading). r.commits) (fold-append read_entry nothing_read applied.history added)
    ∙ of_row_adds_none added (are_of_row trace.disks (state applied.history) left row) (fold read_entry nothing_read applied.history) none)

-- a round whose rows are applied has no commits
pub opened_has_none : (trace : TraceTables) (rows : List Row) (start : List Entry) (round : Round) → round_commits (opened trace rows start round).history ≡ []
opened_has_none trace rows start round =
    rows_add_none trace round.rows (record { rows = rows; history = start ++ RoundEntry round.number ∷ [] })
    (ap (λ (r : Reading). r.commits) (fold-append read_entry nothing_read start (RoundEntry round.number ∷ [])))

-- more commits are counted
turn_more : (settings : Settings) (opened_at : ℕ) (history : List Entry)
    → ((place : ℕ) (entry : Entry) → slice_get history place ≡ Some entry → opened_at ≤ place
    → IsCommitOfRound settings opened_at (take place history) entry)
    → (before later : List Entry) → history ≡ before ++ later → opened_at ≤ length before
    → (scheduler : ℕ) → turn_of history scheduler ≡ turn_of before scheduler + commits_of scheduler later
turn_more settings opened_at history commits before [] is within scheduler =
    let same : turn_of history scheduler ≡ turn_of before scheduler = ap (λ (h : List Entry). turn_of h scheduler) (is ∙ append-nil before) in
    omega arith
turn_more settings opened_at history commits before (entry ∷ later) is within scheduler =
    by_entry entry (at_seam_from (IsCommitOfRound settings opened_at) opened_at history before entry later is within commits)
    (turn_more settings opened_at history commits (before ++ entry ∷ []) later (front_push history before entry later is)
    (longer opened_at before entry within) scheduler) where
      by_entry : (entry : Entry) → IsCommitOfRound settings opened_at before entry
          → turn_of history scheduler ≡ turn_of (before ++ entry ∷ []) scheduler + commits_of scheduler later
          → turn_of history scheduler ≡ turn_of before scheduler + commits_of scheduler (entry ∷ later)
      by_entry (RoundEntry number) may rest = absurd may
      by_entry (MachineAdd machine cap) may rest = absurd may
      by_entry (MachineUpdate machine cap) may rest = absurd may
      by_entry (MachineRemove machine) may rest = absurd may
      by_entry (AttrSet machine name value) may rest = absurd may
      by_entry (AttrDelete machine name) may rest = absurd may
      by_entry (End key machine) may rest = absurd may
      by_entry (Commit by seen txn reply) may rest =
          let pushed = turn_push before by seen txn reply scheduler in
          let counted = sum_by-cons (λ entry. cond (is_commit_of scheduler entry) 1 0) (Commit by seen txn reply) later in
          omega (arith, rest, pushed, counted)

-- the turn of a scheduler is the number of its commits since the round's rows
pub turn_counts : (settings : Settings) (trace : TraceTables) (rows : List Row) (start : List Entry) (round : Round) (history : List Entry)
    → RoundSoFar settings trace rows start round history
    → (scheduler : ℕ) → turn_of history scheduler ≡ commits_of scheduler (drop (length (opened trace rows start round).history) history)
turn_counts settings trace rows start round history so_far scheduler =
    let base : List Entry = (opened trace rows start round).history in
    let none : turn_of base scheduler ≡ 0 = ap (next_turn scheduler) (opened_has_none trace rows start round) in
    let more = turn_more settings (length base) history so_far.commits base (drop (length base) history)
    (round_from settings trace rows start round history so_far) (omega arith) scheduler in
    omega (arith, none, more)
