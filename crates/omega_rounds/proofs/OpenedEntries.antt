-- What the entries of a round and of its rows leave as it was.
use Rattle.std.proofs.Common.{◌≡◌, ℕ, false, List, [], ◌∷◌, ◌++◌, refl, sym, subst, ◌∙◌, append_assoc, append-nil}
use Rattle.std.specs.Prelude.{All}
use Rattle.std.specs.List.{fold}
use Rattle.std.proofs.lemmas.Bool.{both_ways}
use Rattle.std.proofs.lemmas.List.Elements.{All-head, All-tail}
use Rattle.omega_model.proofs.Standing.{failed_push}
use Rattle.omega_model.specs.Lawful.{Applied, opened, with_row}
use Rattle.omega_model.specs.Requests.{failed, failed_after}
use Rattle.omega_model.specs.State.{state}
use Rattle.omega_model.specs.RowEntries.{row_entries}
use Rattle.omega_model.specs.Wanted.{wanted}
use Rattle.omega_model.specs.Work.{commits_of, is_commit_of}
use Rattle.omega_model.specs.declared.entries.Entry.{Entry}
use Rattle.omega_model.specs.declared.entries.Entry.TheVariants.{Round as RoundEntry, MachineAdd, MachineUpdate, MachineRemove, AttrSet, AttrDelete, End, Commit}
use Rattle.omega_model.specs.declared.rows.Row.{Row}
use Rattle.omega_model.specs.declared.rows.Round.{Round}
use Rattle.omega_model.specs.declared.rows.TraceTables.{TraceTables}
use Rattle.omega_model.specs.Touches.{is_commit}
use Rattle.omega_plan.specs.Indexes.{AreIndexesOf}
use Rattle.omega_plan.specs.declared.indexes.Indexes.{Indexes}
use Rattle.omega_workers.proofs.CommitCounts.{commits_other, indexes_on}
use Rattle.omega_laws.proofs.RowEntries.{IsOfRow, are_of_row}

-- an entry of a row is no commit
of_row_none : (entry : Entry) → IsOfRow entry → is_commit entry ≡ false
of_row_none (RoundEntry number) is = refl
of_row_none (MachineAdd machine cap) is = refl
of_row_none (MachineUpdate machine cap) is = refl
of_row_none (MachineRemove machine) is = refl
of_row_none (AttrSet machine name value) is = refl
of_row_none (AttrDelete machine name) is = refl
of_row_none (End key machine) is = refl
of_row_none (Commit scheduler seen txn reply) is = absurd is

-- an entry that is no commit is no scheduler's
commit_of_none : (scheduler : ℕ) (entry : Entry) → is_commit entry ≡ false → is_commit_of scheduler entry ≡ false
commit_of_none scheduler (RoundEntry number) none = refl
commit_of_none scheduler (MachineAdd machine cap) none = refl
commit_of_none scheduler (MachineUpdate machine cap) none = refl
commit_of_none scheduler (MachineRemove machine) none = refl
commit_of_none scheduler (AttrSet machine name value) none = refl
commit_of_none scheduler (AttrDelete machine name) none = refl
commit_of_none scheduler (End key machine) none = refl
commit_of_none scheduler (Commit by seen txn reply) none = absurd (both_ways _ none refl)

-- and counts for no job
failed_none : (job count : ℕ) (entry : Entry) → is_commit entry ≡ false → failed_after job count entry ≡ count
failed_none job count (RoundEntry number) none = refl
failed_none job count (MachineAdd machine cap) none = refl
failed_none job count (MachineUpdate machine cap) none = refl
failed_none job count (MachineRemove machine) none = refl
failed_none job count (AttrSet machine name value) none = refl
failed_none job count (AttrDelete machine name) none = refl
failed_none job count (End key machine) none = refl
failed_none job count (Commit scheduler seen txn reply) none = absurd (both_ways _ none refl)

-- what stays with each entry that is no commit stays while a round opens
module _ (P : List Entry → Type 0) (stays : (history : List Entry) (entry : Entry) → is_commit entry ≡ false → P history → P (history ++ entry ∷ [])) where
  stays_with : (history entries : List Entry) → All IsOfRow entries → P history → P (history ++ entries)
  stays_with history [] are holds = subst P (sym (append-nil history)) holds
  stays_with history (entry ∷ entries) are holds =
      subst P (append_assoc history (entry ∷ []) entries)
      (stays_with (history ++ entry ∷ []) entries (All-tail IsOfRow entry entries are)
      (stays history entry (of_row_none entry (All-head IsOfRow entry entries are)) holds))

  stays_rows : (trace : TraceTables) (rows : List Row) (applied : Applied) → P applied.history → P (fold (with_row trace) applied rows).history
  stays_rows trace [] applied holds = holds
  stays_rows trace (row ∷ rows) applied holds =
      let left = wanted (applied.rows ++ row ∷ []) in
      stays_rows trace rows (with_row trace applied row)
      (stays_with applied.history (row_entries trace.disks (state applied.history) left row)
      (are_of_row trace.disks (state applied.history) left row) holds)

  pub stays_opened : (trace : TraceTables) (rows : List Row) (start : List Entry) (round : Round) → P start → P (opened trace rows start round).history
  stays_opened trace rows start round holds =
      stays_rows trace round.rows (record { rows = rows; history = start ++ RoundEntry round.number ∷ [] })
      (stays start (RoundEntry round.number) refl holds)

module _ (trace : TraceTables) (rows : List Row) (start : List Entry) (round : Round) where
  -- the commits of a scheduler
  pub commits_opened : (scheduler : ℕ) → commits_of scheduler (opened trace rows start round).history ≡ commits_of scheduler start
  commits_opened scheduler =
      stays_opened (λ history. commits_of scheduler history ≡ commits_of scheduler start)
      (λ history entry none same. commits_other scheduler history entry (commit_of_none scheduler entry none) ∙ same)
      trace rows start round refl

  -- the failed commits of a job
  pub failed_opened : (job : ℕ) → failed (opened trace rows start round).history job ≡ failed start job
  failed_opened job =
      stays_opened (λ history. failed history job ≡ failed start job)
      (λ history entry none same. failed_push history entry job ∙ failed_none job (failed history job) entry none ∙ same)
      trace rows start round refl

  -- whose indexes some are
  pub indexes_opened : (indexes : Indexes) → AreIndexesOf start indexes → AreIndexesOf (opened trace rows start round).history indexes
  indexes_opened indexes are =
      stays_opened (λ history. AreIndexesOf history indexes)
      (λ history entry none here. indexes_on indexes history (history ++ entry ∷ []) (entry ∷ [], refl) here) trace rows start round are
