-- What commits had seen, and that a run by the free clock is legal.
use Rattle.std.proofs.Common.{◌≡◌, ◌≤◌, ◌+◌, ℕ, false, List, [], ◌∷◌, ◌++◌, length, map, refl, sym, subst, inl, inr, arith, append_assoc, append-nil, length-append}
use Rattle.std.specs.Prelude.{All, ◌==◌}
use Rattle.std.specs.List.{fold}
use Rattle.std.proofs.lemmas.Bool.{both_ways, eqb-false, ne_eqb}
use Rattle.std.proofs.lemmas.List.Elements.{All-head, All-tail}
use Rattle.omega_model.proofs.Growing.{by_place_push}
use Rattle.omega_model.specs.Lawful.{Applied, after_last, opened, with_row}
use Rattle.omega_model.specs.Legal.{Follows, Legal}
use Rattle.omega_model.specs.RowEntries.{row_entries}
use Rattle.omega_model.specs.State.{state}
use Rattle.omega_model.specs.Touches.{is_commit}
use Rattle.omega_model.specs.Wanted.{WantedTask, wanted}
use Rattle.omega_model.specs.Work.{is_commit_of}
use Rattle.omega_model.specs.declared.entries.Entry.{Entry}
use Rattle.omega_model.specs.declared.entries.Entry.TheVariants.{Round as RoundEntry, MachineAdd, MachineUpdate, MachineRemove, AttrSet, AttrDelete, End, Commit}
use Rattle.omega_model.specs.declared.rows.Row.{Row}
use Rattle.omega_model.specs.declared.rows.Round.{Round}
use Rattle.omega_free_laws.specs.Readings.{Reading}
use Rattle.omega_model.specs.declared.settings.Settings.{Settings}
use Rattle.omega_laws.proofs.LastCommits.{after_last-none, after_last-within}
use Rattle.omega_laws.proofs.RowEntries.{IsOfRow, are_of_row}
use Rattle.omega_free_laws.specs.Free.{FreeRun, after}
use Rattle.omega_free_laws.specs.FreeLaws.{EachSeesItsOwn, SeesItsOwn}
use Rattle.omega_free_laws.specs.FreeSteps.{DueCommit, Moment, beginning, committing, due_entry, ended_alone, ending, opening, past_ended, past_opened, end_entries}
use Rattle.omega_free_laws.specs.NextStep.{EachDeciding, Happens}
use Rattle.omega_free_laws.specs.Passes.{Attempt, Past}
use Rattle.omega_free_laws.proofs.OneStep.{committing_each, due_holds, holds_after, nobody_at_first, idle_each}
use Rattle.omega_laws.specs.Simulated.{greatest_time}
use Rattle.omega_model.proofs.Lists.{by_answer}
use Rattle.omega_model.specs.declared.cells.Task.{Task}
use Rattle.omega_model.specs.declared.cells.TaskKey.{TaskKey}
use Rattle.omega_model.specs.declared.rows.TraceTables.{TraceTables}
use Rattle.omega_model.specs.ExtraTasks.{ends_of_extras, is_wanted, running_extras}
use Rattle.omega_free_laws.specs.Lives.{DueEnd}

-- an entry of a row is no commit
of_row_none : (entry : Entry) → IsOfRow entry → is_commit entry ≡ false
of_row_none (RoundEntry number) is = refl
of_row_none (MachineAdd machine cap) is = refl
of_row_none (MachineUpdate machine cap) is = refl
of_row_none (MachineRemove machine) is = refl
of_row_none (AttrSet machine name value) is = refl
of_row_none (AttrDelete machine name) is = refl
of_row_none (End key machine) is = refl
of_row_none (Commit scheduler seen txn reply) is = absurd is

-- an entry that is no commit is no scheduler's, and may stand anywhere
pub commit_of_none : (scheduler : ℕ) (entry : Entry) → is_commit entry ≡ false → is_commit_of scheduler entry ≡ false
commit_of_none scheduler (RoundEntry number) none = refl
commit_of_none scheduler (MachineAdd machine cap) none = refl
commit_of_none scheduler (MachineUpdate machine cap) none = refl
commit_of_none scheduler (MachineRemove machine) none = refl
commit_of_none scheduler (AttrSet machine name value) none = refl
commit_of_none scheduler (AttrDelete machine name) none = refl
commit_of_none scheduler (End key machine) none = refl
commit_of_none scheduler (Commit by seen txn reply) none = absurd (both_ways _ none refl)

none_follows : (before : List Entry) (entry : Entry) → is_commit entry ≡ false → Follows before entry
none_follows before (RoundEntry number) none = tt
none_follows before (MachineAdd machine cap) none = tt
none_follows before (MachineUpdate machine cap) none = tt
none_follows before (MachineRemove machine) none = tt
none_follows before (AttrSet machine name value) none = tt
none_follows before (AttrDelete machine name) none = tt
none_follows before (End key machine) none = tt
none_follows before (Commit by seen txn reply) none = absurd (both_ways _ none refl)

none_sees : (before : List Entry) (entry : Entry) → is_commit entry ≡ false → SeesItsOwn before entry
none_sees before (RoundEntry number) none = tt
none_sees before (MachineAdd machine cap) none = tt
none_sees before (MachineUpdate machine cap) none = tt
none_sees before (MachineRemove machine) none = tt
none_sees before (AttrSet machine name value) none = tt
none_sees before (AttrDelete machine name) none = tt
none_sees before (End key machine) none = tt
none_sees before (Commit by seen txn reply) none = absurd (both_ways _ none refl)

-- what stays with each entry that is no commit stays while a round opens
module _ (P : List Entry → Type 0) (stays : (history : List Entry) (entry : Entry) → is_commit entry ≡ false → P history → P (history ++ entry ∷ [])) where
  stays_with : (history entries : List Entry) → All IsOfRow entries → P history → P (history ++ entries)
  stays_with history [] are holds = subst P (sym (append-nil history)) holds
  stays_with history (entry ∷ entries) are holds =
      subst P (append_assoc history (entry ∷ []) entries)
      (stays_with (history ++ entry ∷ []) entries (All-tail IsOfRow entry entries are)
      (stays history entry (of_row_none entry (All-head IsOfRow entry entries are)) holds))

  stays_rows : (trace : TraceTables) (rows : List Row) (applied : Applied) → P applied.history → P (fold (with_row trace) applied rows).history
  stays_rows trace [] applied holds = holds
  stays_rows trace (row ∷ rows) applied holds =
      let left = wanted (applied.rows ++ row ∷ []) in
      stays_rows trace rows (with_row trace applied row)
      (stays_with applied.history (row_entries trace.disks (state applied.history) left row)
      (are_of_row trace.disks (state applied.history) left row) holds)

  pub stays_opened : (trace : TraceTables) (rows : List Row) (start : List Entry) (round : Round) → P start → P (opened trace rows start round).history
  stays_opened trace rows start round holds =
      stays_rows trace round.rows (record { rows = rows; history = start ++ RoundEntry round.number ∷ [] })
      (stays start (RoundEntry round.number) refl holds)

-- what stays with each end stays while a task ends, and the extras of its job
module _ (P : List Entry → Type 0) (stays : (history : List Entry) (key : TaskKey) (machine : ℕ) → P history → P (history ++ End key machine ∷ [])) where
  stays_ends : (history : List Entry) (some : List Task) → P history → P (history ++ map (λ task. End task.key task.machine) some)
  stays_ends history [] holds = subst P (sym (append-nil history)) holds
  stays_ends history (task ∷ some) holds =
      subst P (append_assoc history (End task.key task.machine ∷ []) (map (λ (it : Task). End it.key it.machine) some))
      (stays_ends (history ++ End task.key task.machine ∷ []) some (stays history task.key task.machine holds))

  -- with the ends of extras behind the task's own
  pub stays_extras : (reading : Reading) (rows : List Row) (history : List Entry) (end : DueEnd) → P (ended_alone history end)
      → P (history ++ end_entries reading rows history end)
  stays_extras reading rows history end holds =
      subst P (append_assoc history (End end.key end.machine ∷ []) (ends_of_extras (state history) left end.key.job))
      (by_answer (is_wanted left end.key.job)
      (λ t. rw t (stays_ends (ended_alone history end) [] holds))
      (λ f. rw f (stays_ends (ended_alone history end) (running_extras (state history) end.key.job) holds))) where
        left : List WantedTask
        left = wanted (reading.counted rows (ended_alone history end))

  pub stays_ended : (reading : Reading) (rows : List Row) (history : List Entry) (end : DueEnd) → P history
      → P (history ++ end_entries reading rows history end)
  stays_ended reading rows history end holds = stays_extras reading rows history end (stays history end.key end.machine holds)

-- an attempt under way had seen its scheduler's last commit, and no more than there is
pub record SawEnough (history : List Entry) (number : ℕ) (attempt : Attempt) : Type 0 where
  pub own : after_last number history ≤ attempt.seen
  pub there : attempt.seen ≤ length history

longer : (history : List Entry) (entry : Entry) → length (history ++ entry ∷ []) ≡ length history + 1
longer history entry = length-append history (entry ∷ [])

saw_push : (history : List Entry) (entry : Entry) (number : ℕ) (attempt : Attempt) → is_commit_of number entry ≡ false
    → SawEnough history number attempt → SawEnough (history ++ entry ∷ []) number attempt
saw_push history entry number attempt none saw = record {
  own = let same = after_last-none number history entry none in let own = saw.own in omega (arith, same, own);
  there = let more = longer history entry in let there = saw.there in omega (arith, more, there);
}

saw_all : (settings : Settings) (history : List Entry) (number : ℕ) → after_last number history ≤ length history
saw_all settings history number = after_last-within number history

pub apart : (by number : ℕ) → (number == by) ≡ false → (by == number) ≡ false
apart by number differs = ne_eqb by number (λ same. eqb-false number by differs (sym same))

-- what holds of the history, and of the attempts under way, at each moment
pub record SeenSoFar (moment : Moment) : Type 0 where
  pub legal : Legal moment.past.history
  pub own : EachSeesItsOwn moment.past.history
  pub saw : EachDeciding (SawEnough moment.past.history) moment.crew

module _ (settings : Settings) (reading : Reading) where
  pub seen_first : SeenSoFar (beginning settings reading)
  seen_first = record {
    legal = λ place entry is. absurd (cc);
    own = λ place entry is. absurd (cc);
    saw = nobody_at_first settings reading (SawEnough []) _;
  }

  seen_opens : (old : Moment) (round : Round) (rest : List Round) → SeenSoFar old → SeenSoFar (opening settings reading old round rest)
  seen_opens old round rest so_far =
      let past : Past = past_opened reading old.past round in
      record {
        legal = stays_opened Legal (λ before entry none legal. by_place_push Follows before entry legal (none_follows before entry none))
            reading.trace old.past.rows old.past.history (reading.heeded round) so_far.legal;
        own = stays_opened EachSeesItsOwn (λ before entry none own. by_place_push SeesItsOwn before entry own (none_sees before entry none))
            reading.trace old.past.rows old.past.history (reading.heeded round) so_far.own;
        saw = idle_each settings reading (SawEnough past.history) (SawEnough old.past.history) past (greatest_time round.rows)
            (λ number request. record { own = after_last-within number past.history; there = omega arith })
            (λ number attempt saw. stays_opened (λ (before : List Entry). SawEnough before number attempt)
            (λ before entry none saw. saw_push before entry number attempt (commit_of_none number entry none) saw)
            reading.trace old.past.rows old.past.history (reading.heeded round) saw)
            old.crew so_far.saw;
      }

  seen_ends : (old : Moment) (end : DueEnd) → SeenSoFar old → SeenSoFar (ending settings reading old end)
  seen_ends old end so_far =
      let past : Past = past_ended reading old.past end old.coming in
      record {
        legal = stays_ended Legal (λ before key machine legal. by_place_push Follows before (End key machine) legal tt)
            reading old.past.rows old.past.history end so_far.legal;
        own = stays_ended EachSeesItsOwn (λ before key machine own. by_place_push SeesItsOwn before (End key machine) own tt)
            reading old.past.rows old.past.history end so_far.own;
        saw = idle_each settings reading (SawEnough past.history) (SawEnough old.past.history) past end.time
            (λ number request. record { own = after_last-within number past.history; there = omega arith })
            (λ number attempt saw. stays_ended (λ (before : List Entry). SawEnough before number attempt)
            (λ before key machine saw. saw_push before (End key machine) number attempt refl saw)
            reading old.past.rows old.past.history end saw)
            old.crew so_far.saw;
      }

  seen_commits : (old : Moment) (due : DueCommit) → SawEnough old.past.history due.by due.attempt → SeenSoFar old
      → SeenSoFar (committing settings reading old due.by due.attempt)
  seen_commits old due saw so_far =
      let before : List Entry = old.past.history in
      let entry : Entry = due_entry settings reading old.past due.by due.attempt in
      record {
        legal = by_place_push Follows before entry so_far.legal (saw.there, refl);
        own = by_place_push SeesItsOwn before entry so_far.own (saw.own, saw.there);
        saw = committing_each settings reading (SawEnough (before ++ entry ∷ [])) (SawEnough before) old due.by due.attempt
            (λ number request. record { own = after_last-within number (before ++ entry ∷ []); there = omega arith })
            (λ number other differs saw. saw_push before entry number other (apart due.by number differs) saw)
            so_far.saw;
      }

  pub seen_next : (old new : Moment) → SeenSoFar old → Happens settings reading old new → SeenSoFar new
  seen_next old new so_far (inl opens) = subst SeenSoFar (sym opens.happens) (seen_opens old opens.round opens.rest so_far)
  seen_next old new so_far (inr (inl ends)) = subst SeenSoFar (sym ends.happens) (seen_ends old ends.end so_far)
  seen_next old new so_far (inr (inr commits)) =
      subst SeenSoFar (sym commits.happens)
      (seen_commits old commits.due (due_holds settings reading (SawEnough old.past.history) old.crew commits.due so_far.saw commits.first) so_far)

  pub seen_so_far : (steps : ℕ) → SeenSoFar (after settings reading steps)
  seen_so_far = holds_after settings reading SeenSoFar seen_first seen_next

  -- a run by the free clock is legal, and each commit had seen its scheduler's last one
  pub free_is_legal : (history : List Entry) (times : List _) → FreeRun settings reading history times → Legal history
  free_is_legal history times free = subst Legal (sym free.is_history) (seen_so_far free.steps).legal

  pub free_sees_own : (history : List Entry) (times : List _) → FreeRun settings reading history times → EachSeesItsOwn history
  free_sees_own history times free = subst EachSeesItsOwn (sym free.is_history) (seen_so_far free.steps).own
