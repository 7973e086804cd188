-- The steps of a run where tasks end of themselves, for what stays of each running task.
use Rattle.std.proofs.Common.{◌≡◌, ◌≤◌, ◌<◌, ◌+◌, ℕ, Bool, true, false, List, [], ◌∷◌, ◌++◌, Option, Some, length, map, take, refl, sym, ap, ap₂, subst, ◌∙◌, inl, inr, arith, filter, append-nil, append_assoc, length-append}
use Rattle.std.specs.Prelude.{◌⊎◌, ◌==◌, IsSomeAnd, not}
use Rattle.std.specs.List.{fold, AllByRecursion as Each}
use Rattle.std.proofs.lemmas.List.{take-append-le}
use Rattle.std.proofs.Math.Seq.{take-length}
use Rattle.omega_model.proofs.Growing.{by_place_push}
use Rattle.omega_model.proofs.Lists.{by_answer, each_passes}
use Rattle.omega_model.proofs.RowEnds.{EndInTurn, end_task, stop_in_turn, stopped_by, stops}
use Rattle.omega_model.specs.Applying.{EndsRunning}
use Rattle.omega_model.specs.Cell.{Cell, task_at}
use Rattle.omega_model.specs.ExtraTasks.{ends_of_extras}
use Rattle.omega_model.specs.Fields.{AttrFields, DiskFields, MachineFields, TaskFields}
use Rattle.omega_model.specs.Lawful.{Applied, opened, with_row}
use Rattle.omega_model.specs.RowEntries.{row_entries}
use Rattle.omega_model.specs.State.{state}
use Rattle.omega_model.specs.Wanted.{WantedTask, attr_entry, end_of, ends, machine_entry, wanted}
use Rattle.omega_model.specs.declared.cells.Task.{Task}
use Rattle.omega_model.specs.declared.cells.TaskKey.{TaskKey}
use Rattle.omega_model.specs.declared.entries.Entry.{Entry}
use Rattle.omega_model.specs.declared.entries.Entry.TheVariants.{Round as RoundEntry, MachineAdd, MachineUpdate, MachineRemove, AttrSet, AttrDelete, End, Commit}
use Rattle.omega_model.specs.declared.rows.Round.{Round}
use Rattle.omega_model.specs.declared.rows.Row.{Row}
use Rattle.omega_model.specs.declared.rows.Row.TheVariants.{Machine, Attr as AttrEvent, Task as TaskEvent}
use Rattle.omega_model.specs.declared.rows.TraceTables.{TraceTables}
use Rattle.omega_model.specs.declared.settings.Settings.{Settings}
use Rattle.omega_laws.specs.VirtualTime.{Timed}
use Rattle.omega_free_laws.specs.Free.{FreeByLives, after}
use Rattle.omega_free_laws.specs.FreeSteps.{DueCommit, Moment, committing, due_entry, end_entries, ended_alone, ending, opening}
use Rattle.omega_free_laws.specs.NextStep.{Happens}
use Rattle.omega_free_laws.specs.Lives.{DueEnd, ends_none, first_own_end, placing, without_ends}
use Rattle.omega_free_laws.specs.LivesLaws.{EachEndRuns, IsDueEnd, RunsSince}
use Rattle.omega_free_laws.specs.Readings.{Reading, by_lives}
use Rattle.omega_free_laws.proofs.DueEnds.{own_end_is}
use Rattle.omega_free_laws.proofs.OneStep.{holds_after}
use Rattle.omega_free_laws.proofs.Running.{EachRunning, Stays, commit_step, ends_step, is_plain, placing_new, placing_old, placing_same, plain_step}

-- ---- the rows that are heeded give plain entries

machine_is_plain : (disks : List DiskFields) (row : MachineFields) → is_plain (machine_entry disks row) ≡ true
machine_is_plain disks row =
    by_answer (row.code == 0)
    (λ t. rw t refl)
    (λ f. by_answer (row.code == 1) (λ t. rw (f, t) refl) (λ g. rw (f, g) refl))

attr_is_plain : (row : AttrFields) → is_plain (attr_entry row) ≡ true
attr_is_plain row = by_answer row.deleted (λ t. rw t refl) (λ f. rw f refl)

not_true : (b : Bool) → not b ≡ true → b ≡ false
not_true true is = absurd (cc)
not_true false is = refl

are_plain : (disks : List DiskFields) (cell : Cell) (left : List WantedTask) (row : Row) → ends_none row ≡ true
    → Each (λ (entry : Entry). is_plain entry ≡ true) (row_entries disks cell left row)
are_plain disks cell left (Machine row) none = (machine_is_plain disks row, tt)
are_plain disks cell left (AttrEvent row) none = (attr_is_plain row, tt)
are_plain disks cell left (TaskEvent row) none = let no_end = not_true (ends row.code) none in rw no_end tt

-- what stays with each plain entry stays while a round opens
module _ (P : List Entry → Type 0) (stays : (history : List Entry) (entry : Entry) → is_plain entry ≡ true → P history → P (history ++ entry ∷ [])) where
  plain_with : (history entries : List Entry) → Each (λ (entry : Entry). is_plain entry ≡ true) entries → P history → P (history ++ entries)
  plain_with history [] are holds = subst P (sym (append-nil history)) holds
  plain_with history (entry ∷ entries) are holds =
      subst P (append_assoc history (entry ∷ []) entries) (plain_with (history ++ entry ∷ []) entries are.1 (stays history entry are.0 holds))

  plain_rows : (trace : TraceTables) (rows : List Row) (applied : Applied) → Each (λ (row : Row). ends_none row ≡ true) rows → P applied.history
      → P (fold (with_row trace) applied rows).history
  plain_rows trace [] applied none holds = holds
  plain_rows trace (row ∷ rows) applied none holds =
      let left = wanted (applied.rows ++ row ∷ []) in
      plain_rows trace rows (with_row trace applied row) none.1
      (plain_with applied.history (row_entries trace.disks (state applied.history) left row) (are_plain trace.disks (state applied.history) left row none.0) holds)

  pub plain_opened : (trace : TraceTables) (rows : List Row) (start : List Entry) (round : Round) → P start → P (opened trace rows start (without_ends round)).history
  plain_opened trace rows start round holds =
      plain_rows trace (filter ends_none round.rows) (record { rows = rows; history = start ++ RoundEntry round.number ∷ [] })
      (each_passes ends_none round.rows) (stays start (RoundEntry round.number) refl holds)

-- ---- the entries of an end are those of a row that ends the task

abbrev pub row_for : TaskKey → Task → TaskFields
row_for key task = record { time = 0; key = key; code = 4; class = 0; spec = task.spec }

-- the tasks that end with one
abbrev pub ended_with : Reading → List Row → List Entry → DueEnd → Task → List Task
ended_with reading rows history end task = stopped_by (state history) (wanted (reading.counted rows (ended_alone history end))) (row_for task.key task)

pub entries_of_end : (trace : TraceTables) (rows : List Row) (history : List Entry) (times : List Timed) (end : DueEnd) → (is : IsDueEnd trace history times end)
    → end_entries (by_lives trace) rows history end ≡ map end_task (ended_with (by_lives trace) rows history end is.task)
entries_of_end trace rows history times end is =
    let left : List WantedTask = wanted ((by_lives trace).counted rows (ended_alone history end)) in
    let named : end_entries (by_lives trace) rows history end ≡ End is.task.key is.task.machine ∷ ends_of_extras (state history) left is.task.key.job =
    ap₂ (λ (key : TaskKey) (machine : ℕ). End key machine ∷ ends_of_extras (state history) left key.job) is.key is.machine in
    let found : end_of (task_at (state history).tasks is.task.key) ≡ End is.task.key is.task.machine ∷ [] = ap end_of is.runs in
    named ∙ ap (λ (first : List Entry). first ++ ends_of_extras (state history) left is.task.key.job) (sym found)
    ∙ stops (state history) left (row_for is.task.key is.task)

pub end_in_turn : (trace : TraceTables) (rows : List Row) (history : List Entry) (times : List Timed) (end : DueEnd) → (is : IsDueEnd trace history times end)
    → EndInTurn history (ended_with (by_lives trace) rows history end is.task)
end_in_turn trace rows history times end is =
    stop_in_turn history (wanted ((by_lives trace).counted rows (ended_alone history end))) (row_for is.task.key is.task) is.low

-- ---- what stays of each running task, step by step

module _ (settings : Settings) (trace : TraceTables) (T : List Entry → List Timed → Task → Type 0) (May : Timed → Type 0) (stays : Stays T May) where
  pub own_opens : (old : Moment) (round : Round) (rest : List Round) → EachRunning T May stays old.past.history old.times
      → EachRunning T May stays (opening settings (by_lives trace) old round rest).past.history old.times
  own_opens old round rest each =
      plain_opened (λ (history : List Entry). EachRunning T May stays history old.times)
      (λ history entry plain each. plain_step T May stays history old.times entry plain each) trace old.past.rows old.past.history round each

  pub own_ends : (old : Moment) (end : DueEnd) → first_own_end trace old.past.history old.times ≡ Some end → EachRunning T May stays old.past.history old.times
      → EachRunning T May stays (ending settings (by_lives trace) old end).past.history old.times
  own_ends old end is each =
      let due = own_end_is trace old.past.history old.times end is in
      subst (λ (entries : List Entry). EachRunning T May stays (old.past.history ++ entries) old.times)
      (sym (entries_of_end trace old.past.rows old.past.history old.times end due))
      (ends_step T May stays old.past.history old.times (ended_with (by_lives trace) old.past.rows old.past.history end due.task)
      (end_in_turn trace old.past.rows old.past.history old.times end due) each)

  pub own_commits : (old : Moment) (due : DueCommit)
      → May (record { place = length old.past.history; scheduler = due.by; sync = due.attempt.sync; time = due.attempt.due })
      → EachRunning T May stays old.past.history old.times
      → EachRunning T May stays (committing settings (by_lives trace) old due.by due.attempt).past.history (committing settings (by_lives trace) old due.by due.attempt).times
  own_commits old due may each =
      commit_step T May stays old.past.history old.times due.by due.attempt.seen _ _
      (record { place = length old.past.history; scheduler = due.by; sync = due.attempt.sync; time = due.attempt.due }) refl may each

-- ---- each task that runs has run since it was placed

since_now : (history : List Entry) (entry : Entry) (task : Task) (from : ℕ) → task_at (state (history ++ entry ∷ [])).tasks task.key ≡ Some task
    → ((n : ℕ) → from < n → n ≤ length history → task_at (state (take n history)).tasks task.key ≡ Some task)
    → (n : ℕ) → from < n → n ≤ length (history ++ entry ∷ []) → task_at (state (take n (history ++ entry ∷ []))).tasks task.key ≡ Some task
since_now history entry task from runs before n above within = by_place (split n (length history) (let more = length-append history (entry ∷ []) in omega (arith, within, more))) where
  split : (a b : ℕ) → a ≤ b + 1 → (a ≤ b) ⊎ (a ≡ b + 1)
  split a b less = grind (arith)

  by_place : (n ≤ length history) ⊎ (n ≡ length history + 1) → task_at (state (take n (history ++ entry ∷ []))).tasks task.key ≡ Some task
  by_place (inl less) =
      subst (λ (h : List Entry). task_at (state h).tasks task.key ≡ Some task) (sym (take-append-le n history (entry ∷ []) less)) (before n above less)
  by_place (inr all) =
      let same : n ≡ length (history ++ entry ∷ []) = let more = length-append history (entry ∷ []) in omega (arith, all, more) in
      subst (λ (h : List Entry). task_at (state h).tasks task.key ≡ Some task)
      (sym (ap (λ (m : ℕ). take m (history ++ entry ∷ [])) same ∙ take-length (history ++ entry ∷ []))) runs

since_more : (history : List Entry) (times more : List Timed) (entry : Entry) (task : Task) → placing (history ++ entry ∷ []) more task.key ≡ placing history times task.key
    → task_at (state (history ++ entry ∷ [])).tasks task.key ≡ Some task → RunsSince history times task → RunsSince (history ++ entry ∷ []) more task
since_more history times more entry task same runs old = record {
  timed = old.timed;
  placed = same ∙ old.placed;
  since = since_now history entry task old.timed.place runs old.since;
}

pub since_stays : Stays RunsSince (λ timed. Unit {0})
since_stays = record {
  plain = λ history times entry task within plain runs old. since_more history times times entry task (placing_same history times entry task.key within) runs old;
  other = λ history times key machine task within other runs old.
      since_more history times times (End key machine) task (placing_same history times (End key machine) task.key within) runs old;
  kept = λ history times by seen txn reply timed task within at none runs old.
      since_more history times (times ++ timed ∷ []) (Commit by seen txn reply) task (placing_old history times (Commit by seen txn reply) timed task.key within at none) runs old;
  placed = λ history times by seen txn reply timed task within at may places runs. record {
    timed = timed;
    placed = placing_new history times (Commit by seen txn reply) timed task.key at places;
    since = since_now history (Commit by seen txn reply) task timed.place runs (λ n above below. absurd (omega (arith, at, above, below)));
  };
}

module _ (settings : Settings) (trace : TraceTables) where
  abbrev pub EachRunsSince : Moment → Type 0
  EachRunsSince moment = EachRunning RunsSince (λ timed. Unit {0}) since_stays moment.past.history moment.times

  pub since_next : (old new : Moment) → EachRunsSince old → Happens settings (by_lives trace) old new → EachRunsSince new
  since_next old new each (inl opens) = subst EachRunsSince (sym opens.happens) (own_opens settings trace RunsSince _ since_stays old opens.round opens.rest each)
  since_next old new each (inr (inl ends)) = subst EachRunsSince (sym ends.happens) (own_ends settings trace RunsSince _ since_stays old ends.end ends.first each)
  since_next old new each (inr (inr commits)) = subst EachRunsSince (sym commits.happens) (own_commits settings trace RunsSince _ since_stays old commits.due tt each)

  pub each_runs_since : (steps : ℕ) → EachRunsSince (after settings (by_lives trace) steps)
  each_runs_since = holds_after settings (by_lives trace) EachRunsSince (tt, tt) since_next

-- ---- each end is one of a task that runs on its machine

plain_runs : (before : List Entry) (entry : Entry) → is_plain entry ≡ true → EndsRunning (state before).tasks entry
plain_runs before (RoundEntry number) plain = tt
plain_runs before (MachineAdd machine cap) plain = tt
plain_runs before (MachineUpdate machine cap) plain = tt
plain_runs before (MachineRemove machine) plain = tt
plain_runs before (AttrSet machine name value) plain = tt
plain_runs before (AttrDelete machine name) plain = tt
plain_runs before (End key machine) plain = absurd (cc)
plain_runs before (Commit by seen txn reply) plain = absurd (cc)

ends_run : (history : List Entry) (some : List Task) → EndInTurn history some → EachEndRuns history → EachEndRuns (history ++ map end_task some)
ends_run history [] turn each = subst EachEndRuns (sym (append-nil history)) each
ends_run history (task ∷ some) turn each =
    subst EachEndRuns (append_assoc history (end_task task ∷ []) (map end_task some))
    (ends_run (history ++ end_task task ∷ []) some turn.1
    (by_place_push (λ (before : List Entry) (entry : Entry). EndsRunning (state before).tasks entry) history (end_task task) each
    (subst (λ (found : Option Task). IsSomeAnd found (λ (it : Task). it.machine ≡ task.machine)) (sym turn.0) refl)))

module _ (settings : Settings) (trace : TraceTables) where
  runs_next : (old new : Moment) → EachEndRuns old.past.history → Happens settings (by_lives trace) old new → EachEndRuns new.past.history
  runs_next old new each (inl opens) =
      subst (λ (it : Moment). EachEndRuns it.past.history) (sym opens.happens)
      (plain_opened EachEndRuns (λ history entry plain each. by_place_push (λ (before : List Entry) (entry : Entry). EndsRunning (state before).tasks entry) history entry each (plain_runs history entry plain))
      trace old.past.rows old.past.history opens.round each)
  runs_next old new each (inr (inl ends)) =
      let due = own_end_is trace old.past.history old.times ends.end ends.first in
      subst (λ (it : Moment). EachEndRuns it.past.history) (sym ends.happens)
      (subst (λ (entries : List Entry). EachEndRuns (old.past.history ++ entries)) (sym (entries_of_end trace old.past.rows old.past.history old.times ends.end due))
      (ends_run old.past.history (ended_with (by_lives trace) old.past.rows old.past.history ends.end due.task)
      (end_in_turn trace old.past.rows old.past.history old.times ends.end due) each))
  runs_next old new each (inr (inr commits)) =
      subst (λ (it : Moment). EachEndRuns it.past.history) (sym commits.happens)
      (by_place_push (λ (before : List Entry) (entry : Entry). EndsRunning (state before).tasks entry) old.past.history
      (due_entry settings (by_lives trace) old.past commits.due.by commits.due.attempt) each tt)

  pub own_ends_run : (history : List Entry) (times : List Timed) → FreeByLives settings trace history times → EachEndRuns history
  own_ends_run history times run =
      subst EachEndRuns (sym run.is_history)
      (holds_after settings (by_lives trace) (λ (it : Moment). EachEndRuns it.past.history) (λ place entry is. absurd (cc)) runs_next run.steps)
