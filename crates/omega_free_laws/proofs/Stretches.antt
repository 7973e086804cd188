-- The rounds of a run by the free clock stand in it in order, each in one stretch.
use Rattle.std.proofs.Common.{◌≡◌, ℕ, Bool, option_map, List, [], ◌∷◌, ◌++◌, Option, Some, None, refl, sym, ap, subst, ◌∙◌, inl, inr, append_assoc, append-nil}
use Rattle.std.specs.Prelude.{IsTrue}
use Rattle.std.proofs.lemmas.List.Elements.{All-nil, All-push}
use Rattle.omega_model.specs.Feed.{rounds}
use Rattle.omega_model.specs.Lawful.{opened, rows_of}
use Rattle.omega_model.specs.Touches.{is_commit}
use Rattle.omega_model.specs.declared.entries.Entry.{Entry}
use Rattle.omega_model.specs.declared.entries.Entry.TheVariants.{Commit, End}
use Rattle.omega_model.specs.declared.rows.Row.{Row}
use Rattle.omega_model.specs.declared.rows.Round.{Round}
use Rattle.omega_free_laws.specs.Readings.{Reading, by_lives, by_rows}
use Rattle.omega_free_laws.specs.Lives.{DueEnd}
use Rattle.omega_free_laws.proofs.Seen.{stays_ended}
use Rattle.omega_model.specs.declared.cells.TaskKey.{TaskKey}
use Rattle.omega_model.specs.declared.claims.Judgement.{Judgement}
use Rattle.omega_model.specs.declared.claims.Txn.{Txn}
use Rattle.omega_laws.specs.VirtualTime.{Timed}
use Rattle.omega_model.specs.declared.rows.TraceTables.{TraceTables}
use Rattle.omega_model.specs.declared.settings.Settings.{Settings}
use Rattle.omega_free_laws.specs.Free.{Free, IsOver, FreeByLives, FreeRun, after}
use Rattle.omega_free_laws.specs.FreeLaws.{GoesOnBy, RoundsInStretches, is_commit_or_end}
use Rattle.omega_free_laws.specs.FreeSteps.{DueCommit, Moment, beginning, committing, Next, due_entry, ending, first_due, first_of, next_commit, next_ending, next_of, opening}
use Rattle.omega_free_laws.specs.NextStep.{Happens}
use Rattle.omega_free_laws.proofs.OneStep.{holds_after}
use Rattle.omega_model.proofs.Lists.{by_answer}
use Rattle.std.specs.Prelude.{nat_lt}
use Rattle.omega_laws.specs.Simulated.{greatest_time}

-- the rows of some rounds and of one more
pub rows_of_push : (some : List Round) (round : Round) → rows_of (some ++ round ∷ []) ≡ rows_of some ++ round.rows
rows_of_push [] round = append-nil round.rows
rows_of_push (first ∷ some) round =
    ap (λ (later : List Row). first.rows ++ later) (rows_of_push some round) ∙ sym (append_assoc first.rows (rows_of some) round.rows)

module _ (between : Entry → Bool) where
  goes_on_same : (history : List Entry) → GoesOnBy between history history
  goes_on_same history = ([], (sym (append-nil history), All-nil (λ (entry : Entry). IsTrue (between entry))))

  goes_on_push : (start history : List Entry) (entry : Entry) → IsTrue (between entry) → GoesOnBy between start history → GoesOnBy between start (history ++ entry ∷ [])
  goes_on_push start history entry is goes = (
    goes.0 ++ entry ∷ [],
    (
      ap (λ (front : List Entry). front ++ entry ∷ []) goes.1.0 ∙ append_assoc start goes.0 (entry ∷ []),
      All-push (λ (it : Entry). IsTrue (between it)) goes.0 entry goes.1.1 is,
    ),
  )

  module _ (reading : Reading) where
    -- one more commit, or one more end
    pub stretches_push : (rows : List Row) (start : List Entry) (some : List Round) (history : List Entry) (entry : Entry) → IsTrue (between entry)
        → RoundsInStretches between reading rows start some history → RoundsInStretches between reading rows start some (history ++ entry ∷ [])
    stretches_push rows start [] history entry is stretches = goes_on_push start history entry is stretches
    stretches_push rows start (round ∷ some) history entry is stretches =
        (stretches.0, (stretches.1.0, stretches_push (rows ++ round.rows) (opened reading.trace rows stretches.0 (reading.heeded round)).history some history entry is stretches.1.1))

    -- one more round
    pub stretches_round : (rows : List Row) (start : List Entry) (some : List Round) (history : List Entry) (round : Round)
        → RoundsInStretches between reading rows start some history
        → RoundsInStretches between reading rows start (some ++ round ∷ []) (opened reading.trace (rows ++ rows_of some) history (reading.heeded round)).history
    stretches_round rows start [] history round stretches = (
      history,
      (
        stretches,
        subst (λ (all : List Row). GoesOnBy between (opened reading.trace rows history (reading.heeded round)).history (opened reading.trace all history (reading.heeded round)).history)
            (sym (append-nil rows)) (goes_on_same (opened reading.trace rows history (reading.heeded round)).history),
      ),
    )
    stretches_round rows start (first ∷ some) history round stretches = (
      stretches.0,
      (
        stretches.1.0,
        subst (λ (all : List Row). RoundsInStretches between reading (rows ++ first.rows) (opened reading.trace rows stretches.0 (reading.heeded first)).history
            (some ++ round ∷ []) (opened reading.trace all history (reading.heeded round)).history)
            (append_assoc rows first.rows (rows_of some))
            (stretches_round (rows ++ first.rows) (opened reading.trace rows stretches.0 (reading.heeded first)).history some history round stretches.1.1),
      ),
    )

-- which rounds have opened
pub record OpenedSoFar (between : Entry → Bool) (settings : Settings) (reading : Reading) (moment : Moment) : Type 0 where
  pub done : List Round
  pub all : done ++ moment.coming ≡ rounds reading.trace settings.window
  pub rows : moment.past.rows ≡ rows_of done
  pub stretches : RoundsInStretches between reading [] [] done moment.past.history

-- where it is over no round is to come, and nobody is deciding
module _ (settings : Settings) (reading : Reading) where
  first_none : (one : Option Next) (other : Next) → first_of one (Some other) ≡ None → ⊥
  first_none None other is = absurd (cc)
  first_none (Some one) other is = by_answer (nat_lt other.time one.time) (λ t. absurd (let clash = rw t at is in cc)) (λ f. absurd (let clash = rw f at is in cc))

  front_none : (one : Next) (other : Option Next) → first_of (Some one) other ≡ None → ⊥
  front_none one None is = absurd (cc)
  front_none one (Some other) is = first_none (Some one) other is

  over_of : (moment : Moment) (coming : List Round) (end : Option DueEnd) (due : Option DueCommit) → next_of settings reading moment coming end due ≡ None
      → (coming ≡ []) × (due ≡ None)
  over_of moment [] end None is = (refl, refl)
  over_of moment [] end (Some due) is =
      absurd (inner (next_ending settings reading moment end) (record { time = due.attempt.due; leads_to = committing settings reading moment due.by due.attempt }) is) where
        inner : (one : Option Next) (other : Next) → first_of None (first_of one (Some other)) ≡ None → ⊥
        inner None other is = first_none None other is
        inner (Some one) other is = first_none (Some one) other is
  over_of moment (round ∷ rest) end due is =
      absurd (front_none (record { time = greatest_time round.rows; leads_to = opening settings reading moment round rest })
      (first_of (next_ending settings reading moment end) (next_commit settings reading moment due)) is)

  none_of_map : (found : Option Next) → option_map (λ (it : Next). it.leads_to) found ≡ None → found ≡ None
  none_of_map None is = refl
  none_of_map (Some it) is = absurd (cc)

  pub over_is : (moment : Moment) → IsOver settings reading moment → (moment.coming ≡ []) × (first_due moment.crew ≡ None)
  over_is moment over =
      over_of moment moment.coming (reading.end_due moment.past.history moment.times) (first_due moment.crew)
      (none_of_map (next_of settings reading moment moment.coming (reading.end_due moment.past.history moment.times) (first_due moment.crew)) over)

-- commits may stand between rounds, and ends where tasks end of themselves
module _ (between : Entry → Bool) (settings : Settings) (reading : Reading)
    (commits_may : (scheduler seen : ℕ) (txn : Txn) (reply : List Judgement) → IsTrue (between (Commit scheduler seen txn reply)))
    (ends_may : (history : List Entry) (times : List Timed) (end : DueEnd) → reading.end_due history times ≡ Some end
    → (key : TaskKey) (machine : ℕ) → IsTrue (between (End key machine))) where
  opened_first : OpenedSoFar between settings reading (beginning settings reading)
  opened_first = record { done = []; all = refl; rows = refl; stretches = goes_on_same between [] }

  opened_opens : (old : Moment) (round : Round) (rest : List Round) → old.coming ≡ round ∷ rest → OpenedSoFar between settings reading old
      → OpenedSoFar between settings reading (opening settings reading old round rest)
  opened_opens old round rest first so_far = record {
    done = so_far.done ++ round ∷ [];
    all = append_assoc so_far.done (round ∷ []) rest ∙ ap (λ (later : List Round). so_far.done ++ later) (sym first) ∙ so_far.all;
    rows = ap (λ (rows : List Row). rows ++ round.rows) so_far.rows ∙ sym (rows_of_push so_far.done round);
    stretches = subst (λ (rows : List Row). RoundsInStretches between reading [] [] (so_far.done ++ round ∷ []) (opened reading.trace rows old.past.history (reading.heeded round)).history)
        (sym so_far.rows) (stretches_round between reading [] [] so_far.done old.past.history round so_far.stretches);
  }

  opened_ends : (old : Moment) (end : DueEnd) → reading.end_due old.past.history old.times ≡ Some end → OpenedSoFar between settings reading old
      → OpenedSoFar between settings reading (ending settings reading old end)
  opened_ends old end first so_far = record {
    done = so_far.done;
    all = so_far.all;
    rows = so_far.rows;
    stretches = stays_ended (λ (before : List Entry). RoundsInStretches between reading [] [] so_far.done before)
        (λ before key machine stretches. stretches_push between reading [] [] so_far.done before (End key machine)
        (ends_may old.past.history old.times end first key machine) stretches)
        reading old.past.rows old.past.history end so_far.stretches;
  }

  opened_commits : (old : Moment) (due : DueCommit) → OpenedSoFar between settings reading old → OpenedSoFar between settings reading (committing settings reading old due.by due.attempt)
  opened_commits old due so_far = record {
    done = so_far.done;
    all = so_far.all;
    rows = so_far.rows;
    stretches = stretches_push between reading [] [] so_far.done old.past.history (due_entry settings reading old.past due.by due.attempt)
        (commits_may due.by due.attempt.seen _ _) so_far.stretches;
  }

  opened_next : (old new : Moment) → OpenedSoFar between settings reading old → Happens settings reading old new → OpenedSoFar between settings reading new
  opened_next old new so_far (inl opens) = subst (OpenedSoFar between settings reading) (sym opens.happens) (opened_opens old opens.round opens.rest opens.first so_far)
  opened_next old new so_far (inr (inl ends)) = subst (OpenedSoFar between settings reading) (sym ends.happens) (opened_ends old ends.end ends.first so_far)
  opened_next old new so_far (inr (inr commits)) = subst (OpenedSoFar between settings reading) (sym commits.happens) (opened_commits old commits.due so_far)

  pub opened_so_far : (steps : ℕ) → OpenedSoFar between settings reading (after settings reading steps)
  opened_so_far = holds_after settings reading (OpenedSoFar between settings reading) opened_first opened_next

  -- the trace's rounds stand in a run in order, each in one stretch
  pub runs_in_stretches : (history : List Entry) (times : List Timed) → FreeRun settings reading history times
      → RoundsInStretches between reading [] [] (rounds reading.trace settings.window) history
  runs_in_stretches history times free =
      let so_far = opened_so_far free.steps in
      let none = (over_is settings reading (after settings reading free.steps) free.over).0 in
      let all : so_far.done ≡ rounds reading.trace settings.window =
      sym (append-nil so_far.done) ∙ ap (λ (later : List Round). so_far.done ++ later) (sym none) ∙ so_far.all in
      subst (RoundsInStretches between reading [] [] (rounds reading.trace settings.window)) (sym free.is_history)
      (subst (λ (some : List Round). RoundsInStretches between reading [] [] some (after settings reading free.steps).past.history) all so_far.stretches)

-- where tasks end by the trace's rows, commits alone stand between its rounds
pub free_in_stretches : (settings : Settings) (trace : TraceTables) (history : List Entry) (times : List Timed) → Free settings trace history times
    → RoundsInStretches is_commit (by_rows trace) [] [] (rounds trace settings.window) history
free_in_stretches settings trace =
    runs_in_stretches is_commit settings (by_rows trace) (λ scheduler seen txn reply. refl) (λ history times end is key machine. absurd (cc))

-- where they end of themselves, commits and ends
pub own_in_stretches : (settings : Settings) (trace : TraceTables) (history : List Entry) (times : List Timed) → FreeByLives settings trace history times
    → RoundsInStretches is_commit_or_end (by_lives trace) [] [] (rounds trace settings.window) history
own_in_stretches settings trace =
    runs_in_stretches is_commit_or_end settings (by_lives trace) (λ scheduler seen txn reply. refl) (λ history times end is key machine. refl)
