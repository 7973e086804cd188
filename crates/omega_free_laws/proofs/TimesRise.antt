-- The times of a run by the free clock never fall.
use Rattle.std.proofs.Common.{◌≡◌, ◌≤◌, ◌<◌, ℕ, List, [], ◌∷◌, Option, Some, None, length, refl, sym, subst, ◌∙◌, inl, inr, arith}
use Rattle.std.specs.Prelude.{All}
use Rattle.std.specs.List.{AllByRecursion as Each}
use Rattle.std.proofs.lemmas.List.Elements.{All-from_recursion}
use Rattle.std.proofs.lemmas.Option.{same_Some}
use Rattle.omega_model.proofs.Growing.{by_place_push}
use Rattle.omega_model.proofs.Lists.{each_append, each_map}
use Rattle.omega_model.specs.declared.entries.Entry.{Entry}
use Rattle.omega_model.specs.declared.rows.Round.{Round}
use Rattle.omega_free_laws.specs.Readings.{Reading, by_rows}
use Rattle.omega_model.specs.declared.settings.Settings.{Settings}
use Rattle.omega_laws.specs.Simulated.{greatest_time}
use Rattle.omega_laws.specs.VirtualTime.{Timed}
use Rattle.omega_free_laws.specs.Free.{Free, FreeRun, after}
use Rattle.omega_free_laws.specs.FreeLaws.{TimesRise}
use Rattle.omega_free_laws.specs.FreeSteps.{DueCommit, Moment, beginning, committing, ending, first_due, opening, past_ended, past_opened}
use Rattle.omega_free_laws.specs.NextStep.{EachDeciding, Happens}
use Rattle.omega_free_laws.proofs.OneStep.{IsDueFrom, committing_each, due_holds, first_is_first, from_earlier, holds_after, nobody_at_first, nobody_due, idle_each}
use Rattle.omega_free_laws.specs.Lives.{DueEnd}
use Rattle.omega_model.specs.declared.rows.TraceTables.{TraceTables}
use Rattle.omega_free_laws.proofs.RoundsRise.{RoundsRise, rounds_rise}

-- no end is due before this time
abbrev pub EndsFrom : Reading → ℕ → Moment → Type 0
EndsFrom reading time moment = (end : DueEnd) → reading.end_due moment.past.history moment.times ≡ Some end → time ≤ end.time

-- no step makes an end due before its own time: this is all that the times ask of how tasks end. What is kept beside may
-- speak of the time that it is
pub record EndsInFlow (settings : Settings) (reading : Reading) (Ok : ℕ → Moment → Type 0) : Type 0 where
  pub none : (end : DueEnd) → reading.end_due [] [] ≡ Some end → ⊥
  pub first : Ok 0 (beginning settings reading)
  pub opens : (old : Moment) (round : Round) (rest : List Round) (now : ℕ) → old.coming ≡ round ∷ rest → now ≤ greatest_time round.rows → Ok now old
      → EndsFrom reading (greatest_time round.rows) old
      → Ok (greatest_time round.rows) (opening settings reading old round rest) × EndsFrom reading (greatest_time round.rows) (opening settings reading old round rest)
  pub ends : (old : Moment) (end : DueEnd) (now : ℕ) → now ≤ end.time → Ok now old → reading.end_due old.past.history old.times ≡ Some end
      → Each (λ (timed : Timed). timed.time ≤ end.time) old.times → EndsFrom reading end.time old
      → Ok end.time (ending settings reading old end) × EndsFrom reading end.time (ending settings reading old end)
  pub commits : (old : Moment) (due : DueCommit) (now : ℕ) → now ≤ due.attempt.due → Ok now old → EndsFrom reading due.attempt.due old
      → Ok due.attempt.due (committing settings reading old due.by due.attempt)
      × EndsFrom reading due.attempt.due (committing settings reading old due.by due.attempt)

-- at each moment all commits so far have happened, and all that is due is still to happen
pub record Flows (reading : Reading) (Ok : ℕ → Moment → Type 0) (moment : Moment) : Type 0 where
  pub now : ℕ
  pub happened : Each (λ (timed : Timed). timed.time ≤ now) moment.times
  pub on_the_way : EachDeciding (IsDueFrom now) moment.crew
  pub to_come : Each (λ (round : Round). now ≤ greatest_time round.rows) moment.coming
  pub rounds : RoundsRise moment.coming
  pub rise : TimesRise moment.times
  pub ends : EndsFrom reading now moment
  pub ok : Ok now moment

module _ (settings : Settings) (reading : Reading) (Ok : ℕ → Moment → Type 0) (flow : EndsInFlow settings reading Ok) (some : 0 < settings.window) where
  flows_first : Flows reading Ok (beginning settings reading)
  flows_first = record {
    now = 0;
    happened = tt;
    on_the_way = nobody_at_first settings reading (IsDueFrom 0) _;
    to_come = from_zero (beginning settings reading).coming;
    rounds = rounds_rise settings.window some reading.trace;
    rise = λ place timed is. absurd (cc);
    ends = λ end is. absurd (flow.none end is);
    ok = flow.first;
  } where
    from_zero : (coming : List Round) → Each (λ (round : Round). 0 ≤ greatest_time round.rows) coming
    from_zero [] = tt
    from_zero (round ∷ coming) = (omega arith, from_zero coming)

  -- all attempts under way are due from the time on at which the next round opens
  due_after : (old : Moment) (time : ℕ) → ((due : DueCommit) → first_due old.crew ≡ Some due → time ≤ due.attempt.due) → EachDeciding (IsDueFrom time) old.crew
  due_after old time no_sooner = by_first (first_due old.crew) refl where
    by_first : (first : Option DueCommit) → first_due old.crew ≡ first → EachDeciding (IsDueFrom time) old.crew
    by_first None is = nobody_due time old.crew is
    by_first (Some due) is = from_earlier time due.attempt.due (no_sooner due is) old.crew (first_is_first old.crew due is)

  flows_opens : (old : Moment) (round : Round) (rest : List Round) → old.coming ≡ round ∷ rest
      → EndsFrom reading (greatest_time round.rows) old
      → ((due : DueCommit) → first_due old.crew ≡ Some due → greatest_time round.rows ≤ due.attempt.due)
      → Flows reading Ok old → Flows reading Ok (opening settings reading old round rest)
  flows_opens old round rest first no_end no_sooner flows =
      let time : ℕ = greatest_time round.rows in
      let later : Each (λ (it : Round). flows.now ≤ greatest_time it.rows) (round ∷ rest) =
      subst (Each (λ (it : Round). flows.now ≤ greatest_time it.rows)) first flows.to_come in
      let rise : RoundsRise (round ∷ rest) = subst RoundsRise first flows.rounds in
      let not_past : flows.now ≤ time = later.0 in
      let next = flow.opens old round rest flows.now first not_past flows.ok no_end in
      record {
        now = time;
        happened = each_map (λ (timed : Timed). timed.time ≤ flows.now) (λ (timed : Timed). timed.time ≤ time)
            (λ timed happened. omega (arith, happened, not_past)) old.times flows.happened;
        on_the_way = idle_each settings reading (IsDueFrom time) (IsDueFrom time) (past_opened reading old.past round) time (λ number request. omega arith)
            (λ number attempt due. due) old.crew (due_after old time no_sooner);
        to_come = rise.0;
        rounds = rise.1;
        rise = flows.rise;
        ends = next.1;
        ok = next.0;
      }

  still_to_come : (time : ℕ) (coming : List Round) → ((round : Round) (rest : List Round) → coming ≡ round ∷ rest → time < greatest_time round.rows)
      → RoundsRise coming → Each (λ (it : Round). time ≤ greatest_time it.rows) coming
  still_to_come time [] sooner rise = tt
  still_to_come time (round ∷ rest) sooner rise =
      let below = sooner round rest refl in
      let here : time ≤ greatest_time round.rows = omega arith in (
        here,
        each_map (λ (it : Round). greatest_time round.rows ≤ greatest_time it.rows) (λ (it : Round). time ≤ greatest_time it.rows)
            (λ it happened. omega (arith, here, happened)) rest rise.0,
      )

  flows_ends : (old : Moment) (end : DueEnd) → reading.end_due old.past.history old.times ≡ Some end
      → ((round : Round) (rest : List Round) → old.coming ≡ round ∷ rest → end.time < greatest_time round.rows)
      → ((due : DueCommit) → first_due old.crew ≡ Some due → end.time ≤ due.attempt.due)
      → Flows reading Ok old → Flows reading Ok (ending settings reading old end)
  flows_ends old end first sooner no_sooner flows =
      let time : ℕ = end.time in
      let not_past : flows.now ≤ time = flows.ends end first in
      let happened : Each (λ (timed : Timed). timed.time ≤ time) old.times =
      each_map (λ (timed : Timed). timed.time ≤ flows.now) (λ (timed : Timed). timed.time ≤ time)
      (λ timed happened. omega (arith, happened, not_past)) old.times flows.happened in
      let next = flow.ends old end flows.now not_past flows.ok first happened (first_alone end first) in
      record {
        now = time;
        happened = happened;
        on_the_way = idle_each settings reading (IsDueFrom time) (IsDueFrom time) (past_ended reading old.past end old.coming) time (λ number request. omega arith)
            (λ number attempt due. due) old.crew (due_after old time no_sooner);
        to_come = still_to_come time old.coming sooner flows.rounds;
        rounds = flows.rounds;
        rise = flows.rise;
        ends = next.1;
        ok = next.0;
      } where
        first_alone : (end : DueEnd) → reading.end_due old.past.history old.times ≡ Some end → EndsFrom reading end.time old
        first_alone end is other found =
            let same : end ≡ other = same_Some end other (sym is ∙ found) in
            subst (λ (it : DueEnd). end.time ≤ it.time) same (let here : end.time ≤ end.time = omega arith in here)

  flows_commits : (old : Moment) (due : DueCommit) → EndsFrom reading due.attempt.due old → first_due old.crew ≡ Some due
      → ((round : Round) (rest : List Round) → old.coming ≡ round ∷ rest → due.attempt.due < greatest_time round.rows)
      → Flows reading Ok old → Flows reading Ok (committing settings reading old due.by due.attempt)
  flows_commits old due no_end first sooner flows =
      let time : ℕ = due.attempt.due in
      let timed : Timed = record { place = length old.past.history; scheduler = due.by; sync = due.attempt.sync; time = due.attempt.due } in
      let not_past : flows.now ≤ time = due_holds settings reading (IsDueFrom flows.now) old.crew due flows.on_the_way first in
      let happened : Each (λ (it : Timed). it.time ≤ time) old.times =
      each_map (λ (it : Timed). it.time ≤ flows.now) (λ (it : Timed). it.time ≤ time) (λ it happened. omega (arith, happened, not_past)) old.times flows.happened in
      let next = flow.commits old due flows.now not_past flows.ok no_end in
      record {
        now = time;
        happened = each_append (λ (it : Timed). it.time ≤ time) old.times (timed ∷ []) happened (omega arith, tt);
        on_the_way = committing_each settings reading (IsDueFrom time) (IsDueFrom time) old due.by due.attempt (λ number request. omega arith)
            (λ number attempt differs due. due) (first_is_first old.crew due first);
        to_come = still_to_come time old.coming sooner flows.rounds;
        rounds = flows.rounds;
        rise = by_place_push (λ (before : List Timed) (it : Timed). All (λ (earlier : Timed). earlier.time ≤ it.time) before) old.times timed flows.rise
            (All-from_recursion (λ (earlier : Timed). earlier.time ≤ time) old.times happened);
        ends = next.1;
        ok = next.0;
      }

  flows_next : (old new : Moment) → Flows reading Ok old → Happens settings reading old new → Flows reading Ok new
  flows_next old new flows (inl opens) =
      subst (Flows reading Ok) (sym opens.happens) (flows_opens old opens.round opens.rest opens.first opens.no_end opens.no_sooner flows)
  flows_next old new flows (inr (inl ends)) =
      subst (Flows reading Ok) (sym ends.happens) (flows_ends old ends.end ends.first ends.sooner ends.no_sooner flows)
  flows_next old new flows (inr (inr commits)) =
      subst (Flows reading Ok) (sym commits.happens)
      (flows_commits old commits.due (λ end found. let before = commits.before_ends end found in omega (arith, before)) commits.first commits.sooner flows)

  pub flows : (steps : ℕ) → Flows reading Ok (after settings reading steps)
  flows = holds_after settings reading (Flows reading Ok) flows_first flows_next

  -- the times never fall
  pub run_times_rise : (history : List Entry) (times : List Timed) → FreeRun settings reading history times → TimesRise times
  run_times_rise history times run = subst TimesRise (sym run.is_times) (flows run.steps).rise

-- so it is where tasks end by rows
pub rows_flow : (settings : Settings) (trace : TraceTables) → EndsInFlow settings (by_rows trace) (λ now moment. Unit {0})
rows_flow settings trace = record {
  none = λ end is. absurd (cc);
  first = tt;
  opens = λ old round rest now first less ok from. (tt, λ end is. absurd (cc));
  ends = λ old end now less ok is happened from. absurd (cc);
  commits = λ old due now less ok from. (tt, λ end is. absurd (cc));
}

pub free_times_rise : (settings : Settings) (trace : TraceTables) → 0 < settings.window → (history : List Entry) (times : List Timed)
    → Free settings trace history times → TimesRise times
free_times_rise settings trace some = run_times_rise settings (by_rows trace) (λ now moment. Unit {0}) (rows_flow settings trace) some
