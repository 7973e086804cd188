-- What a world keeps from step to step and from round to round.
use Rattle.std.proofs.Common.{◌≡◌, ◌≢◌, ◌≤◌, ◌<◌, ℕ, suc, List, [], ◌∷◌, ◌++◌, length, take, Some, None, refl, sym, ap, subst, arith, ◌∙◌, inl, inr, length-append}
use Rattle.std.specs.Prelude.{slice_get}
use Rattle.std.proofs.lemmas.Bool.{ne_eqb}
use Rattle.std.proofs.lemmas.Bool.Decides.{eqb_tells}
use Rattle.omega_model.specs.Feed.{rounds}
use Rattle.omega_model.specs.Lawful.{Lawful, RoundSoFar, Rounds, Underway, opened, rows_of}
use Rattle.omega_model.specs.Policy.{schedulers}
use Rattle.omega_model.specs.State.{reply_of}
use Rattle.omega_model.specs.Stepping.{BeginsRound, EachIsBetween, IsBetween, IsInRound, rows_end}
use Rattle.omega_model.specs.Work.{HasLeft, standing_of}
use Rattle.omega_model.specs.World.{Commits, NobodySynced, StepAnswer, Syncs, World}
use Rattle.omega_model.specs.World.StepAnswer.{Idle, Synced, Committed}
use Rattle.omega_model.specs.declared.claims.Judgement.{Judgement}
use Rattle.omega_model.specs.declared.claims.Txn.{Txn}
use Rattle.omega_model.specs.declared.entries.Entry.{Entry}
use Rattle.omega_model.specs.declared.entries.Entry.TheVariants.{Commit}
use Rattle.omega_model.specs.declared.rows.Row.{Row}
use Rattle.omega_model.specs.declared.rows.Round.{Round}
use Rattle.omega_model.specs.declared.rows.TraceTables.{TraceTables}
use Rattle.omega_model.specs.declared.settings.Settings.{Settings}
use Rattle.omega_model.specs.declared.wishes.Request.{Request}
use Rattle.omega_model.proofs.RoundsInOrder.{rounds_push}
use Rattle.omega_laws.specs.InRound.{RoundIsOver, StepsInRound, rows_before, rows_now}
use Rattle.omega_laws.specs.NextCommit.{left_of}
use Rattle.omega_laws.proofs.Agreeing.{agrees_first}
use Rattle.omega_laws.proofs.LastCommits.{after_last-other, after_last-within}
use Rattle.omega_laws.proofs.Places.{front_within, take_last, take_next}
use Rattle.omega_laws.proofs.RoundGrows.{round_ends, round_first, round_push}
use Rattle.omega_rounds.specs.Keeping.{IsNew}

-- a copy stays within its bounds after a commit of another scheduler
between_grown : (opened_at : ℕ) (history : List Entry) (by seen_then : ℕ) (txn : Txn) (reply : List Judgement) (scheduler seen : ℕ) → by ≢ scheduler
    → IsBetween opened_at history scheduler seen
    → IsBetween opened_at (history ++ Commit by seen_then txn reply ∷ []) scheduler seen
between_grown opened_at history by seen_then txn reply scheduler seen apart between = record {
  rows = between.rows;
  own = subst (λ (n : ℕ). n ≤ seen) (sym (after_last-other history by seen_then txn reply scheduler (ne_eqb by scheduler apart))) between.own;
  there = rw (length-append history (Commit by seen_then txn reply ∷ [])) (let there : seen ≤ length history = between.there in omega arith);
}

-- where nobody has synced there is nothing to bound
nobody_between : (opened_at : ℕ) (world : World) → NobodySynced world → EachIsBetween opened_at world
nobody_between opened_at world nobody scheduler seen is =
    let clash : None ≡ Some seen = sym (nobody scheduler) ∙ is in absurd (cc)

module _ (settings : Settings) (trace : TraceTables) where
  -- the run with other entries after the rows of its last round
  abbrev with_history : (history other : List Entry) (underway : Underway settings trace history)
      → RoundSoFar settings trace (rows_before settings trace history underway) underway.start underway.round other
      → Underway settings trace other
  with_history history other underway begun = record {
    done = underway.done;
    round = underway.round;
    next = underway.next;
    start = underway.start;
    whole = underway.whole;
    begun = begun;
  }

  -- the round's rows stand within the history
  pub rows_within : (history : List Entry) (underway : Underway settings trace history) → rows_end settings trace history underway ≤ length history
  rows_within history underway =
      front_within history (opened trace (rows_before settings trace history underway) underway.start underway.round).history underway.begun.begins

  -- a scheduler that does nothing
  idle_step : (old new : World) (in_round : IsInRound settings trace old)
      → new.history ≡ old.history → ((scheduler : ℕ) → new.synced scheduler ≡ old.synced scheduler)
      → IsInRound settings trace new
  idle_step old new in_round same_history same_synced =
      let underway = in_round.underway in
      record {
        underway = with_history old.history new.history underway
            (subst (λ (h : List Entry). RoundSoFar settings trace (rows_before settings trace old.history underway) underway.start underway.round h)
            (sym same_history) underway.begun);
        synced = λ other seen is.
            subst (λ (h : List Entry). IsBetween (rows_end settings trace old.history underway) h other seen) (sym same_history)
            (in_round.synced other seen (sym (same_synced other) ∙ is));
      }

  -- a scheduler that takes over the whole history
  sync_step : (old new : World) (scheduler : ℕ) (left : List Request) (in_round : IsInRound settings trace old)
      → Syncs old scheduler new left
      → IsInRound settings trace new
  sync_step old new scheduler left in_round did =
      let underway = in_round.underway in
      let now : IsBetween (rows_end settings trace old.history underway) old.history scheduler (length old.history) = record {
        rows = rows_within old.history underway;
        own = after_last-within scheduler old.history;
        there = omega arith;
      } in
      record {
        underway = with_history old.history new.history underway
            (subst (λ (h : List Entry). RoundSoFar settings trace (rows_before settings trace old.history underway) underway.start underway.round h)
            (sym did.same_history) underway.begun);
        synced = λ other seen is.
            subst (λ (h : List Entry). IsBetween (rows_end settings trace old.history underway) h other seen) (sym did.same_history)
            (elim (eqb_tells other scheduler) [
              | inl same ↦
                  let both : Some (length old.history) ≡ Some seen = sym did.seen_all ∙ ap new.synced (sym same.1) ∙ is in
                  let all : length old.history ≡ seen = cc in
                  subst (λ (n : ℕ). IsBetween (rows_end settings trace old.history underway) old.history other n) all
                  (subst (λ (s : ℕ). IsBetween (rows_end settings trace old.history underway) old.history s (length old.history)) (sym same.1) now)
              | inr apart ↦ in_round.synced other seen (sym (did.others other apart.1) ∙ is)
            ]);
      }

  -- a scheduler that commits its plan for the first of its requests
  commit_step : (old new : World) (scheduler : ℕ) (left : List Request) (place : ℕ) (in_round : IsInRound settings trace old)
      → scheduler < schedulers settings
      → HasLeft settings trace (rows_now settings trace old.history in_round.underway) (rows_end settings trace old.history in_round.underway) scheduler old.history left
      → Commits settings old scheduler new left place
      → IsInRound settings trace new
  commit_step old new scheduler left place in_round known has did =
      let underway = in_round.underway in
      let history : List Entry = old.history in
      let opened_at : ℕ = rows_end settings trace history underway in
      let between : IsBetween opened_at history scheduler did.seen = in_round.synced scheduler did.seen did.synced_before in
      let remains : left_of settings trace (rows_now settings trace history underway) opened_at history scheduler ≡ Some (did.request ∷ did.rest) =
      has.remains ∙ ap (λ (l : List Request). Some l) did.has_work in
      let begun = round_push settings trace (rows_before settings trace history underway) underway.start underway.round history scheduler did.seen did.txn
      (reply_of history did.seen did.txn) underway.begun (rows_within history underway)
      (record { known = known; there = between.there; rows = between.rows; own = between.own; answered = refl })
      (agrees_first settings scheduler history did.seen did.txn
      (standing_of settings trace (rows_now settings trace history underway) opened_at scheduler history)
      did.request did.rest remains did.agrees) in
      record {
        underway = with_history history new.history underway
            (subst (λ (h : List Entry). RoundSoFar settings trace (rows_before settings trace history underway) underway.start underway.round h)
            (sym did.appended) begun);
        synced = λ other seen is. elim (eqb_tells other scheduler) [
          | inl same ↦ let clash : None ≡ Some seen = sym did.spent ∙ ap new.synced (sym same.1) ∙ is in absurd (cc)
          | inr apart ↦
              subst (λ (h : List Entry). IsBetween opened_at h other seen) (sym did.appended)
              (between_grown opened_at history scheduler did.seen did.txn (reply_of history did.seen did.txn) other seen (λ same. apart.1 (sym same))
              (in_round.synced other seen (sym (did.others other apart.1) ∙ is)))
        ];
      }

  -- a step of a known scheduler keeps a world in its round, with each copy within its bounds
  pub world_steps : (old new : World) (scheduler : ℕ) (answer : StepAnswer) (in_round : IsInRound settings trace old)
      → scheduler < schedulers settings → StepsInRound settings trace old in_round scheduler new answer
      → IsInRound settings trace new
  world_steps old new scheduler Idle in_round known step = idle_step old new in_round step.steps.same_history step.steps.same_synced
  world_steps old new scheduler Synced in_round known step = sync_step old new scheduler step.left in_round step.steps
  world_steps old new scheduler (Committed place) in_round known step = commit_step old new scheduler step.left place in_round known step.is_left step.steps

  -- the first round begins
  pub world_begins : (old new : World) (round : Round) → IsNew old
      → slice_get (rounds trace settings.window) 0 ≡ Some round → BeginsRound trace [] round old new
      → IsInRound settings trace new
  world_begins old new round is_new next begins = record {
    underway = record {
      done = 0;
      round = round;
      next = next;
      start = [];
      whole = refl;
      begun = subst (λ (h : List Entry). RoundSoFar settings trace [] [] round h)
          (sym (begins.entries ∙ ap (λ (h : List Entry). (opened trace [] h round).history) is_new.empty))
          (round_first settings trace [] [] round);
    };
    synced = nobody_between (length (opened trace [] [] round).history) new begins.nobody;
  }

  -- the rounds up to the present one are whole once nobody has work
  whole_now : (world : World) (in_round : IsInRound settings trace world) → RoundIsOver settings trace world in_round
      → Rounds settings trace [] [] (take (suc in_round.underway.done) (rounds trace settings.window)) world.history
  whole_now world in_round over =
      let underway = in_round.underway in
      subst (λ (some : List Round). Rounds settings trace [] [] some world.history) (sym (take_next (rounds trace settings.window) underway.done underway.round underway.next))
      (rounds_push settings trace [] [] (take underway.done (rounds trace settings.window)) underway.round underway.start world.history underway.whole
      (round_ends settings trace (rows_before settings trace world.history underway) underway.start underway.round world.history underway.begun over))

  -- then the next round begins
  pub world_goes_on : (old new : World) (round : Round) (in_round : IsInRound settings trace old) → RoundIsOver settings trace old in_round
      → slice_get (rounds trace settings.window) (suc in_round.underway.done) ≡ Some round
      → BeginsRound trace (rows_of (take (suc in_round.underway.done) (rounds trace settings.window))) round old new
      → IsInRound settings trace new
  world_goes_on old new round in_round over next begins =
      let rows : List Row = rows_of (take (suc in_round.underway.done) (rounds trace settings.window)) in
      record {
        underway = record {
          done = suc in_round.underway.done;
          round = round;
          next = next;
          start = old.history;
          whole = whole_now old in_round over;
          begun = subst (λ (h : List Entry). RoundSoFar settings trace rows old.history round h) (sym begins.entries)
              (round_first settings trace rows old.history round);
        };
        synced = nobody_between (length (opened trace rows old.history round).history) new begins.nobody;
      }

  -- or there is none, and the history is lawful
  pub world_ends : (world : World) (in_round : IsInRound settings trace world) → RoundIsOver settings trace world in_round
      → slice_get (rounds trace settings.window) (suc in_round.underway.done) ≡ None
      → Lawful settings trace world.history
  world_ends world in_round over last =
      subst (λ (some : List Round). Rounds settings trace [] [] some world.history) (take_last (rounds trace settings.window) (suc in_round.underway.done) last)
      (whole_now world in_round over)

  -- a step leads to no other round
  pub steps_done : (old new : World) (scheduler : ℕ) (answer : StepAnswer) (in_round : IsInRound settings trace old)
      (known : scheduler < schedulers settings) (step : StepsInRound settings trace old in_round scheduler new answer)
      → (world_steps old new scheduler answer in_round known step).underway.done ≡ in_round.underway.done
  unfolding world_steps idle_step sync_step commit_step
  steps_done old new scheduler Idle in_round known step = refl
  steps_done old new scheduler Synced in_round known step = refl
  steps_done old new scheduler (Committed place) in_round known step = refl

  -- whose rows end where they ended
  pub steps_rows : (old new : World) (scheduler : ℕ) (answer : StepAnswer) (in_round : IsInRound settings trace old)
      (known : scheduler < schedulers settings) (step : StepsInRound settings trace old in_round scheduler new answer)
      → rows_end settings trace new.history (world_steps old new scheduler answer in_round known step).underway
      ≡ rows_end settings trace old.history in_round.underway
  unfolding world_steps idle_step sync_step commit_step
  steps_rows old new scheduler Idle in_round known step = refl
  steps_rows old new scheduler Synced in_round known step = refl
  steps_rows old new scheduler (Committed place) in_round known step = refl

  -- the round that begins first is the first
  pub begins_done : (old new : World) (round : Round) (is_new : IsNew old)
      (next : slice_get (rounds trace settings.window) 0 ≡ Some round) (begins : BeginsRound trace [] round old new)
      → (world_begins old new round is_new next begins).underway.done ≡ 0
  unfolding world_begins
  begins_done old new round is_new next begins = refl

  pub begins_rows : (old new : World) (round : Round) (is_new : IsNew old)
      (next : slice_get (rounds trace settings.window) 0 ≡ Some round) (begins : BeginsRound trace [] round old new)
      → rows_end settings trace new.history (world_begins old new round is_new next begins).underway ≡ length new.history
  unfolding world_begins
  begins_rows old new round is_new next begins =
      sym (ap (λ (h : List Entry). length h) (begins.entries ∙ ap (λ (h : List Entry). (opened trace [] h round).history) is_new.empty))

  -- the round that begins later is the next
  pub goes_done : (old new : World) (round : Round) (in_round : IsInRound settings trace old) (over : RoundIsOver settings trace old in_round)
      (next : slice_get (rounds trace settings.window) (suc in_round.underway.done) ≡ Some round)
      (begins : BeginsRound trace (rows_of (take (suc in_round.underway.done) (rounds trace settings.window))) round old new)
      → (world_goes_on old new round in_round over next begins).underway.done ≡ suc in_round.underway.done
  unfolding world_goes_on
  goes_done old new round in_round over next begins = refl

  pub goes_rows : (old new : World) (round : Round) (in_round : IsInRound settings trace old) (over : RoundIsOver settings trace old in_round)
      (next : slice_get (rounds trace settings.window) (suc in_round.underway.done) ≡ Some round)
      (begins : BeginsRound trace (rows_of (take (suc in_round.underway.done) (rounds trace settings.window))) round old new)
      → rows_end settings trace new.history (world_goes_on old new round in_round over next begins).underway ≡ length new.history
  unfolding world_goes_on
  goes_rows old new round in_round over next begins = sym (ap (λ (h : List Entry). length h) begins.entries)
