-- Each commit of a run by the free clock was planned on what its scheduler had seen, and comes when that has decided.
use Rattle.std.proofs.Common.{◌≡◌, ◌<◌, ◌+◌, ℕ, List, [], ◌∷◌, ◌++◌, Option, Some, None, length, take, refl, sym, ap, subst, ◌∙◌, inl, inr, arith, length-append}
use Rattle.std.specs.Prelude.{slice_get}
use Rattle.std.specs.List.{AllByRecursion as Each}
use Rattle.std.proofs.lemmas.List.{take-append-le}
use Rattle.std.proofs.Math.Seq.{take-length}
use Rattle.omega_model.proofs.Lists.{each_append, each_both, each_filter}
use Rattle.omega_model.proofs.Soundness.{states_sound}
use Rattle.omega_model.specs.Draws.{drawn_start}
use Rattle.omega_model.specs.Legal.{Legal}
use Rattle.omega_model.specs.Policy.{policy_of}
use Rattle.omega_model.specs.State.{state}
use Rattle.omega_model.specs.declared.rows.TraceTables.{TraceTables}
use Rattle.omega_laws.proofs.Places.{get_seam}
use Rattle.omega_laws.proofs.Suited.{plan_suited}
use Rattle.omega_laws.specs.Constraints.{SuitsItsWish}
use Rattle.omega_model.specs.Work.{commits_of, planned}
use Rattle.omega_model.specs.declared.claims.Claim.{Claim}
use Rattle.omega_model.specs.declared.entries.Entry.{Entry}
use Rattle.omega_model.specs.declared.entries.Entry.TheVariants.{End}
use Rattle.omega_model.specs.declared.settings.Settings.{Settings}
use Rattle.omega_model.specs.declared.wishes.Wish.{Wish}
use Rattle.omega_laws.specs.VirtualTime.{Timed, decision}
use Rattle.omega_free_laws.specs.CrewLaws.{IsInOrder, IsOwnRequest}
use Rattle.omega_free_laws.specs.Free.{FreeRun, after}
use Rattle.omega_free_laws.specs.FreeLaws.{EachDecided, IsDecidedCommit, IsWishOf}
use Rattle.omega_free_laws.specs.FreeSteps.{DueCommit, Moment, committing, due_entry}
use Rattle.omega_free_laws.specs.NextStep.{EachDeciding, Happens, WhenDeciding}
use Rattle.omega_free_laws.specs.Passes.{Attempt, Scheduler, wanted_at}
use Rattle.omega_free_laws.specs.Readings.{Reading}
use Rattle.omega_free_laws.specs.StillWanted.{is_still_wanted, wanted_claims, wanted_wishes}
use Rattle.omega_free_laws.proofs.CrewLaws.{crew_in_order}
use Rattle.omega_free_laws.proofs.OneStep.{due_holds, holds_at}
use Rattle.omega_free_laws.proofs.Running.{AreWithin, get_before, within_push}
use Rattle.omega_free_laws.proofs.Seen.{seen_so_far, stays_ended, stays_opened}

-- the commits with these times stand in the history, and each was decided so
abbrev DecidedSoFar : Settings → TraceTables → List Timed → List Entry → Type 0
DecidedSoFar settings trace times history = AreWithin history times × EachDecided settings trace history times

-- so it stays with one more entry
decided_same : (settings : Settings) (trace : TraceTables) (history : List Entry) (entry : Entry) (timed : Timed) → timed.place < length history
    → IsDecidedCommit settings trace (take timed.place history) timed (slice_get history timed.place)
    → IsDecidedCommit settings trace (take timed.place (history ++ entry ∷ [])) timed (slice_get (history ++ entry ∷ []) timed.place)
decided_same settings trace history entry timed less is =
    let before : take timed.place (history ++ entry ∷ []) ≡ take timed.place history = take-append-le timed.place history (entry ∷ []) (omega (arith, less)) in
    let here : slice_get (history ++ entry ∷ []) timed.place ≡ slice_get history timed.place = get_before history (entry ∷ []) timed.place less in
    subst (λ (it : Option Entry). IsDecidedCommit settings trace (take timed.place (history ++ entry ∷ [])) timed it) (sym here)
    (subst (λ (first : List Entry). IsDecidedCommit settings trace first timed (slice_get history timed.place)) (sym before) is)

decided_push : (settings : Settings) (trace : TraceTables) (times : List Timed) (history : List Entry) (entry : Entry) → DecidedSoFar settings trace times history
    → DecidedSoFar settings trace times (history ++ entry ∷ [])
decided_push settings trace times history entry so_far = (
  within_push history times entry so_far.0,
  each_both (λ (timed : Timed). timed.place < length history)
      (λ (timed : Timed). IsDecidedCommit settings trace (take timed.place history) timed (slice_get history timed.place))
      (λ (timed : Timed). IsDecidedCommit settings trace (take timed.place (history ++ entry ∷ [])) timed (slice_get (history ++ entry ∷ []) timed.place))
      (λ timed less is. decided_same settings trace history entry timed less is) times so_far.0 so_far.1,
)

-- what an attempt under way was planned for, and when it will be decided
record IsPlanned (settings : Settings) (trace : TraceTables) (history : List Entry) (number : ℕ) (attempt : Attempt) : Type 0 where
  wishes : List Wish
  wished : Each (IsWishOf trace) wishes
  claims : attempt.claims ≡ planned settings number (commits_of number history) (take attempt.seen history) wishes
  due : attempt.due ≡ attempt.sync + decision settings number (length wishes)

each_planned : (settings : Settings) (reading : Reading) (history : List Entry) (crew : List Scheduler) → Each (IsInOrder settings reading history) crew
    → EachDeciding (IsPlanned settings reading.trace history) crew
each_planned settings reading history [] each = tt
each_planned settings reading history (scheduler ∷ crew) each = (by_attempt scheduler.attempt refl, each_planned settings reading history crew each.1) where
  by_attempt : (attempt : Option Attempt) → scheduler.attempt ≡ attempt → WhenDeciding (IsPlanned settings reading.trace history) scheduler.number attempt
  by_attempt None at = tt
  by_attempt (Some attempt) at =
      let plans = each.0.plans attempt at in
      let own : Each (IsOwnRequest settings reading.trace scheduler.number) (plans.request ∷ plans.rest) =
      subst (Each (IsOwnRequest settings reading.trace scheduler.number)) plans.first each.0.own in
      record {
        wishes = wanted_wishes plans.asked plans.request;
        wished = each_filter (IsWishOf reading.trace) (λ (wish : Wish). is_still_wanted plans.asked wish.key) plans.request.wishes own.0.wished;
        claims = plans.claims;
        due = plans.decided;
      }

module _ (settings : Settings) (reading : Reading) where
  decided_commits : (old : Moment) (due : DueCommit) → Legal old.past.history → IsPlanned settings reading.trace old.past.history due.by due.attempt
      → DecidedSoFar settings reading.trace old.times old.past.history
      → DecidedSoFar settings reading.trace (committing settings reading old due.by due.attempt).times (committing settings reading old due.by due.attempt).past.history
  decided_commits old due legal plan so_far =
      let history : List Entry = old.past.history in
      let entry : Entry = due_entry settings reading old.past due.by due.attempt in
      let timed : Timed = record { place = length history; scheduler = due.by; sync = due.attempt.sync; time = due.attempt.due } in
      let seen : List Entry = take due.attempt.seen history in
      let suited : Each (SuitsItsWish (state seen).machines plan.wishes) (planned settings due.by (commits_of due.by history) seen plan.wishes) =
      plan_suited (state seen) plan.wishes (drawn_start settings due.by (commits_of due.by history) (length (state seen).machines)) (policy_of settings due.by)
      (states_sound history legal due.attempt.seen).numbers in
      let before = decided_push settings reading.trace old.times history entry so_far in
      let more = length-append history (entry ∷ []) in
      let first : take (length history) (history ++ entry ∷ []) ≡ history =
      take-append-le (length history) history (entry ∷ []) (omega arith) ∙ take-length history in
      let new : IsDecidedCommit settings reading.trace (take (length history) (history ++ entry ∷ [])) timed (slice_get (history ++ entry ∷ []) (length history)) =
      subst (λ (it : Option Entry). IsDecidedCommit settings reading.trace (take (length history) (history ++ entry ∷ [])) timed it) (sym (get_seam history entry []))
      (subst (λ (front : List Entry). IsDecidedCommit settings reading.trace front timed (Some entry)) (sym first) (
        refl,
        record {
          wishes = plan.wishes;
          wished = plan.wished;
          suited = each_filter (SuitsItsWish (state seen).machines plan.wishes)
              (λ (claim : Claim). is_still_wanted (wanted_at reading old.past) claim.key) due.attempt.claims
              (subst (Each (SuitsItsWish (state seen).machines plan.wishes)) (sym plan.claims) suited);
          asked = wanted_at reading old.past;
          claims = ap (λ (claims : List Claim). wanted_claims (wanted_at reading old.past) claims) plan.claims;
          time = plan.due;
        },
      )) in (
        each_append (λ (it : Timed). it.place < length (history ++ entry ∷ [])) old.times (timed ∷ []) before.0 (omega (arith, more), tt),
        each_append (λ (it : Timed). IsDecidedCommit settings reading.trace (take it.place (history ++ entry ∷ [])) it (slice_get (history ++ entry ∷ []) it.place))
            old.times (timed ∷ []) before.1 (new, tt),
      )

  decided_next : (steps : ℕ) (new : Moment) → DecidedSoFar settings reading.trace (after settings reading steps).times (after settings reading steps).past.history
      → Happens settings reading (after settings reading steps) new → DecidedSoFar settings reading.trace new.times new.past.history
  decided_next steps new so_far (inl opens) =
      let old : Moment = after settings reading steps in
      subst (λ (it : Moment). DecidedSoFar settings reading.trace it.times it.past.history) (sym opens.happens)
      (stays_opened (DecidedSoFar settings reading.trace old.times) (λ before entry none so_far. decided_push settings reading.trace old.times before entry so_far)
      reading.trace old.past.rows old.past.history (reading.heeded opens.round) so_far)
  decided_next steps new so_far (inr (inl ends)) =
      let old : Moment = after settings reading steps in
      subst (λ (it : Moment). DecidedSoFar settings reading.trace it.times it.past.history) (sym ends.happens)
      (stays_ended (DecidedSoFar settings reading.trace old.times) (λ before key machine so_far. decided_push settings reading.trace old.times before (End key machine) so_far)
      reading old.past.rows old.past.history ends.end so_far)
  decided_next steps new so_far (inr (inr commits)) =
      let old : Moment = after settings reading steps in
      subst (λ (it : Moment). DecidedSoFar settings reading.trace it.times it.past.history) (sym commits.happens)
      (decided_commits old commits.due (seen_so_far settings reading steps).legal
      (due_holds settings reading (IsPlanned settings reading.trace old.past.history) old.crew commits.due
      (each_planned settings reading old.past.history old.crew (crew_in_order settings reading steps).each) commits.first) so_far)

  decided_so_far : (steps : ℕ) → DecidedSoFar settings reading.trace (after settings reading steps).times (after settings reading steps).past.history
  decided_so_far =
      holds_at settings reading (λ (it : Moment). DecidedSoFar settings reading.trace it.times it.past.history) (tt, tt)
      (λ steps new so_far happens same. decided_next steps new so_far happens)

  pub free_decided : (history : List Entry) (times : List Timed) → FreeRun settings reading history times → EachDecided settings reading.trace history times
  free_decided history times free =
      subst (λ (h : List Entry). EachDecided settings reading.trace h times) (sym free.is_history)
      (subst (EachDecided settings reading.trace (after settings reading free.steps).past.history) (sym free.is_times) (decided_so_far free.steps).1)
