-- A desk once its scheduler has synced.
use Rattle.std.proofs.Common.{◌≡◌, ◌≤◌, ◌<◌, ℕ, suc, Bool, true, false, List, [], ◌∷◌, length, refl, sym, ap, ap₂, ◌∙◌, inl, inr, arith, is_some}
use Rattle.std.specs.Prelude.{nat_lt, ◌&&◌, ◌==◌, ◌⊎◌, slice_get}
use Rattle.std.proofs.lemmas.Bool.{lt-leb, le-leb, ne_eqb}
use Rattle.omega_feed.specs.Asked.{Asked, asked_after}
use Rattle.omega_model.proofs.Lists.{by_answer}
use Rattle.omega_model.specs.Cell.{Cell}
use Rattle.omega_model.specs.OpenRequests.{open_requests}
use Rattle.omega_model.specs.State.{state}
use Rattle.omega_model.specs.Wanted.{WantedTask}
use Rattle.omega_model.specs.Work.{fresh, is_empty}
use Rattle.omega_model.specs.declared.rows.Row.{Row}
use Rattle.omega_model.specs.declared.rows.TraceTables.{TraceTables}
use Rattle.omega_model.specs.declared.settings.Settings.{Settings}
use Rattle.omega_model.specs.declared.wishes.Request.{Request}
use Rattle.omega_desk.specs.Desks.{DeskState, IsSameDesk, left_at, still_tried}
use Rattle.omega_free_laws.specs.Passes.{Past, Scheduler, synced, wanted_at}
use Rattle.omega_free_laws.specs.Readings.{Reading}
use Rattle.omega_free_laws.specs.StillWanted.{without_unwanted}
use Rattle.omega_free.specs.PassDesks.{IsDeskNow, IsPassDesk, SyncsDesk, asked_at}
use Rattle.omega_free.proofs.DeskPasses.{desk_anew, desk_begins, desk_stays, desk_without_unwanted}

-- whether a list has an item
pub some_there : (left : List Request) → is_some (slice_get left 0) ≡ true → is_empty left ≡ false
some_there [] some = absurd (cc)
some_there (request ∷ left) some = eqb_suc (length left) where
  eqb_suc : (n : ℕ) → (suc n == 0) ≡ false
  eqb_suc n = ne_eqb (suc n) 0 (λ same. absurd (omega (arith, same)))

pub none_there : (left : List Request) → is_some (slice_get left 0) ≡ false → left ≡ []
none_there [] none = refl
none_there (request ∷ left) none = absurd (cc)

and_left : (a b : Bool) → a ≡ false → (a && b) ≡ false
and_left a b is = rw is refl

and_right : (a b : Bool) → b ≡ false → (a && b) ≡ false
and_right a b is = by_answer a (λ t. rw (t, is) refl) (λ f. rw f refl)

and_both : (a b : Bool) → a ≡ true → b ≡ true → (a && b) ≡ true
and_both a b one other = rw (one, other) refl

begun_stays : (settings : Settings) (reading : Reading) (past : Past) (now : ℕ) (scheduler : Scheduler)
    → (is_empty (without_unwanted (wanted_at reading past) scheduler.left scheduler.left.requests).requests && nat_lt scheduler.begun past.triggers) ≡ false
    → (synced settings reading past now scheduler).begun ≡ scheduler.begun
begun_stays settings reading past now scheduler stays = rw stays refl

begun_anew : (settings : Settings) (reading : Reading) (past : Past) (now : ℕ) (scheduler : Scheduler)
    → (is_empty (without_unwanted (wanted_at reading past) scheduler.left scheduler.left.requests).requests && nat_lt scheduler.begun past.triggers) ≡ true
    → (synced settings reading past now scheduler).begun ≡ past.triggers
begun_anew settings reading past now scheduler anew = rw anew refl

module _ (asked : Asked) (cell : Cell) (triggers begun : ℕ) (old mid : DeskState)
    (same : IsSameDesk old mid) (attempts : mid.attempts ≡ old.attempts) (left : left_at mid ≡ without_unwanted asked.tasks (left_at old) old.requests) where
  -- the desk without the requests of which nothing is wanted
  dropped : (settings : Settings) (reading : Reading) (past : Past) (scheduler : Scheduler) → asked ≡ asked_at settings reading past
      → IsDeskNow settings reading.trace past.history scheduler old
      → IsPassDesk settings reading.trace past.history scheduler.number (without_unwanted (wanted_at reading past) scheduler.left scheduler.left.requests) mid
  dropped settings reading past scheduler asks is =
      let tasks : asked.tasks ≡ wanted_at reading past = ap (λ (it : Asked). it.tasks) asks in
      desk_without_unwanted settings reading.trace past.history (wanted_at reading past) scheduler old mid same attempts
      (left ∙ ap (λ (some : List WantedTask). without_unwanted some (left_at old) old.requests) tasks) is

  -- something remains, or there was no cause for a new pass since
  pub syncs_on : (is_empty mid.requests ≡ false) ⊎ (triggers ≤ begun) → SyncsDesk asked cell triggers old begun mid begun
  syncs_on either settings reading past now scheduler asks cell_is triggers_are begun_is is =
      let there = dropped settings reading past scheduler asks is in
      let rests : List Request = (without_unwanted (wanted_at reading past) scheduler.left scheduler.left.requests).requests in
      let stays : (is_empty rests && nat_lt scheduler.begun past.triggers) ≡ false = elim either [
        | inl some ↦ and_left (is_empty rests) (nat_lt scheduler.begun past.triggers) (ap is_empty (sym there.requests) ∙ some)
        | inr late ↦ and_right (is_empty rests) (nat_lt scheduler.begun past.triggers) (lt-leb (suc scheduler.begun) past.triggers (omega (arith, late, triggers_are, begun_is)))
      ] in
      (desk_stays settings reading past now scheduler mid stays there, sym begun_is ∙ sym (begun_stays settings reading past now scheduler stays))

  -- else a pass begins anew
  pub syncs_anew : (after : DeskState) (all : List Request) → mid.requests ≡ [] → begun < triggers
      → ((settings : Settings) (trace : TraceTables) (rows : List Row) → asked ≡ asked_after settings trace rows
      → all ≡ open_requests settings trace rows cell mid.scheduler)
      → IsSameDesk mid after → after.attempts ≡ mid.attempts
      → left_at after ≡ fresh (left_at mid).failing (still_tried mid.settings (left_at mid).failing all)
      → SyncsDesk asked cell triggers old begun after triggers
  syncs_anew after all none more are then_same then_attempts begins settings reading past now scheduler asks cell_is triggers_are begun_is is =
      let there = dropped settings reading past scheduler asks is in
      let rests : List Request = (without_unwanted (wanted_at reading past) scheduler.left scheduler.left.requests).requests in
      let anew : (is_empty rests && nat_lt scheduler.begun past.triggers) ≡ true =
      and_both (is_empty rests) (nat_lt scheduler.begun past.triggers) (ap is_empty (sym there.requests) ∙ ap is_empty none)
      (le-leb (suc scheduler.begun) past.triggers (omega (arith, more, triggers_are, begun_is))) in
      let open_now : all ≡ open_requests settings reading.trace (reading.counted past.rows past.history) (state past.history) scheduler.number =
      are settings reading.trace (reading.counted past.rows past.history) asks ∙ ap₂ (λ (c : Cell) (n : ℕ). open_requests settings reading.trace (reading.counted past.rows past.history) c n) cell_is there.number_is in (
        desk_anew settings reading past now scheduler after anew
            (desk_begins settings reading past scheduler.number (without_unwanted (wanted_at reading past) scheduler.left scheduler.left.requests) mid after then_same then_attempts
            (begins ∙ ap (λ (some : List Request). fresh (left_at mid).failing (still_tried mid.settings (left_at mid).failing some)) open_now) there),
        sym triggers_are ∙ sym (begun_anew settings reading past now scheduler anew),
      )
