-- What one step does, and what holds after all steps.
use Rattle.std.proofs.Common.{◌≡◌, ◌≤◌, ◌<◌, ℕ, zero, suc, false, List, [], ◌∷◌, Option, Some, None, map, refl, sym, ap, subst, ◌∙◌, option_map, inl, inr, arith, unwrap_or}
use Rattle.std.specs.Prelude.{◌⊎◌, ◌&&◌, ◌==◌, nat_lt}
use Rattle.std.proofs.lemmas.Bool.Decides.{leb_tells}
use Rattle.std.proofs.lemmas.Option.{same_Some}
use Rattle.omega_model.proofs.Lists.{by_answer}
use Rattle.omega_model.specs.Work.{Standing, is_empty}
use Rattle.omega_model.specs.declared.entries.Entry.{Entry}
use Rattle.omega_model.specs.declared.rows.Round.{Round}
use Rattle.omega_free_laws.specs.Readings.{Reading}
use Rattle.omega_model.specs.declared.settings.Settings.{Settings}
use Rattle.omega_model.specs.declared.wishes.Request.{Request}
use Rattle.omega_laws.specs.Simulated.{greatest_time}
use Rattle.omega_free_laws.specs.Free.{after}
use Rattle.omega_free_laws.specs.FreeSteps.{DueCommit, Moment, after_commit, beginning, committing, due_entry, due_of, first_due, idle_scheduler, Next, ending, first_of, next, next_commit, next_ending, next_of, next_opening, opening, sooner, past_with, idle_synced}
use Rattle.omega_free_laws.specs.Lives.{DueEnd}
use Rattle.omega_free_laws.specs.NextStep.{EachDeciding, Happens, WhenDeciding}
use Rattle.omega_free_laws.specs.Passes.{Attempt, Scheduler, Past, attempt_on, first_attempt, going_on, wanted_at, new_pass, synced, synced_if_idle, with_entry}
use Rattle.omega_free_laws.specs.StillWanted.{without_unwanted}

-- of two things that may happen next the one that is due first, and why
pub first_cases : (a b : Option Next) (it : Next) → first_of a b ≡ Some it
    → ((a ≡ Some it) × ((other : Next) → b ≡ Some other → it.time ≤ other.time))
    ⊎ ((b ≡ Some it) × ((other : Next) → a ≡ Some other → it.time < other.time))
first_cases None b it is = inr (is, λ other no. absurd (cc))
first_cases (Some one) None it is = inl (is, λ other no. absurd (cc))
first_cases (Some one) (Some other) it is =
    elim (leb_tells (suc other.time) one.time) [
      | inl less ↦
          let same : Some other ≡ Some it = rw less.0 at is in
          inr (
            same,
            λ another more. subst (λ (x : Next). it.time < x.time) (same_Some one another more)
                (subst (λ (x : Next). x.time < one.time) (same_Some other it same) less.1),
          )
      | inr more ↦
          let same : Some one ≡ Some it = rw more.0 at is in
          let low : one.time ≤ other.time = let below = more.1 in omega (arith, below) in
          inl (
            same,
            λ another found. subst (λ (x : Next). it.time ≤ x.time) (same_Some other another found)
                (subst (λ (x : Next). x.time ≤ other.time) (same_Some one it same) low),
          )
    ]

-- where one of the two is due something is, no later
some_front : (one : Next) (b : Option Next) → (it : Next) × ((first_of (Some one) b ≡ Some it) × (it.time ≤ one.time))
some_front one None = (one, (refl, omega arith))
some_front one (Some other) =
    elim (leb_tells (suc other.time) one.time) [
      | inl less ↦ (other, (rw less.0 refl, let below = less.1 in omega (arith, below)))
      | inr more ↦ (one, (rw more.0 refl, omega arith))
    ]

some_back : (a : Option Next) (one : Next) → (it : Next) × ((first_of a (Some one) ≡ Some it) × (it.time ≤ one.time))
some_back None one = (one, (refl, omega arith))
some_back (Some other) one =
    elim (leb_tells (suc one.time) other.time) [
      | inl less ↦ (one, (rw less.0 refl, omega arith))
      | inr more ↦ (other, (rw more.0 refl, let below = more.1 in omega (arith, below)))
    ]

module _ (settings : Settings) (reading : Reading) where
  -- whichever is due first happens, unless it is over
  due_next : (old : Moment) (coming : List Round) (end : Option DueEnd) (due : Option DueCommit) (it : Next)
      → next_of settings reading old coming end due ≡ Some it
      → first_of (next_opening settings reading old coming)
      (first_of (next_ending settings reading old end) (next_commit settings reading old due)) ≡ Some it
  due_next old [] end None it is = absurd (cc)
  due_next old [] end (Some due) it is = is
  due_next old (round ∷ rest) end due it is = is

  record IsOpening (old : Moment) (coming : List Round) (it : Next) : Type 0 where
    round : Round
    rest : List Round
    first : coming ≡ round ∷ rest
    time : it.time ≡ greatest_time round.rows
    happens : it.leads_to ≡ opening settings reading old round rest

  opening_is : (old : Moment) (coming : List Round) (it : Next) → next_opening settings reading old coming ≡ Some it → IsOpening old coming it
  opening_is old [] it is = absurd (cc)
  opening_is old (round ∷ rest) it is =
      let same : record { time = greatest_time round.rows; leads_to = opening settings reading old round rest } ≡ it = same_Some _ it is in
      record {
        round = round;
        rest = rest;
        first = refl;
        time = ap (λ (x : Next). x.time) (sym same);
        happens = ap (λ (x : Next). x.leads_to) (sym same);
      }

  record IsEnding (old : Moment) (found : Option DueEnd) (it : Next) : Type 0 where
    end : DueEnd
    first : found ≡ Some end
    time : it.time ≡ end.time
    happens : it.leads_to ≡ ending settings reading old end

  ending_is : (old : Moment) (found : Option DueEnd) (it : Next) → next_ending settings reading old found ≡ Some it → IsEnding old found it
  ending_is old None it is = absurd (cc)
  ending_is old (Some end) it is =
      let same : record { time = end.time; leads_to = ending settings reading old end } ≡ it = same_Some _ it is in
      record { end = end; first = refl; time = ap (λ (x : Next). x.time) (sym same); happens = ap (λ (x : Next). x.leads_to) (sym same) }

  record IsCommit (old : Moment) (found : Option DueCommit) (it : Next) : Type 0 where
    due : DueCommit
    first : found ≡ Some due
    time : it.time ≡ due.attempt.due
    happens : it.leads_to ≡ committing settings reading old due.by due.attempt

  commit_is : (old : Moment) (found : Option DueCommit) (it : Next) → next_commit settings reading old found ≡ Some it → IsCommit old found it
  commit_is old None it is = absurd (cc)
  commit_is old (Some due) it is =
      let same : record { time = due.attempt.due; leads_to = committing settings reading old due.by due.attempt } ≡ it = same_Some _ it is in
      record { due = due; first = refl; time = ap (λ (x : Next). x.time) (sym same); happens = ap (λ (x : Next). x.leads_to) (sym same) }

  -- one of the three happens
  happens_of : (old new : Moment) (end : Option DueEnd) (due : Option DueCommit) (it : Next)
      → reading.end_due old.past.history old.times ≡ end → first_due old.crew ≡ due
      → first_of (next_opening settings reading old old.coming)
      (first_of (next_ending settings reading old end) (next_commit settings reading old due)) ≡ Some it
      → it.leads_to ≡ new → Happens settings reading old new
  happens_of old new end due it is_end is_due is leads =
      elim (first_cases (next_opening settings reading old old.coming)
      (first_of (next_ending settings reading old end) (next_commit settings reading old due)) it is) [
        | inl opens ↦
            let that = opening_is old old.coming it opens.0 in
            let at = that.time in inl (record {
              round = that.round;
              rest = that.rest;
              first = that.first;
              no_end = λ one found.
                  let mine : Next = record { time = one.time; leads_to = ending settings reading old one } in
                  let some = some_front mine (next_commit settings reading old due) in
                  let same : end ≡ Some one = sym is_end ∙ found in
                  let low = opens.1 some.0 (subst (λ (e : Option DueEnd). first_of (next_ending settings reading old e) (next_commit settings reading old due) ≡ Some some.0) (sym same) some.1.0) in
                  let no_later = some.1.1 in omega (arith, low, no_later, at);
              no_sooner = λ one found.
                  let mine : Next = record { time = one.attempt.due; leads_to = committing settings reading old one.by one.attempt } in
                  let some = some_back (next_ending settings reading old end) mine in
                  let same : due ≡ Some one = sym is_due ∙ found in
                  let low = opens.1 some.0 (subst (λ (e : Option DueCommit). first_of (next_ending settings reading old end) (next_commit settings reading old e) ≡ Some some.0) (sym same) some.1.0) in
                  let no_later = some.1.1 in omega (arith, low, no_later, at);
              happens = sym leads ∙ that.happens;
            })
        | inr later ↦
            elim (first_cases (next_ending settings reading old end) (next_commit settings reading old due) it later.0) [
              | inl ends ↦
                  let that = ending_is old end it ends.0 in
                  let at = that.time in inr (inl (record {
                    end = that.end;
                    first = is_end ∙ that.first;
                    sooner = λ round rest found.
                        let below = later.1 (record { time = greatest_time round.rows; leads_to = opening settings reading old round rest })
                        (ap (next_opening settings reading old) found) in omega (arith, below, at);
                    no_sooner = λ one found.
                        let low = ends.1 (record { time = one.attempt.due; leads_to = committing settings reading old one.by one.attempt })
                        (ap (next_commit settings reading old) (sym is_due ∙ found)) in omega (arith, low, at);
                    happens = sym leads ∙ that.happens;
                  }))
              | inr commits ↦
                  let that = commit_is old due it commits.0 in
                  let at = that.time in inr (inr (record {
                    due = that.due;
                    first = is_due ∙ that.first;
                    sooner = λ round rest found.
                        let below = later.1 (record { time = greatest_time round.rows; leads_to = opening settings reading old round rest })
                        (ap (next_opening settings reading old) found) in omega (arith, below, at);
                    before_ends = λ one found.
                        let below = commits.1 (record { time = one.time; leads_to = ending settings reading old one })
                        (ap (next_ending settings reading old) (sym is_end ∙ found)) in omega (arith, below, at);
                    happens = sym leads ∙ that.happens;
                  }))
            ]
      ]

  pub happens_next : (old new : Moment) → next settings reading old ≡ Some new → Happens settings reading old new
  happens_next old new is =
      by_found (next_of settings reading old old.coming (reading.end_due old.past.history old.times) (first_due old.crew)) refl is where
        by_found : (found : Option Next)
            → next_of settings reading old old.coming (reading.end_due old.past.history old.times) (first_due old.crew) ≡ found
            → option_map (λ (it : Next). it.leads_to) found ≡ Some new → Happens settings reading old new
        by_found None is_found leads = absurd (cc)
        by_found (Some it) is_found leads =
            happens_of old new (reading.end_due old.past.history old.times) (first_due old.crew) it refl refl
            (due_next old old.coming (reading.end_due old.past.history old.times) (first_due old.crew) it is_found) (same_Some it.leads_to new leads)

  by_next : (P : Moment → Type 0) → ((old new : Moment) → P old → Happens settings reading old new → P new)
      → (old : Moment) → P old → (found : Option Moment) → next settings reading old ≡ found → P (unwrap_or found old)
  by_next P more old before None is = before
  by_next P more old before (Some new) is = more old new before (happens_next old new is)

  -- what holds at first, and after each step of which it held before, holds after all steps
  pub holds_after : (P : Moment → Type 0) → P (beginning settings reading)
      → ((old new : Moment) → P old → Happens settings reading old new → P new)
      → (steps : ℕ) → P (after settings reading steps)
  holds_after P first more zero = first
  holds_after P first more (suc steps) =
      by_next P more (after settings reading steps) (holds_after P first more steps) (next settings reading (after settings reading steps)) refl

  -- the attempts after a sync
  module _ (Q : ℕ → Attempt → Type 0) where
    first_attempt_is : (past : Past) (now number : ℕ) → ((request : Request) → Q number (attempt_on settings reading past now number request))
        → (left : List Request) → WhenDeciding Q number (first_attempt settings reading past now number left)
    first_attempt_is past now number holds [] = tt
    first_attempt_is past now number holds (request ∷ rest) = holds request

    goes_on_is : (past : Past) (now : ℕ) (scheduler : Scheduler)
        → ((request : Request) → Q scheduler.number (attempt_on settings reading past now scheduler.number request))
        → (left : Standing)
        → WhenDeciding Q (going_on settings reading past now scheduler left).number (going_on settings reading past now scheduler left).attempt
    goes_on_is past now scheduler holds left =
        by_answer (is_empty left.requests && nat_lt scheduler.begun past.triggers)
        (λ t. rw t (first_attempt_is past now scheduler.number holds (new_pass settings reading past scheduler.number).requests))
        (λ f. rw f (first_attempt_is past now scheduler.number holds left.requests))

    pub synced_is : (past : Past) (now : ℕ) (scheduler : Scheduler)
        → ((request : Request) → Q scheduler.number (attempt_on settings reading past now scheduler.number request))
        → WhenDeciding Q (synced settings reading past now scheduler).number (synced settings reading past now scheduler).attempt
    synced_is past now scheduler holds =
        goes_on_is past now scheduler holds (without_unwanted (wanted_at reading past) scheduler.left scheduler.left.requests)

    -- what holds of attempts under way holds still once those that aren't deciding have synced, if it holds of those
    -- that begin then
    pub idle_each : (Before : ℕ → Attempt → Type 0) (past : Past) (now : ℕ)
        → ((number : ℕ) (request : Request) → Q number (attempt_on settings reading past now number request))
        → ((number : ℕ) (attempt : Attempt) → Before number attempt → Q number attempt)
        → (crew : List Scheduler) → EachDeciding Before crew → EachDeciding Q (idle_synced settings reading past now crew)
    idle_each Before past now begins stays [] each = tt
    idle_each Before past now begins stays (scheduler ∷ crew) each =
        (one scheduler.attempt refl each.0, idle_each Before past now begins stays crew each.1) where
          one : (attempt : Option Attempt) → scheduler.attempt ≡ attempt → WhenDeciding Before scheduler.number attempt
              → WhenDeciding Q (synced_if_idle settings reading past now scheduler attempt).number
              (synced_if_idle settings reading past now scheduler attempt).attempt
          one None is holds = synced_is past now scheduler (begins scheduler.number)
          one (Some attempt) is holds = subst (WhenDeciding Q scheduler.number) (sym is) (stays scheduler.number attempt holds)

    -- and so once an attempt is committed
    pub committing_each : (Before : ℕ → Attempt → Type 0) (moment : Moment) (by : ℕ) (attempt : Attempt)
        → ((number : ℕ) (request : Request)
        → Q number (attempt_on settings reading (past_with moment.past (due_entry settings reading moment.past by attempt)) attempt.due number request))
        → ((number : ℕ) (other : Attempt) → (number == by) ≡ false → Before number other → Q number other)
        → EachDeciding Before moment.crew → EachDeciding Q (committing settings reading moment by attempt).crew
    committing_each Before moment by attempt begins stays each = over moment.crew each where
      entry : Entry
      entry = due_entry settings reading moment.past by attempt

      kept : (scheduler : Scheduler) → (scheduler.number == by) ≡ false → (other : Option Attempt)
          → WhenDeciding Before scheduler.number other → WhenDeciding Q scheduler.number other
      kept scheduler differs None holds = tt
      kept scheduler differs (Some other) holds = stays scheduler.number other differs holds

      one : (scheduler : Scheduler) → WhenDeciding Before scheduler.number scheduler.attempt
          → WhenDeciding Q (after_commit settings reading (past_with moment.past (due_entry settings reading moment.past by attempt)) attempt.due by (due_entry settings reading moment.past by attempt) scheduler).number
          (after_commit settings reading (past_with moment.past (due_entry settings reading moment.past by attempt)) attempt.due by (due_entry settings reading moment.past by attempt) scheduler).attempt
      one scheduler holds =
          by_answer (scheduler.number == by)
          (λ t. rw t (synced_is (past_with moment.past (due_entry settings reading moment.past by attempt)) attempt.due
          (with_entry settings (due_entry settings reading moment.past by attempt) scheduler) (begins scheduler.number)))
          (λ f. rw f (kept scheduler f scheduler.attempt holds))

      over : (crew : List Scheduler) → EachDeciding Before crew
          → EachDeciding Q (map (after_commit settings reading (past_with moment.past (due_entry settings reading moment.past by attempt)) attempt.due by (due_entry settings reading moment.past by attempt)) crew)
      over [] each = tt
      over (scheduler ∷ crew) each = (one scheduler each.0, over crew each.1)

    -- at first nobody is deciding
    pub nobody_at_first : (numbers : List ℕ) → EachDeciding Q (map idle_scheduler numbers)
    nobody_at_first [] = tt
    nobody_at_first (number ∷ numbers) = (tt, nobody_at_first numbers)

    -- what holds of each attempt under way holds of the one that is due first
    pub due_holds : (crew : List Scheduler) (due : DueCommit) → EachDeciding Q crew → first_due crew ≡ Some due → Q due.by due.attempt
    due_holds [] due each is = absurd (cc)
    due_holds (scheduler ∷ crew) due each is =
        front scheduler.attempt (first_due crew) each.0 is (λ other found. due_holds crew other each.1 found) where
          chosen : (one other : DueCommit) → sooner (Some one) (Some other) ≡ Some due → Q one.by one.attempt → Q other.by other.attempt → Q due.by due.attempt
          chosen one other is first later =
              by_answer (nat_lt other.attempt.due one.attempt.due)
              (λ t. subst (λ (it : DueCommit). Q it.by it.attempt) (same_Some other due (rw t at is)) later)
              (λ f. subst (λ (it : DueCommit). Q it.by it.attempt) (same_Some one due (rw f at is)) first)

          front : (attempt : Option Attempt) (rest : Option DueCommit) → WhenDeciding Q scheduler.number attempt
              → sooner (due_of scheduler.number attempt) rest ≡ Some due
              → ((other : DueCommit) → rest ≡ Some other → Q other.by other.attempt)
              → Q due.by due.attempt
          front None None holds is later = absurd (cc)
          front None (Some other) holds is later = subst (λ (it : DueCommit). Q it.by it.attempt) (same_Some other due is) (later other refl)
          front (Some attempt) None holds is later =
              subst (λ (it : DueCommit). Q it.by it.attempt) (same_Some (record { by = scheduler.number; attempt = attempt }) due is) holds
          front (Some attempt) (Some other) holds is later =
              chosen (record { by = scheduler.number; attempt = attempt }) other is holds (later other refl)

-- no attempt under way is due sooner than the one that is due first
abbrev pub IsDueFrom : ℕ → ℕ → Attempt → Type 0
IsDueFrom time number attempt = time ≤ attempt.due

pub from_earlier : (early late : ℕ) → early ≤ late → (crew : List Scheduler) → EachDeciding (IsDueFrom late) crew → EachDeciding (IsDueFrom early) crew
from_earlier early late less [] each = tt
from_earlier early late less (scheduler ∷ crew) each = (one scheduler.attempt each.0, from_earlier early late less crew each.1) where
  one : (attempt : Option Attempt) → WhenDeciding (IsDueFrom late) scheduler.number attempt → WhenDeciding (IsDueFrom early) scheduler.number attempt
  one None holds = tt
  one (Some attempt) holds = omega (arith, less, holds)

-- a scheduler that is not deciding is due never
pub nobody_due : (time : ℕ) (crew : List Scheduler) → first_due crew ≡ None → EachDeciding (IsDueFrom time) crew
nobody_due time [] is = tt
nobody_due time (scheduler ∷ crew) is = front scheduler.attempt (first_due crew) is refl (nobody_due time crew) where
  front : (attempt : Option Attempt) (rest : Option DueCommit) → sooner (due_of scheduler.number attempt) rest ≡ None → first_due crew ≡ rest
      → (first_due crew ≡ None → EachDeciding (IsDueFrom time) crew)
      → WhenDeciding (IsDueFrom time) scheduler.number attempt × EachDeciding (IsDueFrom time) crew
  front None None is found later = (tt, later found)
  front None (Some other) is found later = absurd (cc)
  front (Some attempt) None is found later = absurd (cc)
  front (Some attempt) (Some other) is found later =
      by_answer (nat_lt other.attempt.due attempt.due) (λ t. absurd (let clash = rw t at is in cc)) (λ f. absurd (let clash = rw f at is in cc))

pub first_is_first : (crew : List Scheduler) (due : DueCommit) → first_due crew ≡ Some due → EachDeciding (IsDueFrom due.attempt.due) crew
first_is_first [] due is = absurd (cc)
first_is_first (scheduler ∷ crew) due is = front scheduler.attempt (first_due crew) is refl (λ other found. first_is_first crew other found) where
  front : (attempt : Option Attempt) (rest : Option DueCommit) → sooner (due_of scheduler.number attempt) rest ≡ Some due → first_due crew ≡ rest
      → ((other : DueCommit) → first_due crew ≡ Some other → EachDeciding (IsDueFrom other.attempt.due) crew)
      → WhenDeciding (IsDueFrom due.attempt.due) scheduler.number attempt × EachDeciding (IsDueFrom due.attempt.due) crew
  front None None is found later = absurd (cc)
  front None (Some other) is found later =
      (tt, subst (λ (it : DueCommit). EachDeciding (IsDueFrom it.attempt.due) crew) (same_Some other due is) (later other found))
  front (Some attempt) None is found later =
      let same : attempt ≡ due.attempt = ap (λ (it : DueCommit). it.attempt) (same_Some (record { by = scheduler.number; attempt = attempt }) due is) in
      (subst (λ (it : Attempt). due.attempt.due ≤ it.due) (sym same) (omega arith), nobody_due due.attempt.due crew found)
  front (Some attempt) (Some other) is found later =
      elim (leb_tells (suc other.attempt.due) attempt.due) [
        | inl less ↦
            let same : other ≡ due = same_Some other due (rw less.0 at is) in
            let here : other.attempt.due ≤ attempt.due = let below = less.1 in omega arith in
            subst (λ (it : DueCommit). WhenDeciding (IsDueFrom it.attempt.due) scheduler.number (Some attempt) × EachDeciding (IsDueFrom it.attempt.due) crew)
            same (here, later other found)
        | inr more ↦
            let one : DueCommit = record { by = scheduler.number; attempt = attempt } in
            let same : one ≡ due = same_Some one due (rw more.0 at is) in
            let here : attempt.due ≤ attempt.due = omega arith in
            let low : attempt.due ≤ other.attempt.due = let below = more.1 in omega arith in
            subst (λ (it : DueCommit). WhenDeciding (IsDueFrom it.attempt.due) scheduler.number (Some attempt) × EachDeciding (IsDueFrom it.attempt.due) crew)
            same (here, from_earlier attempt.due other.attempt.due low crew (later other found))
      ]

-- the same, where a step may look at all that holds before it
module _ (settings : Settings) (reading : Reading) where
  by_next_at : (P : Moment → Type 0) (steps : ℕ)
      → ((new : Moment) → P (after settings reading steps) → Happens settings reading (after settings reading steps) new → new ≡ after settings reading (suc steps) → P new)
      → P (after settings reading steps) → (found : Option Moment) → next settings reading (after settings reading steps) ≡ found
      → P (unwrap_or found (after settings reading steps))
  by_next_at P steps more before None is = before
  by_next_at P steps more before (Some new) is =
      more new before (happens_next settings reading (after settings reading steps) new is)
      (sym (ap (λ (found : Option Moment). unwrap_or found (after settings reading steps)) is))

  pub holds_at : (P : Moment → Type 0) → P (beginning settings reading)
      → ((steps : ℕ) (new : Moment) → P (after settings reading steps) → Happens settings reading (after settings reading steps) new → new ≡ after settings reading (suc steps) → P new)
      → (steps : ℕ) → P (after settings reading steps)
  holds_at P first more zero = first
  holds_at P first more (suc steps) =
      by_next_at P steps (more steps) (holds_at P first more steps) (next settings reading (after settings reading steps)) refl
