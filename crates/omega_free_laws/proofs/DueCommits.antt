-- The attempt that is due first is that of the scheduler of its number.
use Rattle.std.proofs.Common.{◌≡◌, ◌<◌, ◌+◌, ℕ, zero, suc, List, [], ◌∷◌, Option, Some, None, map, sym, ap, subst, inl, inr, arith}
use Rattle.std.specs.Prelude.{◌⊎◌, nat_lt}
use Rattle.std.specs.List.{range_with_len, AllByRecursion as Each}
use Rattle.std.proofs.lemmas.Bool.{eqb-true}
use Rattle.std.proofs.lemmas.Option.{same_Some}
use Rattle.omega_model.proofs.Lists.{by_answer, each_map}
use Rattle.omega_model.specs.Policy.{schedulers}
use Rattle.omega_free_laws.specs.Readings.{Reading}
use Rattle.omega_model.specs.declared.settings.Settings.{Settings}
use Rattle.omega_free_laws.specs.CrewLaws.{CrewInOrder, IsOnIt}
use Rattle.omega_free_laws.specs.Free.{after}
use Rattle.omega_free_laws.specs.FreeSteps.{DueCommit, Moment, due_of, first_due, sooner}
use Rattle.omega_free_laws.specs.NextStep.{EachDeciding, WhenDeciding}
use Rattle.omega_free_laws.specs.Passes.{Attempt, Scheduler}
use Rattle.omega_free_laws.proofs.CrewLaws.{crew_in_order}
use Rattle.omega_free_laws.proofs.OneStep.{due_holds}
use Rattle.omega_free_laws.proofs.RoundsRise.{ClimbOn}

range_above : (low start n : ℕ) → low < start → Each (λ m. low < m) (range_with_len start n)
range_above low start zero below = tt
range_above low start (suc n) below = (below, range_above low (start + 1) n (omega (arith, below)))

range_climbs : (start n : ℕ) → ClimbOn (range_with_len start n)
range_climbs start zero = tt
range_climbs start (suc n) = (range_above start (start + 1) n (omega arith), range_climbs (start + 1) n)

-- of which of two schedulers the first attempt is
pub head_or_tail : (number : ℕ) (attempt : Option Attempt) (rest : Option DueCommit) (due : DueCommit) → sooner (due_of number attempt) rest ≡ Some due
    → ((number ≡ due.by) × (attempt ≡ Some due.attempt)) ⊎ (rest ≡ Some due)
head_or_tail number None rest due is = inr is
head_or_tail number (Some it) None due is =
    let same = same_Some (record { by = number; attempt = it }) due is in
    inl (ap (λ (d : DueCommit). d.by) same, ap (λ (d : DueCommit). Some d.attempt) same)
head_or_tail number (Some it) (Some other) due is =
    by_answer (nat_lt other.attempt.due it.due)
    (λ t. inr (rw t at is))
    (λ f. let same = same_Some (record { by = number; attempt = it }) due (rw f at is) in
    inl (ap (λ (d : DueCommit). d.by) same, ap (λ (d : DueCommit). Some d.attempt) same))

abbrev numbers_in : List Scheduler → List ℕ
numbers_in crew = map (λ (scheduler : Scheduler). scheduler.number) crew

each_number : (P : ℕ → Type 0) (crew : List Scheduler) → Each P (numbers_in crew) → Each (λ (scheduler : Scheduler). P scheduler.number) crew
each_number P [] each = tt
each_number P (scheduler ∷ crew) each = (each.0, each_number P crew each.1)

deciding_number : (P : ℕ → Type 0) (crew : List Scheduler) → Each P (numbers_in crew) → EachDeciding (λ number attempt. P number) crew
deciding_number P [] each = tt
deciding_number P (scheduler ∷ crew) each = (by_attempt scheduler.attempt, deciding_number P crew each.1) where
  by_attempt : (attempt : Option Attempt) → WhenDeciding (λ number attempt. P number) scheduler.number attempt
  by_attempt None = tt
  by_attempt (Some attempt) = each.0

own_due : (settings : Settings) (reading : Reading) (crew : List Scheduler) (due : DueCommit) → ClimbOn (numbers_in crew) → first_due crew ≡ Some due → Each (IsOnIt due) crew
own_due settings reading [] due climbs is = tt
own_due settings reading (scheduler ∷ crew) due climbs is =
    elim (head_or_tail scheduler.number scheduler.attempt (first_due crew) due is) [
      | inl here ↦ (
        λ same. here.1,
        each_map (λ (other : Scheduler). scheduler.number < other.number) (IsOnIt due)
            (λ other above same. absurd (let equal = eqb-true other.number due.by same in let by = here.0 in omega (arith, above, equal, by)))
            crew (each_number (λ n. scheduler.number < n) crew climbs.0),
      )
      | inr there ↦
          let above : scheduler.number < due.by =
          due_holds settings reading (λ number attempt. scheduler.number < number) crew due (deciding_number (λ n. scheduler.number < n) crew climbs.0) there in (
            λ same. absurd (let equal = eqb-true scheduler.number due.by same in omega (arith, above, equal)),
            own_due settings reading crew due climbs.1 there,
          )
    ]

-- so it is where the crew is in order, and at each moment
pub due_is_own : (settings : Settings) (reading : Reading) (moment : Moment) (due : DueCommit) → CrewInOrder settings reading moment → first_due moment.crew ≡ Some due
    → Each (IsOnIt due) moment.crew
due_is_own settings reading moment due order is =
    own_due settings reading moment.crew due (subst ClimbOn (sym order.numbers) (range_climbs 0 (schedulers settings))) is

pub own_due_after : (settings : Settings) (reading : Reading) (steps : ℕ) (due : DueCommit) → first_due (after settings reading steps).crew ≡ Some due
    → Each (IsOnIt due) (after settings reading steps).crew
own_due_after settings reading steps due is = due_is_own settings reading (after settings reading steps) due (crew_in_order settings reading steps) is
