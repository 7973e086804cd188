-- There is one run by the free clock.
use Rattle.std.proofs.Common.{◌≡◌, ◌≤◌, ℕ, zero, suc, List, Option, None, sym, ap, ◌∙◌, inl, inr, arith, unwrap_or}
use Rattle.std.specs.Prelude.{◌⊎◌}
use Rattle.omega_model.specs.declared.entries.Entry.{Entry}
use Rattle.omega_free_laws.specs.Readings.{Reading}
use Rattle.omega_model.specs.declared.settings.Settings.{Settings}
use Rattle.omega_laws.specs.VirtualTime.{Timed}
use Rattle.omega_free_laws.specs.Free.{FreeRun, IsOver, after}
use Rattle.omega_free_laws.specs.FreeSteps.{Moment, next}

split_le : (a b : ℕ) → a ≤ suc b → (a ≤ b) ⊎ (a ≡ suc b)
split_le a b less = grind (arith)

either_le : (a b : ℕ) → (a ≤ b) ⊎ (b ≤ a)
either_le a b = grind (arith)

module _ (settings : Settings) (reading : Reading) where
  -- once it is over, nothing more happens
  pub stays_over : (steps : ℕ) → IsOver settings reading (after settings reading steps) → (later : ℕ) → steps ≤ later
      → after settings reading later ≡ after settings reading steps
  stays_over steps over zero below = let same : 0 ≡ steps = omega arith in ap (after settings reading) same
  stays_over steps over (suc later) below = by_case (stays_over steps over later) (split_le steps later below) where
    by_case : (steps ≤ later → after settings reading later ≡ after settings reading steps) → (steps ≤ later) ⊎ (steps ≡ suc later)
        → after settings reading (suc later) ≡ after settings reading steps
    by_case before (inl less) =
        let same = before less in
        let none : next settings reading (after settings reading later) ≡ None = ap (next settings reading) same ∙ over in
        ap (λ (found : Option Moment). unwrap_or found (after settings reading later)) none ∙ same
    by_case before (inr same) = ap (after settings reading) (sym same)

  -- two numbers of steps after which it is over lead to the same
  pub same_end : (one other : ℕ) → IsOver settings reading (after settings reading one) → IsOver settings reading (after settings reading other)
      → after settings reading one ≡ after settings reading other
  same_end one other over_one over_other = elim (either_le one other) [
    | inl less ↦ sym (stays_over one over_one other less)
    | inr less ↦ stays_over other over_other one less
  ]

  -- the history is the only one, and so are its times
  pub only_free : (one other : List Entry) (times_one times_other : List Timed)
      → FreeRun settings reading one times_one → FreeRun settings reading other times_other
      → (one ≡ other) × (times_one ≡ times_other)
  only_free one other times_one times_other a b =
      let same = same_end a.steps b.steps a.over b.over in (
        a.is_history ∙ ap (λ (moment : Moment). moment.past.history) same ∙ sym b.is_history,
        a.is_times ∙ ap (λ (moment : Moment). moment.times) same ∙ sym b.is_times,
      )
