-- The first of an agenda, one scheduler after the other.
use Rattle.std.proofs.Common.{◌≡◌, ℕ, ◌+◌, ◌<◌, ◌≤◌, List, Option, Some, None, sym, ◌∙◌, inl, inr, arith, below_more}
use Rattle.std.specs.Prelude.{nat_le, slice_get}
use Rattle.std.proofs.lemmas.Bool.{leb-true, leb-false, cases_lt}
use Rattle.omega_model.proofs.Lists.{by_answer}
use Rattle.omega_sim.specs.Agenda.{IsFirstBelow, IsNoLater, sooner}

module _ (agenda : List (Option ℕ)) (count : ℕ) where
  -- no time is set for a scheduler
  abbrev IsFree : ℕ → Type 0
  IsFree other = (time : ℕ) → slice_get agenda other ≡ Some (Some time) → ⊥

  -- another scheduler has no time, or a later one
  abbrev IsBehind : ℕ → ℕ → ℕ → Type 0
  IsBehind scheduler time other = (later : ℕ) → slice_get agenda other ≡ Some (Some later) → IsNoLater scheduler time other later

  same_time : (one other : ℕ) → slice_get agenda count ≡ Some (Some one) → slice_get agenda count ≡ Some (Some other) → one ≡ other
  same_time one other is also = let both : Some (Some one) ≡ Some (Some other) = sym is ∙ also in cc

  none_there : (time : ℕ) → slice_get agenda count ≡ Some None → slice_get agenda count ≡ Some (Some time) → ⊥
  none_there time is also = let both : Some None ≡ Some (Some time) = sym is ∙ also in cc

  pub first_more : (first : Option (ℕ × ℕ)) (time : Option ℕ) → slice_get agenda count ≡ Some time
      → IsFirstBelow agenda count first → IsFirstBelow agenda (count + 1) (sooner first count time)
  first_more None None is so = below_more IsFree count so (λ time also. none_there time is also)
  first_more (Some (scheduler, earlier)) None is so = (
    let below = so.0 in omega arith,
    (so.1.0, below_more (IsBehind scheduler earlier) count so.1.1 (λ later also. absurd (none_there later is also))),
  )
  first_more None (Some time) is so = (
    omega arith,
    (
      is,
      below_more (IsBehind count time) count (λ other below later also. absurd (so other below later also))
          (λ later also. inr (same_time time later is also, omega arith)),
    ),
  )
  first_more (Some (scheduler, earlier)) (Some time) is so =
      by_answer (nat_le earlier time)
      (λ t. rw t (
        (let below = so.0 in omega arith),
        (
          so.1.0,
          below_more (IsBehind scheduler earlier) count so.1.1
              (λ later also.
              let same : time ≡ later = same_time time later is also in
              let within : earlier ≤ time = leb-true earlier time t in
              let below = so.0 in
              elim (cases_lt earlier later) [
                | inl less ↦ inl less
                | inr more ↦ inr (omega arith, omega arith)
              ]),
        ),
      ))
      (λ f. rw f (
        omega arith,
        (
          is,
          below_more (IsBehind count time) count
              (λ other below later also.
              let less : time < earlier = leb-false earlier time f in
              elim (so.1.1 other below later also) [
                | inl before ↦ inl (omega arith)
                | inr at ↦ let same = at.0 in inl (omega arith)
              ])
              (λ later also. inr (same_time time later is also, omega arith)),
        ),
      ))
