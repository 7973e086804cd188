-- The seats of a new lock, by place.
use Rattle.std.proofs.Common.{◌≡◌, ℕ, zero, suc, ◌<◌, List, [], ◌∷◌, ◌++◌, length, sym, refl, ap, ◌∙◌, arith, Some, length-append}
use Rattle.std.specs.Prelude.{slice_get}
use mathlib.Core.Logic.{dite}
use native.Mathlib.Decide.{ℕ_discrete}
use Rattle.atomic_table.specs.Seated.{TableId}
use Rattle.omega_lock.specs.Seats.{new_seat, new_seats}

module _ {A : Type 0} where
  -- an element before the end
  get_before : (xs ys : List A) (i : ℕ) → i < length xs → slice_get (xs ++ ys) i ≡ slice_get xs i
  get_before [] ys i h = absurd (omega (arith, h))
  get_before (x ∷ xs) ys zero h = refl
  get_before (x ∷ xs) ys (suc i) h = get_before xs ys i (omega (arith, h))

  -- the one at the end
  get_last : (xs : List A) (y : A) (i : ℕ) → length xs ≡ i → slice_get (xs ++ y ∷ []) i ≡ Some y
  get_last [] y zero h = refl
  get_last [] y (suc i) h = absurd (omega (arith, h))
  get_last (x ∷ xs) y zero h = absurd (omega (arith, h))
  get_last (x ∷ xs) y (suc i) h = get_last xs y i (omega (arith, h))

module _ {E : Type 0} (of : TableId) (turns : ℕ) (es : List E) where
  -- there are as many seats as callers
  pub seats_count : (n : ℕ) → length (new_seats of turns es n) ≡ n
  seats_count zero = refl
  seats_count (suc n) = let h = seats_count n in let a = length-append (new_seats of turns es n) (new_seat of turns es n ∷ []) in omega (arith, h, a)

  -- the seat at a place has its number
  pub seats_at : (n i : ℕ) → i < n → slice_get (new_seats of turns es n) i ≡ Some (new_seat of turns es i)
  seats_at zero i h = absurd (omega (arith, h))
  seats_at (suc n) i h = let c = seats_count n in dite (ℕ_discrete i n)
      (λ e. get_last (new_seats of turns es n) (new_seat of turns es n) i (c ∙ sym e) ∙ ap (λ k. Some (new_seat of turns es k)) (sym e))
      (λ ne. get_before (new_seats of turns es n) (new_seat of turns es n ∷ []) i (omega (arith, h, ne, c)) ∙ seats_at n i (omega (arith, h, ne)))
