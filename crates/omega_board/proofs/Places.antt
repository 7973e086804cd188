-- What holds of each item of a list, told by places.
use Rattle.std.proofs.Common.{◌≡◌, ℕ, zero, suc, List, [], ◌∷◌, slice_get, Some, refl, subst}
use Rattle.std.proofs.lemmas.Option.{none-some, same_Some}
use Rattle.std.specs.List.{AllByRecursion as Each}

module _ {X : Type 0} (P : X → Type 0) where
  -- what holds of each item holds of the one at a place
  pub each_get : (xs : List X) (place : ℕ) (x : X) → Each P xs → slice_get xs place ≡ Some x → P x
  each_get [] place x each is = absurd (none-some x is)
  each_get (y ∷ ys) zero x each is = subst P (same_Some y x is) each.0
  each_get (y ∷ ys) (suc place) x each is = each_get ys place x each.1 is

  -- what holds of the item at each place holds of each item
  pub each_place : (xs : List X) → ((place : ℕ) (x : X) → slice_get xs place ≡ Some x → P x) → Each P xs
  each_place [] at = tt
  each_place (x ∷ xs) at = (at 0 x refl, each_place xs (λ place y is. at (suc place) y is))
