-- Two lists side by side.
use Rattle.std.proofs.Common.{◌≡◌, List, [], ◌∷◌, refl, inl, inr}
use Rattle.std.specs.Prelude.{◌⊎◌}
use Rattle.std.specs.List.{fold, zip}

-- nothing is left of pairs where one of the lists is at its end
pub zipped_out : {X Y : Type 0} (xs : List X) (ys : List Y) → (xs ≡ []) ⊎ (ys ≡ []) → zip xs ys ≡ []
zipped_out [] ys end = refl
zipped_out (x ∷ xs) [] end = refl
zipped_out (x ∷ xs) (y ∷ ys) (inl end) = absurd (cc)
zipped_out (x ∷ xs) (y ∷ ys) (inr end) = absurd (cc)

-- the next pair
pub zipped_next : {X Y Z : Type 0} (f : Z → X × Y → Z) (z : Z) (xs : List X) (ys : List Y) (x : X) (y : Y) (more : List X) (others : List Y)
    → xs ≡ x ∷ more → ys ≡ y ∷ others → fold f z (zip xs ys) ≡ fold f (f z (x, y)) (zip more others)
zipped_next f z xs ys x y more others first second = rw (first, second) refl
