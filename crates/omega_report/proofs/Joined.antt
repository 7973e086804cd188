-- Items as the first one, and then the others behind what parts them; pairs of which none is left.
use Rattle.std.proofs.Common.{◌≡◌, ◌⊎◌, ℕ, List, [], ◌∷◌, ◌++◌, map, refl, sym, ap, inl, inr}
use Rattle.std.specs.List.{flat_map, join_with_byte, zip}
use Rattle.std.proofs.lemmas.List.{append-nil}

pub join_items : {X : Type 0} (form : X → List ℕ) (gap : ℕ) (item : X) (items : List X)
    → join_with_byte gap (map form (item ∷ items)) ≡ form item ++ flat_map (λ (other : X). gap ∷ form other) items
join_items form gap item [] = sym (append-nil (form item))
join_items form gap item (next ∷ items) = ap (λ (rest : List ℕ). form item ++ gap ∷ rest) (join_items form gap next items)

-- nothing comes of pairs where one of the lists is at its end
pub pairs_out : {X Y Z : Type 0} (form : X × Y → List Z) (xs : List X) (ys : List Y) → (xs ≡ []) ⊎ (ys ≡ []) → flat_map form (zip xs ys) ≡ []
pairs_out form [] ys out = refl
pairs_out form (x ∷ xs) [] out = refl
pairs_out form (x ∷ xs) (y ∷ ys) (inl none) = absurd (cc)
pairs_out form (x ∷ xs) (y ∷ ys) (inr none) = absurd (cc)
