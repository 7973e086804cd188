-- Tasks that change places.
use Rattle.std.proofs.Common.{◌≡◌, ℕ, zero, suc, ◌<◌, Bool, List, [], ◌∷◌, length, get_or, set, swap, arith, refl, ap, ◌∙◌}
use Rattle.std.specs.List.{filter}
use Rattle.std.specs.List.Sorted.{IsPermutation}
use Rattle.std.proofs.lemmas.List.Sorted.{IsPermutation-refl, IsPermutation-cons, IsPermutation-keeps, IsPermutation-middle, IsPermutation-trans}
use Rattle.omega_model.specs.Cell.{total}
use Rattle.omega_model.specs.Need.{plus}
use Rattle.omega_model.specs.declared.cells.Task.{Task}
use Rattle.omega_model.proofs.Amounts.{plus-swap}
use Rattle.omega_model.proofs.Lists.{by_answer}

-- what holds of a list and itself, under a head, over an exchange of the first two and from one list to the next holds
-- of a list whose elements change places
module _ {X : Type 0} (R : List X → List X → Type 0) (same : (xs : List X) → R xs xs) (under : (x : X) (xs ys : List X) → R xs ys → R (x ∷ xs) (x ∷ ys))
    (turned : (x y : X) (xs : List X) → R (x ∷ y ∷ xs) (y ∷ x ∷ xs)) (then : (xs ys zs : List X) → R xs ys → R ys zs → R xs zs) where
  with_head : (xs : List X) (j : ℕ) (x d : X) → j < length xs → R (x ∷ xs) (get_or xs j d ∷ set xs j x)
  with_head [] j x d below = absurd (omega arith)
  with_head (y ∷ xs) zero x d below = turned x y xs
  with_head (y ∷ xs) (suc j) x d below =
      then _ _ _ (turned x y xs) (then _ _ _ (under y _ _ (with_head xs j x d (omega arith))) (turned y (get_or xs j d) (set xs j x)))

  exchanged : (xs : List X) (i j : ℕ) (d : X) → i < length xs → j < length xs → R xs (set (set xs i (get_or xs j d)) j (get_or xs i d))
  exchanged [] i j d one other = absurd (omega arith)
  exchanged (x ∷ xs) zero zero d one other = same (x ∷ xs)
  exchanged (x ∷ xs) zero (suc j) d one other = with_head xs j x d (omega arith)
  exchanged (x ∷ xs) (suc i) zero d one other = with_head xs i x d (omega arith)
  exchanged (x ∷ xs) (suc i) (suc j) d one other = under x _ _ (exchanged xs i j d (omega arith) (omega arith))

  swapped : (xs : List X) (i j : ℕ) → i < length xs → j < length xs → R xs (swap xs i j)
  swapped [] i j one other = same []
  swapped (x ∷ xs) i j one other = exchanged (x ∷ xs) i j x one other

  moved : (xs ys : List X) → IsPermutation xs ys → R xs ys
  moved xs = IsPermutation-keeps xs (R xs) (same xs) (λ now i j one other before. then xs now _ before (swapped now i j one other))

-- the sum of what tasks need doesn't depend on their places
pub total_moved : (xs ys : List Task) → IsPermutation xs ys → total xs ≡ total ys
total_moved = moved (λ xs ys. total xs ≡ total ys) (λ xs. refl) (λ x xs ys same. ap (plus x.spec.need) same)
    (λ x y xs. plus-swap x.spec.need y.spec.need (total xs)) (λ xs ys zs one other. one ∙ other)

-- nor does which of them pass a test
pub filter_moved : {X : Type 0} (p : X → Bool) (xs ys : List X) → IsPermutation xs ys → IsPermutation (filter p xs) (filter p ys)
filter_moved {X} p = moved (λ xs ys. IsPermutation (filter p xs) (filter p ys)) (λ xs. IsPermutation-refl (filter p xs)) under turned (λ xs ys zs. IsPermutation-trans _ _ _)
  where
    under : (x : X) (xs ys : List X) → IsPermutation (filter p xs) (filter p ys) → IsPermutation (filter p (x ∷ xs)) (filter p (x ∷ ys))
    under x xs ys same = by_answer (p x) (λ h. rw h (IsPermutation-cons x _ _ same)) (λ h. rw h same)

    turned : (x y : X) (xs : List X) → IsPermutation (filter p (x ∷ y ∷ xs)) (filter p (y ∷ x ∷ xs))
    turned x y xs = by_answer (p x)
        (λ h. by_answer (p y) (λ k. rw (h, k) (IsPermutation-middle (x ∷ []) y (filter p xs))) (λ k. rw (h, k) (IsPermutation-refl _)))
        (λ h. rw h (IsPermutation-refl _))
