-- Sums over what seats know, and numbers below a bound.
use Rattle.std.proofs.Common.{◌≡◌, ◌≢◌, ℕ, zero, suc, ◌+◌, ◌<◌, ◌≤◌, List, [], ◌∷◌, set, get_or, sym, refl, ap, subst, arith, ⊎_elim, eq-eqb, ne_eqb}
use Rattle.std.specs.Prelude.{sum_by}
use Rattle.std.proofs.lemmas.List.Sums.{sum_by-cons}
use mathlib.Core.Option.{some, some-injective, some-ne-none}
use mathlib.Core.Logic.{dite}
use native.Mathlib.Decide.{ℕ_discrete, dec_le}
use lib.ListN.{get_elem?}
use Rattle.atomic_table.proofs.Lists.{at_set}
use Rattle.omega_lock.specs.Lists.{below, same}

-- a number is the same as itself
pub same-same : (n : ℕ) → same n n ≡ 1
same-same n = rw (eq-eqb n n refl) refl

-- and as no other one
pub same-other : (n m : ℕ) → n ≢ m → same n m ≡ 0
same-other n m ne = rw (ne_eqb n m ne) refl

-- either way it counts once at most
pub same_le : (n m : ℕ) → same n m ≤ 1
same_le n m = dite (ℕ_discrete n m) (λ e. let h : same n m ≡ 1 = rw (eq-eqb n m e) refl in omega (arith, h)) (λ ne. let h = same-other n m ne in omega (arith, h))

-- a number that is not below the bound
pub below-past : (n m : ℕ) → m ≤ n → below n m ≡ 0
below-past n zero h = refl
below-past n (suc m) h = let b = below-past n m (omega arith) in let c = same-other n m (λ e. omega arith) in omega (arith, b, c)

-- a number that is
pub below-in : (n m : ℕ) → n < m → below n m ≡ 1
below-in n zero h = absurd (omega arith)
below-in n (suc m) h = dite (ℕ_discrete n m)
    (λ e. let b = below-past n m (omega arith) in let c : same n m ≡ 1 = rw (eq-eqb n m e) refl in omega (arith, b, c))
    (λ ne. let b = below-in n m (omega arith) in let c = same-other n m ne in omega (arith, b, c))

-- either way it counts once at most
pub below_le : (n m : ℕ) → below n m ≤ 1
below_le n zero = omega arith
below_le n (suc m) = dite (ℕ_discrete n m)
    (λ e. let b = below-past n m (omega arith) in let c = same_le n m in omega (arith, b, c))
    (λ ne. let b = below_le n m in let c = same-other n m ne in omega (arith, b, c))

-- a bound that is raised by one
pub below_more : (n m : ℕ) → below n (m + 1) ≡ below n m + same n m
below_more n m = let e : m + 1 ≡ suc m = omega arith in ap (below n) e

-- what counts is below the bound
pub below_is : (n m : ℕ) → 1 ≤ below n m → n < m
below_is n m h = dite (dec_le m n) (λ e. let b = below-past n m e in absurd (omega (arith, b))) (λ ne. omega (arith, ne))

module _ {V : Type 0} where
  -- the total after a change of one view
  pub total_set : (f : V → ℕ) (views : List V) (j : ℕ) (v w : V) → get_elem? views j ≡ some v
      → sum_by f (set views j w) + f v ≡ sum_by f views + f w
  total_set f [] j v w e = absurd (some-ne-none v (sym e))
  total_set f (x ∷ xs) zero v w e = let same : f x ≡ f v = ap f (some-injective x v e) in omega (arith, same, sum_by-cons f x xs, sum_by-cons f w xs)
  total_set f (x ∷ xs) (suc j) v w e = let more = total_set f xs j v w e in omega (arith, more, sum_by-cons f x xs, sum_by-cons f x (set xs j w))

  -- a term is at most the sum
  pub term_le : (f : V → ℕ) (views : List V) (j : ℕ) (v : V) → get_elem? views j ≡ some v
      → f v ≤ sum_by f views
  term_le f [] j v e = absurd (some-ne-none v (sym e))
  term_le f (x ∷ xs) zero v e = let same : f x ≡ f v = ap f (some-injective x v e) in omega (arith, same, sum_by-cons f x xs)
  term_le f (x ∷ xs) (suc j) v e = let more = term_le f xs j v e in omega (arith, more, sum_by-cons f x xs)

  -- so are two terms of different seats together
  pub terms_le : (f : V → ℕ) (l : List V) (j k : ℕ) (v u : V) → k ≢ j → get_elem? l j ≡ some v
      → get_elem? l k ≡ some u → f v + f u ≤ sum_by f l
  terms_le f [] j k v u n e d = absurd (some-ne-none v (sym e))
  terms_le f (x ∷ xs) zero zero v u n e d = absurd (n refl)
  terms_le f (x ∷ xs) zero (suc k) v u n e d = let a : f x ≡ f v = ap f (some-injective x v e) in let b = term_le f xs k u d in omega (arith, a, b, sum_by-cons f x xs)
  terms_le f (x ∷ xs) (suc j) zero v u n e d = let a : f x ≡ f u = ap f (some-injective x u d) in let b = term_le f xs j v e in omega (arith, a, b, sum_by-cons f x xs)
  terms_le f (x ∷ xs) (suc j) (suc k) v u n e d = let b = terms_le f xs j k v u (λ h. n (ap suc h)) e d in omega (arith, b, sum_by-cons f x xs)

  -- a sum of smaller terms
  pub sum_le : (f g : V → ℕ) (l : List V) → ((j : ℕ) (u : V) → get_elem? l j ≡ some u → f u ≤ g u)
      → sum_by f l ≤ sum_by g l
  sum_le f g [] h = omega arith
  sum_le f g (x ∷ xs) h = let a = h zero x refl in let b = sum_le f g xs (λ j u e. h (suc j) u e) in omega (arith, a, b, sum_by-cons f x xs, sum_by-cons g x xs)

  -- one term of the second sum that is greater makes that sum greater by as much
  pub sum_gap : (f g : V → ℕ) (l : List V) (i : ℕ) (v : V) → get_elem? l i ≡ some v
      → ((j : ℕ) (u : V) → get_elem? l j ≡ some u → f u ≤ g u) → sum_by f l + g v ≤ sum_by g l + f v
  sum_gap f g [] i v e h = absurd (some-ne-none v (sym e))
  sum_gap f g (x ∷ xs) zero v e h = let a : f x ≡ f v = ap f (some-injective x v e) in let c : g x ≡ g v = ap g (some-injective x v e) in let b = sum_le f g xs (λ j u d. h (suc j) u d) in omega (arith, a, b, c, sum_by-cons f x xs, sum_by-cons g x xs)
  sum_gap f g (x ∷ xs) (suc i) v e h = let a = h zero x refl in let b = sum_gap f g xs i v e (λ j u d. h (suc j) u d) in omega (arith, a, b, sum_by-cons f x xs, sum_by-cons g x xs)

-- a word that becomes what it was
pub set_word : (l : List ℕ) (i : ℕ) → set l i (get_or l i 0) ≡ l
set_word [] i = refl
set_word (x ∷ xs) zero = refl
set_word (x ∷ xs) (suc i) = ap (λ ys. x ∷ ys) (set_word xs i)

-- a fact of each view, after a change of one
pub each_set : {V : Type 0} (Q : V → Type 0) (views : List V) (id : ℕ) (w : V)
    → ((j : ℕ) (u : V) → j ≢ id → get_elem? views j ≡ some u → Q u) → Q w
    → (j : ℕ) (u : V) → get_elem? (set views id w) j ≡ some u → Q u
each_set Q views id w others mine j u e = ⊎_elim (λ (h : (j ≡ id) × (w ≡ u)). subst Q h.1 mine) (λ (h : (j ≢ id) × (get_elem? views j ≡ some u)). others j u h.0 h.1) (at_set views id j w u e)
