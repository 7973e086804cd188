-- As many pairs as there are numbers, and no number twice: so each number is there.
use Rattle.std.proofs.Common.{◌≡◌, ℕ, zero, suc, ◌+◌, ◌<◌, ◌≤◌, List, [], ◌∷◌, length, sym, refl, ap, ◌∙◌, arith}
use Rattle.std.specs.Prelude.{sum_by}
use Rattle.std.proofs.lemmas.List.Sums.{sum_by-cons}
use mathlib.Core.Logic.{dite}
use native.Mathlib.Decide.{ℕ_discrete, dec_le}
use Rattle.omega_lock.specs.Lists.{below, same}
use Rattle.omega_lock.proofs.Sums.{same-same, same-other, below-in, below_is}

-- the order of the two does not matter
same-turned : (n m : ℕ) → same n m ≡ same m n
same-turned n m = dite (ℕ_discrete n m)
    (λ e. ap (λ k. same n k) (sym e) ∙ ap (λ k. same k n) e)
    (λ ne. same-other n m ne ∙ sym (same-other m n (λ e. ne (sym e))))

module _ {A : Type 0} (f : A → ℕ) where
  -- how many have the number n
  abbrev times : ℕ → List A → ℕ
  times n ps = sum_by (λ p. same n (f p)) ps

  -- how many have a number below m
  abbrev spread : ℕ → List A → ℕ
  spread zero ps = 0
  spread (suc m) ps = spread m ps + times m ps

  -- of none, none
  spread-nil : (m : ℕ) → spread m [] ≡ 0
  spread-nil zero = refl
  spread-nil (suc m) = let h = spread-nil m in let z : times m [] ≡ 0 = refl in omega (arith, h, z)

  -- one more
  spread-cons : (m : ℕ) (p : A) (ps : List A) → spread m (p ∷ ps) ≡ below (f p) m + spread m ps
  spread-cons zero p ps = omega arith
  spread-cons (suc m) p ps =
      let h = spread-cons m p ps in
      let c : times m (p ∷ ps) ≡ same m (f p) + times m ps = sum_by-cons (λ p. same m (f p)) p ps in
      let t = same-turned m (f p) in
      omega (arith, h, c, t)

  -- each pair's number is below m
  spread-all : (m : ℕ) (ps : List A) → ((n : ℕ) → times n ps ≤ below n m) → spread m ps ≡ length ps
  spread-all m [] h = spread-nil m
  spread-all m (p ∷ ps) h =
      let c : times (f p) (p ∷ ps) ≡ same (f p) (f p) + times (f p) ps = sum_by-cons (λ q. same (f p) (f q)) p ps in
      let one = same-same (f p) in
      let here = h (f p) in
      let lt = below_is (f p) m (omega (arith, c, one, here)) in
      let b = below-in (f p) m lt in
      let more = spread-all m ps (λ n. let d : times n (p ∷ ps) ≡ same n (f p) + times n ps = sum_by-cons (λ q. same n (f q)) p ps in let k = h n in omega (arith, d, k)) in
      let s = spread-cons m p ps in
      omega (arith, s, b, more)

  -- no number twice: at most m
  spread_le : (m : ℕ) (ps : List A) → ((n : ℕ) → times n ps ≤ 1) → spread m ps ≤ m
  spread_le zero ps h = omega arith
  spread_le (suc m) ps h = let a = spread_le m ps h in let b = h m in omega (arith, a, b)

  -- and fewer where one is missing
  spread_lt : (m n : ℕ) (ps : List A) → ((n : ℕ) → times n ps ≤ 1) → n < m → times n ps ≡ 0 → spread m ps < m
  spread_lt zero n ps h lt z = absurd (omega (arith, lt))
  spread_lt (suc m) n ps h lt z = dite (ℕ_discrete n m)
      (λ e. let a = spread_le m ps h in let b : times m ps ≡ 0 = ap (λ k. times k ps) (sym e) ∙ z in omega (arith, a, b))
      (λ ne. let a = spread_lt m n ps h (omega (arith, lt, ne)) z in let b = h m in omega (arith, a, b))

  -- no number is left out
  pub pigeons : (m n : ℕ) (ps : List A)
      → ((n : ℕ) → sum_by (λ p. same n (f p)) ps ≤ below n m) → ((n : ℕ) → sum_by (λ p. same n (f p)) ps ≤ 1) → m ≤ length ps
      → n < m → 1 ≤ sum_by (λ p. same n (f p)) ps
  pigeons m n ps h once long lt = dite (dec_le 1 (times n ps)) (λ e. e)
      (λ ne. let a = spread-all m ps h in let b = spread_lt m n ps once lt (omega (arith, ne)) in absurd (omega (arith, a, b, long)))
