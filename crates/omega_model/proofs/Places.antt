-- What a map or a set of numbers finds at a key.
use Rattle.std.proofs.Common.{◌≡◌, ℕ, true, false, refl, inl, inr, arith}
use Rattle.std.specs.BTreeMap.{is_at}
use Rattle.std.specs.Ordering.{nat_cmp}
use Rattle.std.proofs.lemmas.Bool.{cases_order, eq-eqb, le-ltb, lt-ltb, ne_eqb}

-- a key is found at itself
pub at_place : (p q : ℕ) → p ≡ q → is_at (nat_cmp p) q ≡ true
at_place p q e = rw (le-ltb p q (omega arith), eq-eqb p q e) refl

-- and nowhere else
pub off_place : (p q : ℕ) → (p ≡ q → ⊥) → is_at (nat_cmp p) q ≡ false
off_place p q ne =
    elim (cases_order p q) [
      | inl e ↦ absurd (ne e)
      | inr (inl less) ↦ rw (lt-ltb p q less) refl
      | inr (inr more) ↦ rw (le-ltb p q (omega arith), ne_eqb p q ne) refl
    ]
