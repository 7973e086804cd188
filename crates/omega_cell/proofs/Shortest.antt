-- The shortest beginning of some names that passes a test.
use Rattle.std.proofs.Common.{◌≡◌, ℕ, zero, suc, ◌+◌, ◌<◌, ◌≤◌, Bool, true, false, inl, inr, List, length, take, map, Some, sym, ap, ◌∙◌, subst, arith}
use Rattle.std.specs.List.{find, range_with_len}
use Rattle.std.proofs.lemmas.Bool.{cases_eq}
use Rattle.std.proofs.lemmas.Option.{none-some, same_Some}
use Rattle.omega_model.specs.Keys.{beginnings}
use Rattle.omega_model.specs.declared.cells.TaskKey.{TaskKey}
use Rattle.omega_model.proofs.Lists.{by_answer}

-- the first number from a place on whose answer passes a test
record IsFirst {X : Type 0} (p : X → Bool) (f : ℕ → X) (from : ℕ) (found : X) : Type 0 where
  number : ℕ
  is : found ≡ f number
  passes : p found ≡ true
  least : (n : ℕ) → from ≤ n → n < number → p (f n) ≡ false

first_found : {X : Type 0} (p : X → Bool) (f : ℕ → X) (from count : ℕ) (found : X) → find p (map f (range_with_len from count)) ≡ Some found → IsFirst p f from found
first_found p f from zero found is = absurd (none-some found is)
first_found p f from (suc count) found is =
    by_answer (p (f from))
    (λ t.
    let same : f from ≡ found = same_Some (f from) found (rw t at is) in
    record {
      number = from;
      is = sym same;
      passes = ap p (sym same) ∙ t;
      least = λ n after before. absurd (omega (arith, after, before));
    })
    (λ none.
    let later = first_found p f (from + 1) count found (rw none at is) in
    record {
      number = later.number;
      is = later.is;
      passes = later.passes;
      least = λ n after before. elim (cases_eq n from) [
        | inl same ↦ subst (λ (m : ℕ). p (f m) ≡ false) (sym same) none
        | inr other ↦ later.least n (omega (arith, after, other)) before
      ];
    })

-- what is found among the beginnings of some names: so many of them pass, and no fewer do
pub record IsShortest (p : List TaskKey → Bool) (keys found : List TaskKey) : Type 0 where
  pub count : ℕ
  pub is : found ≡ take count keys
  pub passes : p found ≡ true
  pub least : (n : ℕ) → n < count → p (take n keys) ≡ false

pub shortest : (p : List TaskKey → Bool) (keys found : List TaskKey) → find p (beginnings keys) ≡ Some found → IsShortest p keys found
shortest p keys found is =
    let first = first_found p (λ n. take n keys) 0 (length keys + 1) found is in
    record { count = first.number; is = first.is; passes = first.passes; least = λ n before. first.least n (omega arith) before }
