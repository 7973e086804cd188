-- The tasks that are wanted at the end of a trace and don't run.
use Rattle.std.proofs.Common.{◌≡◌, ℕ, ◌+◌, ◌<◌, Bool, true, false, not, ◌||◌, ◌==◌, List, [], ◌∷◌, ◌++◌, length, drop, get_or, refl, ap, sym, ◌∙◌, inl, inr}
use Rattle.std.specs.BTreeMap.{is_at}
use Rattle.std.specs.BTreeSet as set
use Rattle.std.specs.BTreeSet.{BTreeSet}
use Rattle.std.specs.List.{fold, list_any}
use Rattle.std.specs.Ordering.{nat_cmp}
use Rattle.std.proofs.lemmas.Bool.{eq-eqb, ne_eqb, cases_eq}
use Rattle.std.proofs.lemmas.List.{drop_more}
use Rattle.std.proofs.lemmas.List.Folds.{list_any-append}
use Rattle.omega_model.proofs.Places.{at_place, off_place}
use Rattle.omega_model.specs.Feed.{each_once}
use Rattle.omega_feed.proofs.JobList.{add_once, each_added}

-- a set has the numbers of a list
abbrev pub HasThese : BTreeSet ℕ → List ℕ → Type 0
HasThese seen once = (n : ℕ) → set.contains nat_cmp seen n ≡ list_any (λ m. m == n) once

-- a number that is new
pub these_more : (seen more : BTreeSet ℕ) (once : List ℕ) (n : ℕ) → HasThese seen once → set.Updates nat_cmp seen more n true → HasThese more (once ++ n ∷ [])
these_more seen more once n has updates m =
    elim (cases_eq n m) [
      | inl same ↦ updates.0 m ∙ rw (at_place n m same, list_any-append (λ k. k == m) once (n ∷ []), eq-eqb n m same) (sym (either_true (list_any (λ k. k == m) once)))
      | inr ne ↦ updates.2 m (off_place n m ne) ∙ has m ∙ rw (list_any-append (λ k. k == m) once (n ∷ []), ne_eqb n m ne) (sym (either_false (list_any (λ k. k == m) once)))
    ] where
      either_true : (b : Bool) → (b || true) ≡ true
      either_true true = refl
      either_true false = refl

      either_false : (b : Bool) → (b || false) ≡ b
      either_false true = refl
      either_false false = refl

-- a number that is there
pub these_same : (seen more : BTreeSet ℕ) (once : List ℕ) (n : ℕ) → HasThese seen once → list_any (λ m. m == n) once ≡ true → set.Updates nat_cmp seen more n true → HasThese more once
these_same seen more once n has there updates m =
    elim (cases_eq n m) [
      | inl same ↦ updates.0 m ∙ rw (at_place n m same) (sym (ap (λ k. list_any (λ j. j == k) once) (sym same) ∙ there))
      | inr ne ↦ updates.2 m (off_place n m ne) ∙ has m
    ]

-- the numbers so far, of which all are seen, and what is left make all
abbrev pub Adds : List ℕ → ℕ → BTreeSet ℕ → List ℕ → Type 0
Adds numbers place seen once = (fold add_once once (drop place numbers) ≡ each_once numbers) × HasThese seen once

pub adds_none : (numbers : List ℕ) (seen : BTreeSet ℕ) (once : List ℕ) → seen.keys ≡ [] → once ≡ [] → Adds numbers 0 seen once
adds_none numbers seen once none empty = (
  ap (λ (ns : List ℕ). fold add_once ns numbers) empty ∙ each_added numbers,
  λ n. ap (list_any (is_at (nat_cmp n))) none ∙ sym (ap (list_any (λ m. m == n)) empty),
)

module _ (numbers : List ℕ) (place : ℕ) (below : place < length numbers) (seen more : BTreeSet ℕ) (once : List ℕ) (so : Adds numbers place seen once)
    (updates : set.Updates nat_cmp seen more (get_or numbers place 0) true) where
  -- the next number goes through
  next : fold add_once (add_once once (get_or numbers place 0)) (drop (place + 1) numbers) ≡ each_once numbers
  next = sym (ap (fold add_once once) (drop_more numbers place 0 below)) ∙ so.0

  -- it is new
  pub adds_new : true ≡ not (set.contains nat_cmp seen (get_or numbers place 0)) → Adds numbers (place + 1) more (once ++ get_or numbers place 0 ∷ [])
  adds_new new =
      let n = get_or numbers place 0 in
      let absent : list_any (λ m. m == n) once ≡ false = sym (so.1 n) ∙ not_true (set.contains nat_cmp seen n) (sym new) in
      let one : add_once once n ≡ once ++ n ∷ [] = rw absent refl in
      (sym (ap (λ (ns : List ℕ). fold add_once ns (drop (place + 1) numbers)) one) ∙ next, these_more seen more once n so.1 updates)
    where
      not_true : (b : Bool) → not b ≡ true → b ≡ false
      not_true true e = sym e
      not_true false e = refl

  -- or it is there
  pub adds_old : false ≡ not (set.contains nat_cmp seen (get_or numbers place 0)) → Adds numbers (place + 1) more once
  adds_old old =
      let n = get_or numbers place 0 in
      let there : list_any (λ m. m == n) once ≡ true = sym (so.1 n) ∙ not_false (set.contains nat_cmp seen n) (sym old) in
      let one : add_once once n ≡ once = rw there refl in
      (sym (ap (λ (ns : List ℕ). fold add_once ns (drop (place + 1) numbers)) one) ∙ next, these_same seen more once n so.1 there updates)
    where
      not_false : (b : Bool) → not b ≡ false → b ≡ true
      not_false true e = refl
      not_false false e = sym e
