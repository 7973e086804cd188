-- Lists by the places of their items: one more item, an item changed, and the first that passes a test.
use Rattle.std.proofs.Common.{◌≡◌, ◌≢◌, ◌≤◌, ◌<◌, ◌+◌, ℕ, zero, suc, Bool, true, false, cond, List, [], ◌∷◌, ◌++◌, length, map, set, Option, Some, None, refl, sym, ap, subst, arith, ◌∙◌, inl, inr, get_or}
use Rattle.std.specs.Prelude.{◌⊎◌, slice_get, option_map, option_and_then}
use Rattle.std.specs.List.{position, position_or_len, sum_by}
use Rattle.std.proofs.lemmas.Bool.{lt-ltb, cases_lt}
use Rattle.std.proofs.lemmas.List.Quantifiers.{position-Some}
use Rattle.std.proofs.lemmas.List.Sums.{fails_before_first, sum_by-cons, sum_by-set}
use Rattle.std.proofs.lemmas.Option.{get_or_from_slice_get, slice_get_within, slice_get-map}
use Rattle.omega_rounds.specs.Stages.{synced_at}

module _ {X : Type 0} where
  -- at a place of a list with one more item stands an item that was there, or the new one
  pub push_cases : (xs : List X) (x : X) (place : ℕ) (y : X) → slice_get (xs ++ x ∷ []) place ≡ Some y
      → (slice_get xs place ≡ Some y) ⊎ ((place ≡ length xs) × (x ≡ y))
  push_cases [] x zero y is = inr (refl, cc)
  push_cases [] x (suc place) y is = absurd (cc)
  push_cases (a ∷ xs) x zero y is = inl is
  push_cases (a ∷ xs) x (suc place) y is = elim (push_cases xs x place y is) [
    | inl old ↦ inl old
    | inr new ↦ inr (ap (λ (n : ℕ). suc n) new.0, new.1)
  ]

  -- at a place of a list in which one item is changed stands the new item, or what was there
  pub set_cases : (xs : List X) (i : ℕ) (x : X) (place : ℕ) (y : X) → slice_get (set xs i x) place ≡ Some y
      → ((place ≡ i) × (x ≡ y)) ⊎ ((place ≢ i) × (slice_get xs place ≡ Some y))
  set_cases [] i x place y is = absurd (cc)
  set_cases (a ∷ xs) zero x zero y is = inl (refl, cc)
  set_cases (a ∷ xs) zero x (suc place) y is = inr (λ same. let e : suc place ≡ zero = same in absurd (omega arith), is)
  set_cases (a ∷ xs) (suc i) x zero y is = inr (λ same. let e : zero ≡ suc i = same in absurd (omega arith), is)
  set_cases (a ∷ xs) (suc i) x (suc place) y is = elim (set_cases xs i x place y is) [
    | inl new ↦ inl (ap (λ (n : ℕ). suc n) new.0, new.1)
    | inr old ↦ inr (λ same. let e : suc place ≡ suc i = same in old.0 (omega (arith, e)), old.1)
  ]

  pub set-same : (xs : List X) (i : ℕ) (x y : X) → slice_get xs i ≡ Some y → slice_get (set xs i x) i ≡ Some x
  set-same [] i x y is = absurd (cc)
  set-same (a ∷ xs) zero x y is = refl
  set-same (a ∷ xs) (suc i) x y is = set-same xs i x y is

  pub set-other : (xs : List X) (i : ℕ) (x : X) (place : ℕ) → place ≢ i → slice_get (set xs i x) place ≡ slice_get xs place
  set-other [] i x place apart = refl
  set-other (a ∷ xs) zero x zero apart = absurd (apart refl)
  set-other (a ∷ xs) zero x (suc place) apart = refl
  set-other (a ∷ xs) (suc i) x zero apart = refl
  set-other (a ∷ xs) (suc i) x (suc place) apart = set-other xs i x place (λ same. apart (ap (λ (n : ℕ). suc n) same))

  -- an item that is put where it stands
  pub set_itself : (xs : List X) (i : ℕ) (x : X) → slice_get xs i ≡ Some x → set xs i x ≡ xs
  set_itself [] i x is = refl
  set_itself (a ∷ xs) zero x is = let same : a ≡ x = cc in ap (λ (y : X). y ∷ xs) (sym same)
  set_itself (a ∷ xs) (suc i) x is = ap (λ (ys : List X). a ∷ ys) (set_itself xs i x is)

  -- what is seen of an item that is changed unseen
  pub map_set_same : {Y : Type 0} (f : X → Y) (xs : List X) (i : ℕ) (x y : X) → slice_get xs i ≡ Some y → f x ≡ f y → map f (set xs i x) ≡ map f xs
  map_set_same f [] i x y is same = refl
  map_set_same f (a ∷ xs) zero x y is same = let here : a ≡ y = cc in ap (λ (z : _). z ∷ map f xs) (same ∙ ap f (sym here))
  map_set_same f (a ∷ xs) (suc i) x y is same = ap (λ (zs : List _). f a ∷ zs) (map_set_same f xs i x y is same)

  -- the sum after an item is changed
  pub sum_set : (f : X → ℕ) (xs : List X) (i : ℕ) (x y : X) → slice_get xs i ≡ Some y → sum_by f (set xs i x) + f y ≡ sum_by f xs + f x
  sum_set f xs i x y is =
      subst (λ (z : X). sum_by f (set xs i x) + f z ≡ sum_by f xs + f x) (get_or_from_slice_get xs i y y is)
      (sum_by-set f xs i x y (slice_get_within xs i y is))

  -- no item passes where none is the first that does
  pub none_first : (p : X → Bool) (xs : List X) → position p xs ≡ None → (place : ℕ) (x : X) → slice_get xs place ≡ Some x → p x ≡ false
  none_first p xs none place x is =
      let within : place < length xs = slice_get_within xs place x is in
      elim (cases_lt (position_or_len p xs) (length xs)) [
        | inl some ↦
            let clash : Some (position_or_len p xs) ≡ None = subst (λ (b : Bool). cond b (Some (position_or_len p xs)) None ≡ None) (lt-ltb _ _ some) none in
            absurd (cc)
        | inr past ↦
            subst (λ (z : X). p z ≡ false) (get_or_from_slice_get xs place x x is)
            (fails_before_first p xs place x (omega (arith, within, past)))
      ]

  -- the first that passes isn't past the end
  pub first_past : (p : X → Bool) (xs : List X) (first : ℕ) → position p xs ≡ Some first → length xs ≤ first → ⊥
  first_past p [] first is past = absurd (cc)
  first_past p (x ∷ xs) first is past = let found = position-Some p (x ∷ xs) first x is in omega (arith, found.0, past)

  -- the first item that passes
  pub some_first : (p : X → Bool) (xs : List X) (first : ℕ) (d : X) → position p xs ≡ Some first
      → (first < length xs) × ((p (get_or xs first d) ≡ true) × ((place : ℕ) (x : X) → place < first → slice_get xs place ≡ Some x → p x ≡ false))
  some_first p xs first d is =
      let found = position-Some p xs first d is in
      (found.0, (found.1, λ place x before here. subst (λ (z : X). p z ≡ false) (get_or_from_slice_get xs place x d here) (found.2 place before)))

  -- what a place of a list is seen as
  pub seen_at : (f : X → Option ℕ) (xs : List X) (place : ℕ) (x : X) → slice_get xs place ≡ Some x → synced_at (map f xs) place ≡ f x
  seen_at f xs place x is =
      ap (option_and_then (λ (seen : Option ℕ). seen)) (slice_get-map f xs place ∙ ap (option_map f) is)

  pub seen-other : (f : X → Option ℕ) (xs : List X) (i : ℕ) (x : X) (place : ℕ) → place ≢ i → synced_at (map f (set xs i x)) place ≡ synced_at (map f xs) place
  seen-other f xs i x place apart =
      ap (option_and_then (λ (seen : Option ℕ). seen))
      (slice_get-map f (set xs i x) place ∙ ap (option_map f) (set-other xs i x place apart) ∙ sym (slice_get-map f xs place))

  -- where each item is seen as nothing, so is each place
  pub seen_none : (f : X → Option ℕ) (xs : List X) → ((place : ℕ) (x : X) → slice_get xs place ≡ Some x → f x ≡ None)
      → (place : ℕ) → synced_at (map f xs) place ≡ None
  seen_none f [] none place = refl
  seen_none f (x ∷ xs) none zero = none zero x refl
  seen_none f (x ∷ xs) none (suc place) = seen_none f xs (λ at y is. none (suc at) y is) place

-- where a sum is nothing so is each of its parts
pub sum_none : {X : Type 0} (f : X → ℕ) (xs : List X) → sum_by f xs ≡ 0 → (place : ℕ) (x : X) → slice_get xs place ≡ Some x → f x ≡ 0
sum_none f [] none place x is = absurd (cc)
sum_none f (y ∷ xs) none zero x is =
    let split : sum_by f (y ∷ xs) ≡ f y + sum_by f xs = sum_by-cons f y xs in
    let here : y ≡ x = cc in
    subst (λ (z : _). f z ≡ 0) here (omega (arith, split, none))
sum_none f (y ∷ xs) none (suc place) x is =
    let split : sum_by f (y ∷ xs) ≡ f y + sum_by f xs = sum_by-cons f y xs in
    sum_none f xs (omega (arith, split, none)) place x is

-- and a sum of nothing is nothing
pub sum_of_none : {X : Type 0} (f : X → ℕ) (xs : List X) → ((place : ℕ) (x : X) → slice_get xs place ≡ Some x → f x ≡ 0) → sum_by f xs ≡ 0
sum_of_none f [] none = refl
sum_of_none f (y ∷ xs) none =
    let split : sum_by f (y ∷ xs) ≡ f y + sum_by f xs = sum_by-cons f y xs in
    let first : f y ≡ 0 = none zero y refl in
    let rest : sum_by f xs ≡ 0 = sum_of_none f xs (λ place x is. none (suc place) x is) in
    omega (arith, split, first, rest)
