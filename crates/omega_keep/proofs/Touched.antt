-- The places of the entries that touch a machine, once the history has one more entry.
use Rattle.std.proofs.Common.{◌≡◌, ℕ, zero, suc, ◌+◌, ◌-◌, ◌<◌, ◌≤◌, ◌⊎◌, inl, inr, Bool, true, false, ◌==◌, cond, List, [], ◌∷◌, ◌++◌, length, take, get_or, nat_lt, refl, ap, sym, ◌∙◌, subst, arith, Option, Some, None}
use Rattle.std.specs.Prelude.{slice_get}
use Rattle.std.specs.BTreeMap.{BTreeMap}
use Rattle.std.specs.List.Sorted.{IsPartitionedBy}
use Rattle.std.proofs.lemmas.Bool.{le-ltb, lt-ltb}
use Rattle.std.proofs.lemmas.Bool.Decides.{nat_tests}
use Rattle.std.proofs.lemmas.Grind.{common_steps}
use Rattle.std.proofs.lemmas.List.{length-append, get_or_append_left, get_or_push, take_all, take-append-le}
use Rattle.std.proofs.lemmas.Option.{get_or_from_slice_get}
use Rattle.omega_model.specs.Touches.{seq, touches}
use Rattle.omega_model.specs.declared.entries.Entry.{Entry}
use Rattle.omega_keep.specs.Touching.{ends_with, noted, places_of, ArePlacesOf, AreTouches, Splits}

-- ---- lists

take_each_more : {X : Type 0} (xs : List X) (x : X) → take (suc (length xs)) (xs ++ x ∷ []) ≡ xs ++ x ∷ []
take_each_more [] x = refl
take_each_more (y ∷ xs) x = ap (λ z. y ∷ z) (take_each_more xs x)

one_longer : {X : Type 0} (xs : List X) (x : X) → length (xs ++ x ∷ []) ≡ suc (length xs)
one_longer xs x = omega (arith, length-append xs (x ∷ []))

slice_get_below : (xs : List ℕ) (k x : ℕ) → slice_get xs k ≡ Some x → k < length xs
slice_get_below [] k x h = absurd cc
slice_get_below (y ∷ xs) zero x h = omega arith
slice_get_below (y ∷ xs) (suc k) x h = let one = slice_get_below xs k x h in omega (arith, one)

-- a number up to one more than another is up to that one, or is one more
up_to : (a b : ℕ) → a ≤ suc b → (a ≤ b) ⊎ (a ≡ suc b)
up_to zero b h = inl (omega arith)
up_to (suc a) zero h = inr (omega (arith, h))
up_to (suc a) (suc b) h = elim (up_to a b (omega (arith, h))) [
  | inl p ↦ inl (omega (arith, p))
  | inr p ↦ inr (omega (arith, p))
]

in_order : (a b : ℕ) → (a < b) ⊎ ((a ≡ b) ⊎ (b < a))
in_order zero zero = inr (inl refl)
in_order zero (suc b) = inl (omega arith)
in_order (suc a) zero = inr (inr (omega arith))
in_order (suc a) (suc b) = elim (in_order a b) [
  | inl p ↦ inl (omega (arith, p))
  | inr (inl p) ↦ inr (inl (ap suc p))
  | inr (inr p) ↦ inr (inr (omega (arith, p)))
]

is_below : (a b : ℕ) → nat_lt a b ≡ true → a < b
is_below a b h = grind (arith, nat_tests)

-- ---- places below a number

-- a place at the end that doesn't stand below a number
split_more : (seen : ℕ) (places : List ℕ) (count place : ℕ) → Splits seen places count → seen ≤ place → Splits seen (places ++ place ∷ []) count
split_more seen places count place h le = (
  omega (arith, h.0, one_longer places place),
  (
    λ k d low high. subst (λ z. nat_lt z seen ≡ true) (sym (get_or_append_left places (place ∷ []) d k (omega (arith, high, h.0)))) (h.1.0 k d low high),
    λ k d low high. elim (up_to (suc k) (length places) (omega (arith, high, one_longer places place))) [
      | inl p ↦ subst (λ z. nat_lt z seen ≡ false) (sym (get_or_append_left places (place ∷ []) d k (omega (arith, p)))) (h.1.1 k d low (omega (arith, p)))
      | inr p ↦ subst (λ z. nat_lt z seen ≡ false) (sym (get_or_push places place d k (omega (arith, p)))) (le-ltb place seen le)
    ],
  ),
)

-- all stand below the next number
split_next : (seen : ℕ) (places : List ℕ) → Splits seen places (length places) → Splits (suc seen) places (length places)
split_next seen places h = (
  omega arith,
  (
    λ k d low high. let one = is_below _ _ (h.1.0 k d low high) in lt-ltb _ _ (omega (arith, one)),
    λ k d low high. absurd (omega (arith, low, high)),
  ),
)

-- so they do with the number itself at the end
split_last : (seen : ℕ) (places : List ℕ) → Splits seen places (length places) → Splits (suc seen) (places ++ seen ∷ []) (suc (length places))
split_last seen places h = (
  omega (arith, one_longer places seen),
  (
    λ k d low high. elim (up_to (suc k) (length places) (omega (arith, high))) [
      | inl p ↦ let one = is_below _ _ (h.1.0 k d low (omega (arith, p))) in
          subst (λ z. nat_lt z (suc seen) ≡ true) (sym (get_or_append_left places (seen ∷ []) d k (omega (arith, p)))) (lt-ltb _ _ (omega (arith, one)))
      | inr p ↦ subst (λ z. nat_lt z (suc seen) ≡ true) (sym (get_or_push places seen d k (omega (arith, p)))) (lt-ltb seen (suc seen) (omega arith))
    ],
    λ k d low high. absurd (omega (arith, low, high, one_longer places seen)),
  ),
)

no_two : (seen : ℕ) (places : List ℕ) (a b : ℕ) → Splits seen places a → Splits seen places b → a < b → ⊥
no_two seen places a b ha hb lt =
    let one : true ≡ false = sym (hb.1.0 a 0 (omega arith) lt) ∙ ha.1.1 a 0 (omega arith) (omega (arith, lt, hb.0)) in absurd cc

-- a list splits in one way
pub one_split : (seen : ℕ) (places : List ℕ) (a b : ℕ) → Splits seen places a → Splits seen places b → a ≡ b
one_split seen places a b ha hb = elim (in_order a b) [
  | inl p ↦ absurd (no_two seen places a b ha hb p)
  | inr (inl p) ↦ p
  | inr (inr p) ↦ absurd (no_two seen places b a hb ha p)
]

-- ---- one more entry

seq_more : (history : List Entry) (entry : Entry) (id : ℕ) (b : Bool) → touches id entry ≡ b → seq (history ++ entry ∷ []) id ≡ seq history id + cond b 1 0
seq_more history entry id b e = grind (arith, common_steps)

-- all places of a history stand below its length
all_split : (history : List Entry) (id : ℕ) (places : List ℕ) → ArePlacesOf history id places → Splits (length history) places (length places)
all_split history id places old =
    subst (λ n. Splits (length history) places n) (ap (λ h. seq h id) (take_all (length history) history (omega arith)) ∙ sym old.count) (old.split (length history) (omega arith))

-- the places of an entry's machine, where the history is as long as that
at_end : (history : List Entry) (id seen : ℕ) (places : List ℕ) → (entry : Entry) → seen ≡ suc (length history) → length places ≡ seq (history ++ entry ∷ []) id
    → Splits (suc (length history)) places (length places) → Splits seen places (seq (take seen (history ++ entry ∷ [])) id)
at_end history id seen places entry e count h =
    let whole : seq (take (suc (length history)) (history ++ entry ∷ [])) id ≡ length places = ap (λ z. seq z id) (take_each_more history entry) ∙ sym count in
    subst (λ n. Splits n places (seq (take n (history ++ entry ∷ [])) id)) (sym e) (subst (λ n. Splits (suc (length history)) places n) (sym whole) h)

before_end : (history : List Entry) (id seen : ℕ) (places : List ℕ) (entry : Entry) → seen ≤ length history
    → Splits seen places (seq (take seen history) id) → Splits seen places (seq (take seen (history ++ entry ∷ [])) id)
before_end history id seen places entry le h = subst (λ z. Splits seen places (seq z id)) (sym (take-append-le seen history (entry ∷ []) le)) h

untouched : (history : List Entry) (entry : Entry) (id : ℕ) (places : List ℕ) → touches id entry ≡ false → ArePlacesOf history id places → ArePlacesOf (history ++ entry ∷ []) id places
untouched history entry id places e old =
    let count : length places ≡ seq (history ++ entry ∷ []) id = omega (arith, old.count, seq_more history entry id false e) in
    record {
      count = count;
      split = λ seen le. elim (up_to seen (length history) (omega (arith, le, one_longer history entry))) [
        | inl p ↦ before_end history id seen places entry p (old.split seen p)
        | inr p ↦ at_end history id seen places entry p count (split_next (length history) places (all_split history id places old))
      ];
    }

touched : (history : List Entry) (entry : Entry) (id : ℕ) (places : List ℕ) → touches id entry ≡ true → ArePlacesOf history id places → ArePlacesOf (history ++ entry ∷ []) id (places ++ length history ∷ [])
touched history entry id places e old =
    let longer = one_longer places (length history) in
    let count : length (places ++ length history ∷ []) ≡ seq (history ++ entry ∷ []) id = omega (arith, longer, old.count, seq_more history entry id true e) in
    record {
      count = count;
      split = λ seen le. elim (up_to seen (length history) (omega (arith, le, one_longer history entry))) [
        | inl p ↦ before_end history id seen _ entry p (split_more seen places _ (length history) (old.split seen p) p)
        | inr p ↦ at_end history id seen _ entry p count (subst (λ n. Splits (suc (length history)) (places ++ length history ∷ []) n) (sym longer) (split_last (length history) places (all_split history id places old)))
      ];
    }

-- what stands below a number isn't the number
other_number : (a b : ℕ) → a < b → (a == b) ≡ false
other_number a b h = grind (arith, nat_tests)

ends_other : (places : List ℕ) (place : ℕ) (last : Option ℕ) → slice_get places (length places - 1) ≡ last → ((x : ℕ) → last ≡ Some x → x < place) → ends_with place places ≡ false
ends_other places place None e h = rw e refl
ends_other places place (Some x) e h = rw e (other_number x place (h x refl))

last_below : (places : List ℕ) (place x : ℕ) → Splits place places (length places) → slice_get places (length places - 1) ≡ Some x → x < place
last_below places place x h is =
    let there = slice_get_below places (length places - 1) x is in
    is_below x place (subst (λ z. nat_lt z place ≡ true) (get_or_from_slice_get places (length places - 1) x 0 is) (h.1.0 (length places - 1) 0 (omega arith) there))

new_place : (history : List Entry) (id : ℕ) (places : List ℕ) → ArePlacesOf history id places → ends_with (length history) places ≡ false
new_place history id places old =
    ends_other places (length history) (slice_get places (length places - 1)) refl (λ x is. last_below places (length history) x (all_split history id places old) is)

-- the places of a machine after one more entry
pub places_push : (history : List Entry) (entry : Entry) (id : ℕ) (places : List ℕ) → ArePlacesOf history id places
    → ArePlacesOf (history ++ entry ∷ []) id (noted (length history) (touches id entry) places)
places_push history entry id places old = by_touch (touches id entry) refl where
  by_touch : (b : Bool) → touches id entry ≡ b → ArePlacesOf (history ++ entry ∷ []) id (noted (length history) b places)
  by_touch false e = untouched history entry id places e old
  by_touch true e = rw (new_place history id places old) (touched history entry id places e old)

-- the places of all machines after one more entry
pub touches_push : (places more : BTreeMap ℕ (List ℕ)) (history : List Entry) (entry : Entry) → AreTouches places history
    → ((id : ℕ) → places_of more id ≡ noted (length history) (touches id entry) (places_of places id)) → AreTouches more (history ++ entry ∷ [])
touches_push places more history entry old h id =
    subst (λ z. ArePlacesOf (history ++ entry ∷ []) id z) (sym (h id)) (places_push history entry id (places_of places id) (old id))

-- a list that splits anywhere splits as a search by halves asks
pub is_parted : (seen : ℕ) (places : List ℕ) (count : ℕ) → Splits seen places count → IsPartitionedBy (λ place. nat_lt place seen) places
is_parted seen places count h i j d le lt is = elim (in_order j count) [
  | inl p ↦ h.1.0 i d (omega arith) (omega (arith, le, p))
  | inr (inl p) ↦ absurd (clash (nat_lt (get_or places j d) seen) is (h.1.1 j d (omega (arith, p)) lt))
  | inr (inr p) ↦ absurd (clash (nat_lt (get_or places j d) seen) is (h.1.1 j d (omega (arith, p)) lt))
] where
  clash : (b : Bool) → b ≡ true → b ≡ false → ⊥
  clash b e f = cc
