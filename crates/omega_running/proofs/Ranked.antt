-- A list of tasks that is sorted by rank is the list of its tasks in order of eviction, and one that is sorted by key
-- that of its tasks in order of key.
use Rattle.std.proofs.Common.{◌≡◌, ℕ, ◌+◌, suc, Bool, true, false, ◌||◌, ◌&&◌, not, cond, eqb, ltb, List, [], ◌∷◌, get_or, refl, ap₂, sym, subst, ◌∙◌, ◌⊎◌, inl, inr, arith}
use Rattle.std.specs.List.{IsDistinct, AllByRecursion as Each}
use Rattle.std.specs.List.Sorted.{IsPermutation, IsSortedBy}
use Rattle.std.specs.Ordering.{is_lt, ordering_then, nat_cmp}
use Rattle.std.specs.declared.cmp.Ordering.TheVariants.{Less, Equal, Greater}
use Rattle.std.specs.Cmp.{IsStrictWeakOrder}
use Rattle.std.proofs.lemmas.Bool.{both_ways, or_cases, or_left, not_from_false, not-true, false_from_ne_true, and_right, cases_eq, eq-eqb, ne_eqb}
use Rattle.std.proofs.lemmas.List.Sorted.{All-permutation, IsPermutation-sym, sorted_far}
use Rattle.std.proofs.lemmas.Map.Keys.{IsDistinct-cons, IsDistinct-head, IsDistinct-tail, IsDistinct-IsPermutation}
use Rattle.omega_model.specs.Keys.{key_lt, same_key}
use Rattle.omega_model.specs.Cell.{goes_before, put_by_rank, by_rank}
use Rattle.omega_model.specs.declared.cells.Task.{Task}
use Rattle.omega_running.specs.declared.orders.Order.TheVariants.{ByKey}
use Rattle.omega_running.specs.Order.{Rises, IsInOrder, precedes}
use Rattle.omega_model.proofs.Lists.{each_map, each_both, each_of_all, all_of_each}
use Rattle.omega_running.proofs.Strict.{IsStrict, trans, apart}
use Rattle.omega_running.proofs.Lex.{lex_apart}
use Rattle.omega_running.proofs.InOrder.{rank_strict, strict, key_apart, apart_by_key}

-- an element of a list
abbrev In : {X : Type 0} → X → List X → Type 0
In z [] = ⊥
In z (x ∷ xs) = (x ≡ z) ⊎ In z xs

each_in : {X : Type 0} (P : X → Type 0) (xs : List X) (z : X) → Each P xs → In z xs → P z
each_in P [] z e i = absurd i
each_in P (x ∷ xs) z e (inl same) = rw (← same) e.0
each_in P (x ∷ xs) z e (inr i) = each_in P xs z e.1 i

each_itself : {X : Type 0} (xs : List X) → Each (λ z. In z xs) xs
each_itself [] = tt
each_itself (x ∷ xs) = (inl refl, each_map (λ z. In z xs) (λ z. In z (x ∷ xs)) (λ z i. inr i) xs (each_itself xs))

each_moved : {X : Type 0} (P : X → Type 0) (xs ys : List X) → IsPermutation xs ys → Each P xs → Each P ys
each_moved P xs ys h e = each_of_all P ys (All-permutation P xs ys h (all_of_each P xs e))

-- two lists that rise and have the same elements are one
only_one : {X : Type 0} (lt : X → X → Bool) → IsStrict lt → (xs ys : List X) → Rises lt xs → Rises lt ys → Each (λ z. In z ys) xs → Each (λ z. In z xs) ys → xs ≡ ys
only_one lt s [] [] u v e f = refl
only_one lt s [] (y ∷ ys) u v e f = absurd f.0
only_one lt s (x ∷ xs) [] u v e f = absurd e.0
only_one {X} lt s (x ∷ xs) (y ∷ ys) u v e f =
    let same : x ≡ y = elim e.0 [
      | inl q ↦ sym q
      | inr i ↦ elim f.0 [ inl q ↦ q | inr j ↦ absurd (both_ways _ (s.asym x y (each_in (λ z. lt x z ≡ true) xs y u.0 j)) (each_in (λ z. lt y z ≡ true) ys x v.0 i)) ]
    ] in
    let front = each_both (λ z. lt x z ≡ true) (λ z. (y ≡ z) ⊎ In z ys) (λ z. In z ys) (λ z p i. elim i [ inl q ↦ absurd (not_before lt s x z (same ∙ q) p) | inr j ↦ j ]) xs u.0 e.1 in
    let back = each_both (λ z. lt y z ≡ true) (λ z. (x ≡ z) ⊎ In z xs) (λ z. In z xs) (λ z p i. elim i [ inl q ↦ absurd (not_before lt s y z (sym same ∙ q) p) | inr j ↦ j ]) ys v.0 f.1 in
    ap₂ (λ (a : X) (as' : List X). a ∷ as') same (only_one lt s xs ys u.1 v.1 front back)
  where
    not_before : {Y : Type 0} (lt : Y → Y → Bool) → IsStrict lt → (a b : Y) → a ≡ b → lt a b ≡ true → ⊥
    not_before lt s a b q p = let h : lt a a ≡ true = rw (← q) at p in both_ways _ (s.asym a a h) h

-- tasks of different keys have different ranks
ranks_apart : (a b : Task) → same_key a.key b.key ≡ false → apart goes_before a b ≡ true
ranks_apart a b e =
    lex_apart a.spec.prec b.spec.prec (key_lt a.key b.key) (key_lt b.key a.key) (same_key a.key b.key) (key_apart a.key b.key)
    ∙ not_from_false _ (and_right _ _ e)

keys_differ : (a b : Task) → key_lt a.key b.key ≡ true → same_key a.key b.key ≡ false
keys_differ a b p = not-true _ (sym (key_apart a.key b.key) ∙ or_left _ _ p)

-- the order of eviction
pub each_put : (P : Task → Type 0) (t : Task) (xs : List Task) → P t → Each P xs → Each P (put_by_rank t xs)
each_put P t [] p e = (p, tt)
each_put P t (x ∷ xs) p e = go (goes_before x t) (each_put P t xs p e.1) where
  go : (b : Bool) → Each P (put_by_rank t xs) → Each P (cond b (x ∷ put_by_rank t xs) (t ∷ x ∷ xs))
  go true rest = (e.0, rest)
  go false rest = (p, e)

each_unput : (P : Task → Type 0) (t : Task) (xs : List Task) → Each P (put_by_rank t xs) → P t × Each P xs
each_unput P t [] e = e
each_unput P t (x ∷ xs) e = go (goes_before x t) (each_unput P t xs) e where
  go : (b : Bool) → (Each P (put_by_rank t xs) → P t × Each P xs) → Each P (cond b (x ∷ put_by_rank t xs) (t ∷ x ∷ xs)) → P t × Each P (x ∷ xs)
  go true rest e = let r = rest e.1 in (r.0, (e.0, r.1))
  go false rest e = e

pub each_ranked : (P : Task → Type 0) (xs : List Task) → Each P xs → Each P (by_rank xs)
each_ranked P [] e = tt
each_ranked P (x ∷ xs) e = each_put P x (by_rank xs) e.0 (each_ranked P xs e.1)

pub each_unranked : (P : Task → Type 0) (xs : List Task) → Each P (by_rank xs) → Each P xs
each_unranked P [] e = tt
each_unranked P (x ∷ xs) e = let r = each_unput P x (by_rank xs) e in (r.0, each_unranked P xs r.1)

put_rises : (t : Task) (xs : List Task) → Rises goes_before xs → Each (λ y. apart goes_before t y ≡ true) xs → Rises goes_before (put_by_rank t xs)
put_rises t [] u a = (tt, tt)
put_rises t (x ∷ xs) u a = go (goes_before x t) refl (put_rises t xs u.1 a.1) where
  go : (b : Bool) → goes_before x t ≡ b → Rises goes_before (put_by_rank t xs) → Rises goes_before (cond b (x ∷ put_by_rank t xs) (t ∷ x ∷ xs))
  go true h rest = (each_put (λ y. goes_before x y ≡ true) t xs h u.0, rest)
  go false h rest =
      let first : goes_before t x ≡ true = elim (or_cases (goes_before t x) (goes_before x t) a.0) [ inl e ↦ e | inr e ↦ absurd (both_ways _ h e) ] in
      ((first, each_map (λ y. goes_before x y ≡ true) (λ y. goes_before t y ≡ true) (λ y q. trans goes_before rank_strict t x y first q) xs u.0), u)

ranked_rises : (xs : List Task) → IsInOrder ByKey xs → Rises goes_before (by_rank xs)
ranked_rises [] u = tt
ranked_rises (x ∷ xs) u =
    put_rises x (by_rank xs) (ranked_rises xs u.1)
    (each_ranked (λ y. apart goes_before x y ≡ true) xs (each_map (λ y. key_lt x.key y.key ≡ true) (λ y. apart goes_before x y ≡ true) (λ y q. ranks_apart x y (keys_differ x y q)) xs u.0))

-- what a sort leaves
weak : {X : Type 0} (lt : X → X → Bool) → IsStrict lt → IsStrictWeakOrder lt
weak lt s = record {
  one_way = s.asym;
  chain = λ x y z p q. false_from_ne_true _ (λ e. elim (or_cases (lt x y) (lt y z) (s.link x z y e)) [ inl a ↦ both_ways _ p a | inr a ↦ both_ways _ q a ]);
}

rises_from_sorted : {X : Type 0} (lt : X → X → Bool) → IsStrict lt → (xs : List X) → IsSortedBy lt xs → Rises (λ x y. not (lt y x)) xs
rises_from_sorted lt s [] up = tt
rises_from_sorted lt s (x ∷ xs) up = (
  each_of_all (λ y. not (lt y x) ≡ true) xs (λ k d h. not_from_false _ (sorted_far lt (weak lt s) (x ∷ xs) up 0 (suc k) d (omega arith) (omega arith))),
  rises_from_sorted lt s xs (λ k d l h. subst (λ (n : ℕ). lt (get_or (x ∷ xs) n d) (get_or xs k d) ≡ false) (next k) (up (suc k) d (omega arith) (omega arith))),
)
  where
    next : (k : ℕ) → suc k + 1 ≡ suc (k + 1)
    next k = omega arith

same_flips : (a b : Task) → same_key a.key b.key ≡ same_key b.key a.key
same_flips a b = ap₂ (λ (x y : Bool). x && y) (eq_flips a.key.job b.key.job) (eq_flips a.key.index b.key.index) where
  eq_flips : (m n : ℕ) → eqb m n ≡ eqb n m
  eq_flips m n = elim (cases_eq m n) [ inl e ↦ eq-eqb m n e ∙ sym (eq-eqb n m (sym e)) | inr ne ↦ ne_eqb m n ne ∙ sym (ne_eqb n m (λ e. ne (sym e))) ]

distinct : (xs : List Task) → IsInOrder ByKey xs → IsDistinct (λ a b. same_key a.key b.key) xs
unfolding IsDistinct
distinct [] u = tt
distinct (x ∷ xs) u =
    IsDistinct-cons (λ a b. same_key a.key b.key) x xs
    (by_recursion (λ y. same_key x.key y.key ≡ false) xs (each_map (λ y. key_lt x.key y.key ≡ true) (λ y. same_key x.key y.key ≡ false) (keys_differ x) xs u.0)) (distinct xs u.1)
  where
    by_recursion : (P : Task → Type 0) (ys : List Task) → Each P ys → Each P ys
    by_recursion P [] e = tt
    by_recursion P (y ∷ ys) e = (e.0, by_recursion P ys e.1)

rises_strictly : (lt : Task → Task → Bool) → ((a b : Task) → same_key a.key b.key ≡ false → apart lt a b ≡ true) → (xs : List Task) → Rises (λ x y. not (lt y x)) xs → IsDistinct (λ a b. same_key a.key b.key) xs → Rises lt xs
rises_strictly lt differ [] u d = tt
rises_strictly lt differ (x ∷ xs) u d =
    let head = from_recursion (λ y. same_key x.key y.key ≡ false) xs (IsDistinct-head (λ a b. same_key a.key b.key) x xs d) in
    let later = each_both (λ y. not (lt y x) ≡ true) (λ y. same_key x.key y.key ≡ false) (λ y. lt x y ≡ true)
    (λ y p q. elim (or_cases (lt x y) (lt y x) (differ x y q)) [ inl e ↦ e | inr e ↦ absurd (both_ways _ (not-true _ p) e) ]) xs u.0 head in
    (later, rises_strictly lt differ xs u.1 (IsDistinct-tail (λ a b. same_key a.key b.key) x xs d))
  where
    from_recursion : (P : Task → Type 0) (ys : List Task) → Each P ys → Each P ys
    from_recursion P [] e = tt
    from_recursion P (y ∷ ys) e = (e.0, from_recursion P ys e.1)

sorted_rises : (lt : Task → Task → Bool) → IsStrict lt → ((a b : Task) → same_key a.key b.key ≡ false → apart lt a b ≡ true) → (xs ys : List Task) → IsInOrder ByKey xs → IsPermutation xs ys → IsSortedBy lt ys → Rises lt ys
sorted_rises lt s differ xs ys u moved up =
    rises_strictly lt differ ys (rises_from_sorted lt s ys up) (IsDistinct-IsPermutation (λ a b. same_key a.key b.key) same_flips xs ys moved (distinct xs u))

pub by_rank_is : (xs ys : List Task) → IsInOrder ByKey xs → IsPermutation xs ys → IsSortedBy goes_before ys → by_rank xs ≡ ys
by_rank_is xs ys u moved up =
    only_one goes_before rank_strict (by_rank xs) ys (ranked_rises xs u) (sorted_rises goes_before rank_strict ranks_apart xs ys u moved up)
    (each_ranked (λ z. In z ys) xs (each_moved (λ z. In z ys) ys xs (IsPermutation-sym xs ys moved) (each_itself ys)))
    (each_moved (λ z. In z (by_rank xs)) xs ys moved (each_unranked (λ z. In z (by_rank xs)) xs (each_itself (by_rank xs))))

-- a list in order of key is the only one of its tasks that is sorted by key
pub by_key_is : (xs ys : List Task) → IsInOrder ByKey xs → IsPermutation xs ys → IsSortedBy (precedes ByKey) ys → xs ≡ ys
by_key_is xs ys u moved up =
    only_one (precedes ByKey) (strict ByKey) xs ys u
    (sorted_rises (precedes ByKey) (strict ByKey) (λ a b e. apart_by_key a b ∙ not_from_false _ e) xs ys u moved up)
    (each_moved (λ z. In z ys) ys xs (IsPermutation-sym xs ys moved) (each_itself ys))
    (each_moved (λ z. In z xs) xs ys moved (each_itself xs))

-- the orders of the keys that are sorted by
two : (a b c d : Bool) → is_lt (ordering_then (cond a Less (cond b Equal Greater)) (cond c Less (cond d Equal Greater))) ≡ (a || (b && c))
two true b c d = refl
two false false c d = refl
two false true true d = refl
two false true false true = refl
two false true false false = refl

pub goes_by_key : (x y : Task) → is_lt (ordering_then (nat_cmp x.key.job y.key.job) (nat_cmp x.key.index y.key.index)) ≡ precedes ByKey x y
goes_by_key x y = two (ltb x.key.job y.key.job) (eqb x.key.job y.key.job) (ltb x.key.index y.key.index) (eqb x.key.index y.key.index)

three : (a b c d e f : Bool) → is_lt (ordering_then (ordering_then (cond a Less (cond b Equal Greater)) (cond c Less (cond d Equal Greater))) (cond e Less (cond f Equal Greater))) ≡ (a || (b && (c || (d && e))))
three true b c d e f = refl
three false false c d e f = refl
three false true true d e f = refl
three false true false false e f = refl
three false true false true true f = refl
three false true false true false true = refl
three false true false true false false = refl

pub ranks_by_key : (x y : Task) → is_lt (ordering_then (ordering_then (nat_cmp x.spec.prec y.spec.prec) (nat_cmp x.key.job y.key.job)) (nat_cmp x.key.index y.key.index)) ≡ goes_before x y
ranks_by_key x y = three (ltb x.spec.prec y.spec.prec) (eqb x.spec.prec y.spec.prec) (ltb x.key.job y.key.job) (eqb x.key.job y.key.job) (ltb x.key.index y.key.index) (eqb x.key.index y.key.index)
