-- Items in order of a number: there is one such list in which those of one number stand as they stood.
use Rattle.std.proofs.Common.{◌≡◌, ℕ, suc, ◌<◌, ◌≤◌, Bool, true, false, cond, not, ◌&&◌, eqb, ltb, List, [], ◌∷◌, ◌++◌, length, get_or, refl, ap, sym, ◌∙◌, inl, inr, arith}
use Rattle.std.specs.List.{filter, AllByRecursion as Each}
use Rattle.std.specs.List.Sorted.{IsSortedByKey, IsStableByKey, IsNonDecreasingBy, ties}
use Rattle.std.specs.Ordering.{nat_cmp, is_lt}
use Rattle.std.proofs.lemmas.Bool.{lt-ltb, le-ltb, eq-eqb, ne_eqb, ltb-true, ltb-false, eqb-true, cases_order}
use Rattle.std.proofs.lemmas.List.Elements.{filter_agree}
use Rattle.std.proofs.lemmas.List.Sorted.{IsNonDecreasingBy-from_sort}
use Rattle.omega_model.proofs.Lists.{each_append, each_map, filter_none}
use Rattle.omega_model.specs.Feed.{time_of, put_by_time, by_time}
use Rattle.omega_model.specs.declared.rows.Row.{Row}
use Rattle.omega_feed.specs.Events.{Rise, has_time}

pub none_below : {X : Type 0} (key : X → ℕ) (n : ℕ) (x : X) (xs : List X) → n < key x → Rise key (x ∷ xs) → filter (has_time key n) (x ∷ xs) ≡ []
none_below {X} key n x xs h r =
    filter_none (has_time key n) (x ∷ xs) (
      ne_eqb (key x) n (λ e. omega arith),
      each_map (λ y. key x ≤ key y) (λ y. has_time key n y ≡ false) (λ y p. ne_eqb (key y) n (λ e. omega arith)) xs r.0,
    )

-- what has the number of the first item isn't nothing
some_at : {X : Type 0} (key : X → ℕ) (x : X) (xs : List X) → filter (has_time key (key x)) (x ∷ xs) ≡ x ∷ filter (has_time key (key x)) xs
some_at key x xs = rw (eq-eqb (key x) (key x) refl) refl

not_above : {X : Type 0} (key : X → ℕ) (x y : X) (xs ys : List X) → Rise key (y ∷ ys)
    → filter (has_time key (key x)) (x ∷ xs) ≡ filter (has_time key (key x)) (y ∷ ys) → key y ≤ key x
not_above key x y xs ys r same =
    elim (cases_order (key x) (key y)) [
      | inl e ↦ omega arith
      | inr (inl less) ↦ absurd (nothing (sym (some_at key x xs) ∙ same ∙ none_below key (key x) y ys less r))
      | inr (inr more) ↦ omega arith
    ] where
      nothing : x ∷ filter (has_time key (key x)) xs ≡ [] → ⊥
      nothing e = cc

same_tail : {X : Type 0} (b : Bool) (x : X) (xs ys : List X) → cond b (x ∷ xs) xs ≡ cond b (x ∷ ys) ys → xs ≡ ys
same_tail true x xs ys e = cc
same_tail false x xs ys e = e

-- two lists in order that hold the same items at each number are one
pub one_order : {X : Type 0} (key : X → ℕ) (xs ys : List X) → Rise key xs → Rise key ys
    → ((x : X) → filter (has_time key (key x)) xs ≡ filter (has_time key (key x)) ys) → xs ≡ ys
one_order key [] [] r s same = refl
one_order key [] (y ∷ ys) r s same = let e = same y ∙ some_at key y ys in absurd (cc)
one_order key (x ∷ xs) [] r s same = let e = sym (some_at key x xs) ∙ same x in absurd (cc)
one_order {X} key (x ∷ xs) (y ∷ ys) r s same =
    let low = not_above key x y xs ys s (same x) in
    let high = not_above key y x ys xs r (sym (same y)) in
    let level : key y ≡ key x = omega arith in
    let first : x ≡ y = firsts (sym (some_at key x xs) ∙ same x ∙ rw (eq-eqb (key y) (key x) level) refl) in
    rw (sym first) (ap (λ zs. x ∷ zs) (one_order key xs ys r.1 s.1 (λ z. rest z first))) where
      firsts : x ∷ filter (has_time key (key x)) xs ≡ y ∷ filter (has_time key (key x)) ys → x ≡ y
      firsts e = cc

      rest : (z : X) → x ≡ y → filter (has_time key (key z)) xs ≡ filter (has_time key (key z)) ys
      rest z e =
          same_tail (has_time key (key z) x) x _ _
          (same z ∙ rw (sym e) refl)

-- what a sort by number says
rise_from_indices : {X : Type 0} (key : X → ℕ) (xs : List X) → IsNonDecreasingBy key xs → Rise key xs
rise_from_indices key [] h = tt
rise_from_indices key (x ∷ xs) h =
    (bounds xs (λ j d p. h 0 (suc j) d (omega arith) (omega arith)), rise_from_indices key xs (λ i j d p q. h (suc i) (suc j) d (omega arith) (omega arith))) where
      bounds : (ys : List _) → ((j : ℕ) (d : _) → j < length ys → key x ≤ key (get_or ys j d)) → Each (λ y. key x ≤ key y) ys
      bounds [] g = tt
      bounds (y ∷ ys) g = (g 0 y (omega arith), bounds ys (λ j d p. g (suc j) d (omega arith)))

pub rise_from_sort : {X : Type 0} (key : X → ℕ) (xs : List X) → IsSortedByKey key nat_cmp xs → Rise key xs
rise_from_sort key xs h = rise_from_indices key xs (IsNonDecreasingBy-from_sort key xs h)

tie_is : (a b : ℕ) → (not (is_lt (nat_cmp a b)) && not (is_lt (nat_cmp b a))) ≡ eqb b a
tie_is a b =
    elim (cases_order a b) [
      | inl e ↦ rw (le-ltb a b (omega arith), le-ltb b a (omega arith), eq-eqb a b e, eq-eqb b a (sym e)) refl
      | inr (inl less) ↦ rw (lt-ltb a b less, ne_eqb b a (λ e. omega arith)) refl
      | inr (inr more) ↦ rw (le-ltb a b (omega arith), lt-ltb b a more, ne_eqb a b (λ e. omega arith), ne_eqb b a (λ e. omega arith)) refl
    ]

-- what a stable sort by number says
pub same_from_stable : {X : Type 0} (key : X → ℕ) (xs ys : List X) → IsStableByKey key nat_cmp xs ys
    → (x : X) → filter (has_time key (key x)) ys ≡ filter (has_time key (key x)) xs
same_from_stable {X} key xs ys h x =
    let lt : X → X → Bool = λ a b. is_lt (nat_cmp (key a) (key b)) in
    let p = filter_agree (ties lt x) (has_time key (key x)) (λ y. tie_is (key x) (key y)) in
    sym (p ys) ∙ h x ∙ p xs

pub each_put : (P : Row → Type 0) (row : Row) (rows : List Row) → P row → Each P rows → Each P (put_by_time row rows)
each_put P row [] p e = (p, tt)
each_put P row (other ∷ rows) p e = by_cases (ltb (time_of other) (time_of row)) (each_put P row rows p e.1) where
  by_cases : (b : Bool) → Each P (put_by_time row rows) → Each P (cond b (other ∷ put_by_time row rows) (row ∷ other ∷ rows))
  by_cases true f = (e.0, f)
  by_cases false f = (p, e)

rise_put : (row : Row) (rows : List Row) → Rise time_of rows → Rise time_of (put_by_time row rows)
rise_put row [] r = (tt, tt)
rise_put row (other ∷ rows) r =
    by_cases (ltb (time_of other) (time_of row)) refl (rise_put row rows r.1) where
      by_cases : (b : Bool) → ltb (time_of other) (time_of row) ≡ b → Rise time_of (put_by_time row rows)
          → Rise time_of (cond b (other ∷ put_by_time row rows) (row ∷ other ∷ rows))
      by_cases true is s =
          let h : time_of other < time_of row = ltb-true _ _ is in
          (each_put (λ y. time_of other ≤ time_of y) row rows (omega arith) r.0, s)
      by_cases false is s =
          let h : time_of row ≤ time_of other = ltb-false _ _ is in
          ((h, each_map (λ y. time_of other ≤ time_of y) (λ y. time_of row ≤ time_of y) (λ y p. omega arith) rows r.0), r)

swapped : (n : ℕ) (other row : Row) (F G : List Row) → time_of other < time_of row → F ≡ cond (has_time time_of n row) (row ∷ G) G
    → cond (has_time time_of n other) (other ∷ F) F ≡ cond (has_time time_of n row) (row ∷ cond (has_time time_of n other) (other ∷ G) G) (cond (has_time time_of n other) (other ∷ G) G)
swapped n other row F G h e = by_cases (has_time time_of n other) (has_time time_of n row) refl refl e where
  by_cases : (a b : Bool) → eqb (time_of other) n ≡ a → eqb (time_of row) n ≡ b → F ≡ cond b (row ∷ G) G
      → cond a (other ∷ F) F ≡ cond b (row ∷ cond a (other ∷ G) G) (cond a (other ∷ G) G)
  by_cases true true p q f =
      let i : time_of other ≡ n = eqb-true _ _ p in
      let j : time_of row ≡ n = eqb-true _ _ q in
      absurd (omega arith)
  by_cases true false p q f = ap (λ z. other ∷ z) f
  by_cases false b p q f = f

filter_put : (n : ℕ) (row : Row) (rows : List Row) → filter (has_time time_of n) (put_by_time row rows) ≡ filter (has_time time_of n) (row ∷ rows)
filter_put n row [] = refl
filter_put n row (other ∷ rows) = by_cases (ltb (time_of other) (time_of row)) refl (filter_put n row rows) where
  by_cases : (b : Bool) → ltb (time_of other) (time_of row) ≡ b
      → filter (has_time time_of n) (put_by_time row rows) ≡ filter (has_time time_of n) (row ∷ rows)
      → filter (has_time time_of n) (cond b (other ∷ put_by_time row rows) (row ∷ other ∷ rows)) ≡ filter (has_time time_of n) (row ∷ other ∷ rows)
  by_cases true is e = swapped n other row _ _ (ltb-true _ _ is) e
  by_cases false is e = refl

pub rise_by_time : (rows : List Row) → Rise time_of (by_time rows)
rise_by_time [] = tt
rise_by_time (row ∷ rows) = rise_put row (by_time rows) (rise_by_time rows)

pub filter_by_time : (n : ℕ) (rows : List Row) → filter (has_time time_of n) (by_time rows) ≡ filter (has_time time_of n) rows
filter_by_time n [] = refl
filter_by_time n (row ∷ rows) =
    filter_put n row (by_time rows) ∙ ap (λ z. cond (has_time time_of n row) (row ∷ z) z) (filter_by_time n rows)

-- rows in order of time that have the same rows of each time as others are these others in order
pub by_time_is : (xs ys : List Row) → Rise time_of ys
    → ((row : Row) → filter (has_time time_of (time_of row)) ys ≡ filter (has_time time_of (time_of row)) xs) → ys ≡ by_time xs
by_time_is xs ys rise same =
    one_order time_of ys (by_time xs) rise (rise_by_time xs) (λ row. same row ∙ sym (filter_by_time (time_of row) xs))

-- one item more at the end, whose number is not below the others
pub rise_push : {X : Type 0} (key : X → ℕ) (xs : List X) (x : X) → Rise key xs → Each (λ y. key y ≤ key x) xs → Rise key (xs ++ x ∷ [])
rise_push key [] x r e = (tt, tt)
rise_push key (y ∷ xs) x r e =
    (each_append (λ z. key y ≤ key z) xs (x ∷ []) r.0 (e.0, tt), rise_push key xs x r.1 e.1)
