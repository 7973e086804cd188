-- Different numbers among some: one more number.
use Rattle.std.proofs.Common.{◌≡◌, ◌∙◌, ℕ, Bool, true, false, not, cond, ◌||◌, length-append, arith, inl, inr, ◌==◌, List, [], ◌∷◌, ◌++◌, length, refl, sym, ap, append_assoc, subst, take, map, get_or, ◌<◌}
use Rattle.std.specs.Prelude.{◌+◌, if◌then◌else◌}
use Rattle.std.specs.BTreeSet.{BTreeSet, btree_set_len, contains, Updates}
use Rattle.std.specs.List.{filter, list_any}
use Rattle.std.specs.Ordering.{nat_cmp}
use Rattle.std.proofs.Math.Bool.{or-true, or-false}
use Rattle.std.proofs.lemmas.Bool.{eq-eqb, ne_eqb, cases_eq}
use Rattle.std.proofs.lemmas.List.{take_more, map-append}
use Rattle.std.proofs.lemmas.List.Folds.{list_any-append}
use Rattle.omega_model.specs.Feed.{each_once}
use Rattle.omega_tables.specs.Checking.{Holds}
use Rattle.omega_model.proofs.Places.{off_place}

filter_push : (test : ℕ → Bool) (ms : List ℕ) (n : ℕ) → filter test (ms ++ n ∷ []) ≡ cond (test n) (filter test ms ++ n ∷ []) (filter test ms)
filter_push test [] n = by_cases (test n) where
  by_cases : (b : Bool) → cond b (n ∷ []) [] ≡ cond b (n ∷ []) []
  by_cases true = refl
  by_cases false = refl
filter_push test (m ∷ ms) n = by_cases (test m) (test n) (filter_push test ms n) where
  by_cases : (b c : Bool) → filter test (ms ++ n ∷ []) ≡ cond c (filter test ms ++ n ∷ []) (filter test ms)
      → cond b (m ∷ filter test (ms ++ n ∷ [])) (filter test (ms ++ n ∷ [])) ≡ cond c (cond b (m ∷ filter test ms) (filter test ms) ++ n ∷ []) (cond b (m ∷ filter test ms) (filter test ms))
  by_cases true true e = rw e refl
  by_cases true false e = rw e refl
  by_cases false true e = e
  by_cases false false e = e

-- one more number at the end is one more different number, unless it is there already
once_push : (ns : List ℕ) (n : ℕ) → each_once (ns ++ n ∷ []) ≡ cond (list_any (λ m. m == n) ns) (each_once ns) (each_once ns ++ n ∷ [])
once_push [] n = refl
once_push (m ∷ ns) n = by_cases (list_any (λ k. k == n) ns) (m == n) same (once_push ns n) where
  same : (n == m) ≡ (m == n)
  same = elim (cases_eq m n) [
    | inl e ↦ rw (eq-eqb m n e, eq-eqb n m (sym e)) refl
    | inr ne ↦ rw (ne_eqb m n ne, ne_eqb n m (λ e. ne (sym e))) refl
  ]

  other : ℕ → Bool
  other k = not (k == m)

  by_cases : (b c : Bool) → (n == m) ≡ c → each_once (ns ++ n ∷ []) ≡ cond b (each_once ns) (each_once ns ++ n ∷ [])
      → m ∷ filter (λ k. not (k == m)) (each_once (ns ++ n ∷ []))
      ≡ cond (c || b) (m ∷ filter (λ k. not (k == m)) (each_once ns)) ((m ∷ filter (λ k. not (k == m)) (each_once ns)) ++ n ∷ [])
  by_cases true true e is = rw is refl
  by_cases true false e is = rw is refl
  by_cases false true e is = rw (is, filter_push (λ k. not (k == m)) (each_once ns) n, e) refl
  by_cases false false e is = rw (is, filter_push (λ k. not (k == m)) (each_once ns) n, e) refl

-- how many different numbers there are then
count_push : (ns : List ℕ) (n count : ℕ) → count ≡ length (each_once ns) + (if not (list_any (λ m. m == n) ns) then 1 else 0)
    → count ≡ length (each_once (ns ++ n ∷ []))
count_push ns n count is = is ∙ rw (once_push ns n) (by_cases (list_any (λ m. m == n) ns)) where
  by_cases : (b : Bool) → length (each_once ns) + (if not b then 1 else 0) ≡ length (cond b (each_once ns) (each_once ns ++ n ∷ []))
  by_cases true = omega arith
  by_cases false = rw (length-append (each_once ns) (n ∷ [])) refl

-- one more number in the set is one more among them
pub holds_push : (old new : BTreeSet ℕ) (ns : List ℕ) (n : ℕ) (added : Bool) → Holds old ns
    → added ≡ not (contains nat_cmp old n) → btree_set_len new ≡ btree_set_len old + (if added then 1 else 0)
    → Updates nat_cmp old new n true → Holds new (ns ++ n ∷ [])
holds_push old new ns n added h is count more = record {
  count =
      let known : added ≡ not (list_any (λ m. m == n) ns) = is ∙ ap not (h.members n) in
      let now : btree_set_len new ≡ length (each_once ns) + (if not (list_any (λ m. m == n) ns) then 1 else 0) = count ∙ rw (h.count, known) refl in
      count_push ns n (btree_set_len new) now;
  members = λ id. elim (cases_eq n id) [
    | inl e ↦
        let last : list_any (λ m. m == id) (ns ++ n ∷ []) ≡ true =
        list_any-append (λ m. m == id) ns (n ∷ []) ∙ rw (eq-eqb n id e) (or-true (list_any (λ m. m == id) ns)) in
        ap (λ z. contains nat_cmp new z) (sym e) ∙ more.1 ∙ sym last
    | inr ne ↦
        let others : list_any (λ m. m == id) (ns ++ n ∷ []) ≡ list_any (λ m. m == id) ns =
        list_any-append (λ m. m == id) ns (n ∷ []) ∙ rw (ne_eqb n id ne) (or-false (list_any (λ m. m == id) ns)) in
        more.2 id (off_place n id ne) ∙ h.members id ∙ sym others
  ];
}

-- one more row's number in the set
pub holds_more : {X : Type 0} (f : X → ℕ) (old new : BTreeSet ℕ) (before : List ℕ) (rows : List X) (i : ℕ) (row : X) (added : Bool)
    → i < length rows → row ≡ get_or rows i row → Holds old (before ++ map f (take i rows))
    → added ≡ not (contains nat_cmp old (f row)) → btree_set_len new ≡ btree_set_len old + (if added then 1 else 0)
    → Updates nat_cmp old new (f row) true → Holds new (before ++ map f (take (i + 1) rows))
holds_more f old new before rows i row added below here held is count more =
    let last : map f (take (i + 1) rows) ≡ map f (take i rows) ++ f row ∷ [] =
    ap (map f) (take_more rows i row below) ∙ map-append f (take i rows) (get_or rows i row ∷ [])
    ∙ ap (λ z. map f (take i rows) ++ f z ∷ []) (sym here) in
    let all : before ++ map f (take (i + 1) rows) ≡ (before ++ map f (take i rows)) ++ f row ∷ [] =
    ap (λ z. before ++ z) last ∙ sym (append_assoc before (map f (take i rows)) (f row ∷ [])) in
    subst (λ z. Holds new z) (sym all) (holds_push old new (before ++ map f (take i rows)) (f row) added held is count more)
