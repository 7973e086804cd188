-- The amount of the last row of each name.
use Rattle.std.proofs.Common.{◌≡◌, ◌<◌, ◌≤◌, ◌+◌, ◌==◌, ℕ, Bool, cond, List, [], ◌∷◌, ◌++◌, Option, Some, None, map, length, take, get_or, refl, ap, sym, subst, ◌∙◌, inl, inr}
use Rattle.std.specs.Prelude.{IfSome}
use Rattle.std.specs.BTreeMap as tree
use Rattle.std.specs.BTreeMap.{BTreeMap}
use Rattle.std.specs.List.{filter, last_or}
use Rattle.std.specs.Ordering.{nat_cmp}
use Rattle.std.proofs.lemmas.Bool.{eq-eqb, ne_eqb, cases_eq}
use Rattle.std.proofs.lemmas.List.{append-nil, map-append}
use Rattle.std.proofs.lemmas.List.Elements.{filter_more}
use Rattle.omega_feed.specs.Last.{AreLast}
use Rattle.omega_model.proofs.Places.{at_place, off_place}

-- the last item of a list with one more at its end
last_or-end : {X : Type 0} (other : Option X) (xs : List X) (x : X) → last_or other (xs ++ x ∷ []) ≡ Some x
last_or-end other [] x = refl
last_or-end other (y ∷ xs) x = last_or-end (Some y) xs x

module _ (Row : Type 0) (name amount : Row → ℕ) (most : ℕ) where
  abbrev is_of : ℕ → Row → Bool
  is_of id row = name row == id

  abbrev last_of : ℕ → List Row → Option ℕ
  last_of id rows = last_or None (map (λ row. amount row) (filter (is_of id) rows))

  -- one more row is the last of its name, and leaves the others
  pub last_more : (rows : List Row) (place : ℕ) (row : Row) (last more : BTreeMap ℕ ℕ)
      → place < length rows → row ≡ get_or rows place row → amount row ≤ most
      → tree.Updates nat_cmp last more (name row) (Some (amount row))
      → AreLast Row name amount most last (take place rows) → AreLast Row name amount most more (take (place + 1) rows)
  last_more rows place row last more within at small updates before = record { found = found; bounded = bounded } where
    here : (id : ℕ) → filter (is_of id) (take (place + 1) rows)
        ≡ filter (is_of id) (take place rows) ++ cond (name row == id) (row ∷ []) []
    here id =
        filter_more (is_of id) rows place row within
        ∙ ap (λ (r : Row). filter (is_of id) (take place rows) ++ cond (name r == id) (r ∷ []) []) (sym at)

    mine : (id : ℕ) → name row ≡ id → last_of id (take (place + 1) rows) ≡ Some (amount row)
    mine id same =
        let front = filter (is_of id) (take place rows) in
        ap (λ (found : List Row). last_or None (map (λ r. amount r) found))
        (here id ∙ ap (λ test. front ++ cond test (row ∷ []) []) (eq-eqb (name row) id same))
        ∙ ap (last_or None) (map-append (λ r. amount r) front (row ∷ []))
        ∙ last_or-end None (map (λ r. amount r) front) (amount row)

    theirs : (id : ℕ) → (name row ≡ id → ⊥) → last_of id (take (place + 1) rows) ≡ last_of id (take place rows)
    theirs id apart =
        let front = filter (is_of id) (take place rows) in
        ap (λ (found : List Row). last_or None (map (λ r. amount r) found))
        (here id ∙ ap (λ test. front ++ cond test (row ∷ []) []) (ne_eqb (name row) id apart) ∙ append-nil front)

    new : (id : ℕ) → name row ≡ id → tree.get nat_cmp more id ≡ Some (amount row)
    new id same = updates.0 id ∙ rw (at_place (name row) id same) refl

    old : (id : ℕ) → (name row ≡ id → ⊥) → tree.get nat_cmp more id ≡ tree.get nat_cmp last id
    old id apart = updates.2 id (off_place (name row) id apart)

    found : (id : ℕ) → tree.get nat_cmp more id ≡ last_of id (take (place + 1) rows)
    found id =
        elim (cases_eq (name row) id) [
          | inl same ↦ new id same ∙ sym (mine id same)
          | inr apart ↦ old id apart ∙ before.found id ∙ sym (theirs id apart)
        ]

    bounded : (id : ℕ) → IfSome (tree.get nat_cmp more id) (λ value. value ≤ most)
    bounded id =
        elim (cases_eq (name row) id) [
          | inl same ↦ subst (λ found. IfSome found (λ value. value ≤ most)) (sym (new id same)) small
          | inr apart ↦ subst (λ found. IfSome found (λ value. value ≤ most)) (sym (old id apart)) (before.bounded id)
        ]

  -- the same by the row's fields
  pub last_named : (rows : List Row) (place : ℕ) (row : Row) (id value : ℕ) (last more : BTreeMap ℕ ℕ)
      → place < length rows → row ≡ get_or rows place row → id ≡ name row → value ≡ amount row → value ≤ most
      → tree.Updates nat_cmp last more id (Some value)
      → AreLast Row name amount most last (take place rows) → AreLast Row name amount most more (take (place + 1) rows)
  last_named rows place row id value last more within at named holds small updates before =
      last_more rows place row last more within at (subst (λ d. d ≤ most) holds small)
      (subst (λ m. tree.Updates nat_cmp last more m (Some (amount row))) named
      (subst (λ d. tree.Updates nat_cmp last more id (Some d)) holds updates)) before
