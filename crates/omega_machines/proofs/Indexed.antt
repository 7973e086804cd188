-- The indexes of names that are kept, as machines come, change and leave.
use Rattle.std.proofs.Common.{◌≡◌, ℕ, zero, suc, ◌+◌, ◌<◌, ◌≤◌, List, [], ◌∷◌, ◌++◌, set, length, take, slice_get, Option, Some, None, IfSome, IsSomeAnd, refl, sym, ap, ◌∙◌, subst, inl, inr, arith, nat_cmp}
use Rattle.std.specs.BTreeMap as tree
use Rattle.std.specs.BTreeMap.{BTreeMap}
use Rattle.std.specs.Map.{lookup}
use Rattle.std.specs.Option.{option_map}
use Rattle.std.proofs.lemmas.Bool.{cases_eq, cases_order}
use Rattle.std.proofs.lemmas.Option.{none-some, slice_get-map}
use Rattle.omega_machines.specs.Names.{IsIndexOf, AreIndexed, AreChangedAt, AreOutside, names_of, names_in}
use Rattle.omega_machines.specs.Table.{MachineState}
use Rattle.omega_machines.specs.declared.names.NameIndex.{NameIndex}
use Rattle.omega_machines.proofs.Finding.{apart}

-- the names at a place
names_at : (states : List MachineState) (place : ℕ) (state : MachineState) → slice_get states place ≡ Some state → slice_get (names_in states) place ≡ Some (names_of state.machine.attrs)
names_at states place state at =
    slice_get-map (λ (s : MachineState). names_of s.machine.attrs) states place ∙ ap (option_map (λ (s : MachineState). names_of s.machine.attrs)) at

set_here : (states : List MachineState) (place : ℕ) (state next : MachineState) → slice_get states place ≡ Some state → slice_get (names_in (set states place next)) place ≡ Some (names_of next.machine.attrs)
set_here [] place state next at = absurd (none-some _ at)
set_here (s ∷ ss) zero state next at = refl
set_here (s ∷ ss) (suc place) state next at = set_here ss place state next at

set_elsewhere : (states : List MachineState) (place other : ℕ) (next : MachineState) → (other ≡ place → ⊥) → slice_get (names_in (set states place next)) other ≡ slice_get (names_in states) other
set_elsewhere [] place other next ne = refl
set_elsewhere (s ∷ ss) zero zero next ne = absurd (ne refl)
set_elsewhere (s ∷ ss) zero (suc other) next ne = refl
set_elsewhere (s ∷ ss) (suc place) zero next ne = refl
set_elsewhere (s ∷ ss) (suc place) (suc other) next ne = set_elsewhere ss place other next (λ same. ne (ap suc same))

-- the index that is kept for a machine is that of its names
pub index_there : (indexes : BTreeMap ℕ NameIndex) (states : List MachineState) (place : ℕ) (state : MachineState) → AreIndexed indexes states → slice_get states place ≡ Some state
    → IfSome (tree.get nat_cmp indexes place) (λ index. IsIndexOf index (names_of state.machine.attrs))
index_there indexes states place state held at =
    subst (λ (names : Option (List (List ℕ))). IfSome (tree.get nat_cmp indexes place) (λ index. IsSomeAnd names (IsIndexOf index))) (names_at states place state at) (held place)

-- one machine is written anew, and its index with it
pub indexed_changed : (old new : BTreeMap ℕ NameIndex) (states : List MachineState) (place : ℕ) (state next : MachineState) → slice_get states place ≡ Some state
    → AreChangedAt old new place (names_of next.machine.attrs) → AreIndexed old states → AreIndexed new (set states place next)
indexed_changed old new states place state next at changed held other =
    elim (cases_eq other place) [
      | inl same ↦ subst (λ q. IfSome (tree.get nat_cmp new q) (λ index. IsSomeAnd (slice_get (names_in (set states place next)) q) (IsIndexOf index))) (sym same)
          (subst (λ (names : Option (List (List ℕ))). IfSome (tree.get nat_cmp new place) (λ index. IsSomeAnd names (IsIndexOf index))) (sym (set_here states place state next at)) changed.own)
      | inr ne ↦
          subst (λ (found : Option NameIndex). IfSome found (λ index. IsSomeAnd (slice_get (names_in (set states place next)) other) (IsIndexOf index))) (sym (changed.others other ne))
          (subst (λ (names : Option (List (List ℕ))). IfSome (tree.get nat_cmp old other) (λ index. IsSomeAnd names (IsIndexOf index))) (sym (set_elsewhere states place other next ne)) (held other))
    ]

-- a machine that keeps its attributes keeps its index
pub indexed_still : (indexes : BTreeMap ℕ NameIndex) (states : List MachineState) (place : ℕ) (state next : MachineState) → slice_get states place ≡ Some state
    → next.machine.attrs ≡ state.machine.attrs → AreIndexed indexes states → AreIndexed indexes (set states place next)
indexed_still indexes states place state next at same held =
    indexed_changed indexes indexes states place state next at (record {
      own = subst (λ attrs. IfSome (tree.get nat_cmp indexes place) (λ index. IsIndexOf index (names_of attrs))) (sym same) (index_there indexes states place state held at);
      others = λ other ne. refl;
    }) held

-- no index is kept at all
pub indexed_none : (indexes : BTreeMap ℕ NameIndex) (states : List MachineState) → tree.IsEmpty indexes → AreIndexed indexes states
indexed_none indexes states empty place =
    subst (λ (entries : List (ℕ × NameIndex)). IfSome (lookup (tree.is_at (nat_cmp place)) entries) (λ index. IsSomeAnd (slice_get (names_in states) place) (IsIndexOf index))) (sym empty) tt

-- a machine whose index is dropped
pub changed_none : (old new : BTreeMap ℕ NameIndex) (place : ℕ) (names : List (List ℕ)) → tree.Updates nat_cmp old new place None → AreChangedAt old new place names
changed_none old new place names u = record {
  own = subst (λ (found : Option NameIndex). IfSome found (λ index. IsIndexOf index names)) (sym u.1) tt;
  others = λ other ne. u.2 other (apart place other (λ same. ne (sym same)));
}

-- a new machine has none
pub indexed_more : (indexes : BTreeMap ℕ NameIndex) (states next : List MachineState) (state : MachineState) → next ≡ states ++ state ∷ [] → AreIndexed indexes states → AreIndexed indexes next
indexed_more indexes states next state is held = subst (AreIndexed indexes) (sym is) (λ place. by (tree.get nat_cmp indexes place) place (held place))
  where
    kept : (table : List MachineState) (place : ℕ) (P : List (List ℕ) → Type 0) → IsSomeAnd (slice_get (names_in table) place) P → IsSomeAnd (slice_get (names_in (table ++ state ∷ [])) place) P
    kept [] place P held = absurd held
    kept (s ∷ ss) zero P held = held
    kept (s ∷ ss) (suc place) P held = kept ss place P held

    by : (o : Option NameIndex) (place : ℕ) → IfSome o (λ index. IsSomeAnd (slice_get (names_in states) place) (IsIndexOf index)) → IfSome o (λ index. IsSomeAnd (slice_get (names_in (states ++ state ∷ [])) place) (IsIndexOf index))
    by None place held = tt
    by (Some index) place held = kept states place (IsIndexOf index) held

-- the first machines keep theirs, where those of the others are dropped
pub indexed_first : (old new : BTreeMap ℕ NameIndex) (states next : List MachineState) (n : ℕ) → next ≡ take n states → AreOutside old new n (length states) → AreIndexed old states → AreIndexed new next
indexed_first old new states next n is outside held = subst (AreIndexed new) (sym is) (λ place. by place (tree.get nat_cmp new place) refl)
  where
    within : (table : List MachineState) (place : ℕ) (P : List (List ℕ) → Type 0) → IsSomeAnd (slice_get (names_in table) place) P → place < length table
    within [] place P held = absurd held
    within (s ∷ ss) zero P held = omega arith
    within (s ∷ ss) (suc place) P held = let rest = within ss place P held in omega (arith, rest)

    kept : (table : List MachineState) (m place : ℕ) (P : List (List ℕ) → Type 0) → place < m → IsSomeAnd (slice_get (names_in table) place) P → IsSomeAnd (slice_get (names_in (take m table)) place) P
    kept table zero place P low held = absurd (omega (arith, low))
    kept [] (suc m) place P low held = absurd held
    kept (s ∷ ss) (suc m) zero P low held = held
    kept (s ∷ ss) (suc m) (suc place) P low held = kept ss m place P (omega (arith, low)) held

    by : (place : ℕ) (o : Option NameIndex) → tree.get nat_cmp new place ≡ o → IfSome o (λ index. IsSomeAnd (slice_get (names_in (take n states)) place) (IsIndexOf index))
    by place None found = tt
    by place (Some index) found =
        let was = outside place index found in
        let there : IsSomeAnd (slice_get (names_in states) place) (IsIndexOf index) = subst (λ (o : Option NameIndex). IfSome o (λ kept. IsSomeAnd (slice_get (names_in states) place) (IsIndexOf kept))) was.0 (held place) in
        elim was.1 [
          | inl low ↦ kept states n place (IsIndexOf index) low there
          | inr high ↦ let inside = within states place (IsIndexOf index) there in absurd (omega (arith, high, inside))
        ]

-- the indexes that are left while those from one place up to another are dropped
pub outside_none : (indexes : BTreeMap ℕ NameIndex) (from : ℕ) → AreOutside indexes indexes from from
outside_none indexes from place index found =
    (found, elim (cases_order place from) [ inl e ↦ inr (omega (arith, e)) | inr (inl less) ↦ inl less | inr (inr more) ↦ inr (omega (arith, more)) ])

pub outside_more : (old new next : BTreeMap ℕ NameIndex) (from i : ℕ) → AreOutside old new from i → tree.Updates nat_cmp new next i None → AreOutside old next from (i + 1)
outside_more old new next from i left u place index found =
    elim (cases_eq i place) [
      | inl same ↦ absurd (none-some _ (sym u.1 ∙ ap (λ q. tree.get nat_cmp next q) same ∙ found))
      | inr ne ↦
          let was = left place index (sym (u.2 place (apart i place ne)) ∙ found) in
          (was.0, elim was.1 [ inl low ↦ inl low | inr high ↦ inr (omega (arith, high, ne)) ])
    ]

pub outside_end : (old new : BTreeMap ℕ NameIndex) (from to i : ℕ) → to ≤ i → AreOutside old new from i → AreOutside old new from to
outside_end old new from to i past left place index found =
    let was = left place index found in
    (was.0, elim was.1 [ inl low ↦ inl low | inr high ↦ inr (omega (arith, high, past)) ])
