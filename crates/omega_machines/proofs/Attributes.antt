-- The place of an attribute says how the list changes when it is set.
use Rattle.std.proofs.Common.{◌≡◌, ℕ, zero, suc, take, remove, not, subst, ◌+◌, ◌<◌, ◌≤◌, Bool, nat_lt, List, [], ◌∷◌, ◌++◌, length, get_or, set, position, bytes_eq, Some, None, refl, sym, ap, ◌∙◌, arith}
use Rattle.std.specs.List.{position_or_len, IsDistinct, filter}
use Rattle.std.proofs.lemmas.Bool.{ltb-true, ltb-false}
use Rattle.std.proofs.lemmas.List.{map-append, take_more}
use Rattle.std.proofs.lemmas.Option.{cond_some, none-some}
use Rattle.omega_model.specs.Machines.{with_attr, without_attr}
use Rattle.omega_model.specs.declared.cells.Attr.{Attr}
use Rattle.omega_machines.specs.Names.{names_of}
use Rattle.omega_machines.proofs.Naming.{first_at, first_past, removed, unremoved, names_filtered}
use Rattle.omega_machines.proofs.Places.{position-map}
use Rattle.omega_model.proofs.Lists.{by_answer}

module _ (name value : List ℕ) where
  -- whether an attribute has the name
  abbrev named : Attr → Bool
  named attr = bytes_eq attr.name name

  -- the first attribute of the name takes the value
  with_attr-first : (attrs : List Attr) (d : Attr) → position_or_len named attrs < length attrs
      → with_attr name value attrs ≡ set attrs (position_or_len named attrs) (record (get_or attrs (position_or_len named attrs) d) { value = value })
  with_attr-first [] d within = absurd (omega arith)
  with_attr-first (attr ∷ attrs) d within =
      by_answer (named attr)
      (λ t. rw t refl)
      (λ f.
      let inside = rw f at within in
      let next : suc (position_or_len named attrs) ≡ 1 + position_or_len named attrs = omega arith in
      rw f (ap (λ rest. attr ∷ rest) (with_attr-first attrs d (omega (arith, inside))) ∙ ap (λ n. set (attr ∷ attrs) n (record (get_or (attr ∷ attrs) n d) { value = value })) next))

  -- where no attribute has the name, it goes to the end
  with_attr-last : (attrs : List Attr) → length attrs ≤ position_or_len named attrs → with_attr name value attrs ≡ attrs ++ record { name = name; value = value } ∷ []
  with_attr-last [] none = refl
  with_attr-last (attr ∷ attrs) none =
      by_answer (named attr)
      (λ t. absurd (let inside = rw t at none in omega (arith, inside)))
      (λ f. let inside = rw f at none in rw f (ap (λ rest. attr ∷ rest) (with_attr-last attrs (omega (arith, inside)))))

  pub with_attr-set : (attrs : List Attr) (place : ℕ) (attr : Attr) → Some place ≡ position named attrs → attr ≡ get_or attrs place attr
      → set attrs place (record attr { value = value }) ≡ with_attr name value attrs
  with_attr-set attrs place attr found is =
      let parts = cond_some _ _ _ (sym found) in
      let first : position_or_len named attrs ≡ place = parts.1 in
      let within : position_or_len named attrs < length attrs = ltb-true _ _ parts.0 in
      ap (λ (a : Attr). set attrs place (record a { value = value })) is
      ∙ ap (λ n. set attrs n (record (get_or attrs n attr) { value = value })) (sym first) ∙ sym (with_attr-first attrs attr within)

  pub with_attr-push : (attrs : List Attr) → None ≡ position named attrs → attrs ++ record { name = name; value = value } ∷ [] ≡ with_attr name value attrs
  with_attr-push attrs none = sym (with_attr-last attrs past)
    where
      past : length attrs ≤ position_or_len named attrs
      past =
          by_answer (nat_lt (position_or_len named attrs) (length attrs))
          (λ t. let some : None ≡ Some (position_or_len named attrs) = rw t at none in absurd (none-some _ some))
          (λ f. ltb-false _ _ f)

-- the names where an attribute gets another value
pub names_kept : (attrs : List Attr) (place : ℕ) (attr next : Attr) → attr ≡ get_or attrs place attr → next.name ≡ attr.name → names_of (set attrs place next) ≡ names_of attrs
names_kept [] place attr next is same = refl
names_kept (a ∷ rest) zero attr next is same = ap (λ n. n ∷ names_of rest) (same ∙ ap (λ (b : Attr). b.name) is)
names_kept (a ∷ rest) (suc place) attr next is same = ap (λ ns. a.name ∷ ns) (names_kept rest place attr next is same)

-- the names of one attribute more
pub names_more : (attrs : List Attr) (i : ℕ) (attr : Attr) → attr ≡ get_or attrs i attr → i < length attrs → names_of (take (i + 1) attrs) ≡ names_of (take i attrs) ++ attr.name ∷ []
names_more attrs i attr is within =
    ap names_of (take_more attrs i attr within) ∙ map-append (λ (a : Attr). a.name) (take i attrs) _ ∙ ap (λ (a : Attr). names_of (take i attrs) ++ a.name ∷ []) (sym is)

-- and of one at the end
pub names_push : (attrs : List Attr) (attr : Attr) → names_of (attrs ++ attr ∷ []) ≡ names_of attrs ++ attr.name ∷ []
names_push attrs attr = map-append (λ (a : Attr). a.name) attrs (attr ∷ [])

-- without the attribute at the place of the name, or of none
module _ (name : List ℕ) (attrs : List Attr) where
  pub deleted_at : (place : ℕ) → IsDistinct bytes_eq (names_of attrs) → position (λ other. bytes_eq other name) (names_of attrs) ≡ Some place → (place < length attrs) × (remove attrs place ≡ without_attr name attrs)
  deleted_at place distinct is =
      let at = first_at (λ (a : Attr). a.name) name attrs place (sym (position-map (λ (a : Attr). a.name) (λ other. bytes_eq other name) attrs) ∙ is) in
      (at.1, ap (remove attrs) (sym at.0) ∙ removed (λ (a : Attr). a.name) name attrs distinct (subst (λ p. p < length attrs) (sym at.0) at.1))

  pub deleted_none : position (λ other. bytes_eq other name) (names_of attrs) ≡ None → attrs ≡ without_attr name attrs
  deleted_none is = sym (unremoved (λ (a : Attr). a.name) name attrs (first_past (λ (a : Attr). a.name) name attrs (sym (position-map (λ (a : Attr). a.name) (λ other. bytes_eq other name) attrs) ∙ is)))

  pub names_without : names_of (without_attr name attrs) ≡ filter (λ other. not (bytes_eq other name)) (names_of attrs)
  names_without = names_filtered (λ (a : Attr). a.name) name attrs
