-- The places of the machines that entries touch.
use Rattle.std.proofs.Common.{◌≡◌, ℕ, zero, suc, ◌+◌, ◌<◌, ◌≤◌, Bool, true, false, ◌||◌, nat_eq, nat_lt, List, [], ◌∷◌, ◌++◌, length, get_or, slice_get, position, Option, Some, None, refl, sym, ap, ap₂, ◌∙◌, subst, arith, ◌==◌}
use Rattle.std.specs.List.{filter, position_or_len, range_with_len, IsDistinct, AllByRecursion as Each}
use Rattle.std.specs.List.Sorted.{IsStrictlyIncreasing, IsStrictlySortedBy}
use Rattle.std.specs.Option.{option_map_or}
use Rattle.std.specs.Ordering.{nat_cmp}
use Rattle.std.proofs.lemmas.Bool.{both_ways, eqb-true, eq-eqb, ltb-true, ltb-false, false_from_ne_true, or_left, or_parts}
use Rattle.std.proofs.lemmas.List.Sums.{passes_at_first}
use Rattle.std.proofs.lemmas.Map.Keys.{IsDistinct-tail, sorted_tail, sorted_from_strictly_increasing}
use Rattle.std.proofs.lemmas.Option.{none-some, same_Some, cond_some, slice_get-get_or, slice_get_within}
use Rattle.omega_model.specs.Machines.{is_listed, numbers_of}
use Rattle.omega_model.specs.declared.cells.Machine.{Machine}
use Rattle.omega_board.specs.Numbers.{is_among}
use Rattle.omega_board.proofs.Numbered.{differ_back, others_behind}
use Rattle.omega_board.proofs.Numbers.{not_behind, one_more, rest_greater}
use Rattle.omega_board.proofs.Places.{each_get}
use Rattle.omega_cell.specs.Touched.{passes_at}
use Rattle.omega_model.specs.Touches.{is_number}
use Rattle.omega_model.proofs.Lists.{by_answer, each_map, each_of, each_passes}

-- a machine that isn't listed has no place
pub unlisted_nowhere : (id : ℕ) (machines : List Machine) → is_listed id machines ≡ false → (place : ℕ) → passes_at (is_number id) machines place ≡ false
unlisted_nowhere id [] absent place = refl
unlisted_nowhere id (m ∷ ms) absent zero = differ_back m.id id (or_parts _ _ absent).0
unlisted_nowhere id (m ∷ ms) absent (suc place) = unlisted_nowhere id ms (or_parts _ _ absent).1 place

-- distinct machines of one number stand at one place
same_place : (machines : List Machine) (i j : ℕ) (a b : Machine) → IsDistinct nat_eq (numbers_of machines) → slice_get machines i ≡ Some a → slice_get machines j ≡ Some b → a.id ≡ b.id → i ≡ j
same_place [] i j a b distinct at_i at_j same = absurd (none-some a at_i)
same_place (m ∷ ms) zero zero a b distinct at_i at_j same = refl
same_place (m ∷ ms) zero (suc j) a b distinct at_i at_j same =
    absurd (both_ways _ (each_get (λ (r : Machine). (r.id == m.id) ≡ false) ms j b (others_behind m ms distinct) at_j) (eq-eqb _ _ (sym same ∙ ap (λ (r : Machine). r.id) (sym (same_Some m a at_i)))))
same_place (m ∷ ms) (suc i) zero a b distinct at_i at_j same =
    absurd (both_ways _ (each_get (λ (r : Machine). (r.id == m.id) ≡ false) ms i a (others_behind m ms distinct) at_i) (eq-eqb _ _ (same ∙ ap (λ (r : Machine). r.id) (sym (same_Some m b at_j)))))
same_place (m ∷ ms) (suc i) (suc j) a b distinct at_i at_j same =
    ap suc (same_place ms i j a b (IsDistinct-tail nat_eq m.id (numbers_of ms) distinct) at_i at_j same)

-- a machine that is listed stands at its position, and nowhere else
pub listed_there : (id : ℕ) (machines : List Machine) (p : ℕ) → IsDistinct nat_eq (numbers_of machines) → Some p ≡ position (λ machine. machine.id == id) machines
    → (place : ℕ) → (p == place) ≡ passes_at (is_number id) machines place
listed_there id machines p distinct placed place =
    by_answer (p == place)
    (λ t.
    let here : slice_get machines place ≡ Some there = ap (slice_get machines) (sym (eqb-true _ _ t)) ∙ at in
    t ∙ sym (ap (λ o. option_map_or (λ (row : Machine). id == row.id) o false) here ∙ eq-eqb _ _ (sym numbered)))
    (λ f. f ∙ sym (elsewhere f (slice_get machines place) refl))
  where
    test : Machine → Bool
    test machine = machine.id == id

    none : Machine
    none = record { id = id; up = false; cap = record { cpu = 0; mem = 0; disk = 0 }; attrs = [] }

    found : position_or_len test machines ≡ p
    found = (cond_some _ _ _ (sym placed)).1

    within : p < length machines
    within = subst (λ n. n < length machines) found (ltb-true _ _ (cond_some _ _ _ (sym placed)).0)

    there : Machine
    there = get_or machines p none

    at : slice_get machines p ≡ Some there
    at = slice_get-get_or machines p none within

    numbered : there.id ≡ id
    numbered = eqb-true _ _ (ap (λ n. test (get_or machines n none)) (sym found) ∙ passes_at_first test machines none (omega (arith, within, found)))

    elsewhere : (p == place) ≡ false → (o : Option Machine) → slice_get machines place ≡ o → option_map_or (λ row. id == row.id) o false ≡ false
    elsewhere other None is = refl
    elsewhere other (Some row) is =
        by_answer (id == row.id)
        (λ t. absurd (both_ways _ other (eq-eqb _ _ (same_place machines p place there row distinct at is (numbered ∙ eqb-true _ _ t)))))
        (λ f. f)

-- among no numbers is none
pub none_passes : (machines : List Machine) (place : ℕ) → passes_at (is_among []) machines place ≡ false
none_passes machines place = by (slice_get machines place)
  where
    by : (o : Option Machine) → option_map_or (λ row. is_among [] row.id) o false ≡ false
    by None = refl
    by (Some row) = refl

-- the machine at a place is among numbers and one more if it is among them, or that one
pub passes_more : (numbers : List ℕ) (id : ℕ) (machines : List Machine) (place : ℕ)
    → passes_at (is_among (numbers ++ id ∷ [])) machines place ≡ (passes_at (is_among numbers) machines place || passes_at (is_number id) machines place)
passes_more numbers id machines place = by (slice_get machines place)
  where
    by : (o : Option Machine) → option_map_or (λ row. is_among (numbers ++ id ∷ []) row.id) o false
        ≡ (option_map_or (λ row. is_among numbers row.id) o false || option_map_or (λ row. is_number id row.id) o false)
    by None = refl
    by (Some row) = one_more numbers id row.id

-- strictly rising places from one on, where those that pass a test behind it are known
module _ (f : ℕ → Bool) (n s : ℕ)
    (next : (qs : List ℕ) → IsStrictlySortedBy nat_cmp qs → Each (λ p. s + 1 ≤ p) qs → ((place : ℕ) → s + 1 ≤ place → is_among qs place ≡ f place) → qs ≡ filter f (range_with_len (s + 1) n)) where
  -- it passes itself
  rising_there : (ps : List ℕ) → IsStrictlySortedBy nat_cmp ps → Each (λ p. s ≤ p) ps → ((place : ℕ) → s ≤ place → is_among ps place ≡ f place) → f s ≡ true → ps ≡ filter f (range_with_len s (suc n))
  rising_there [] rises all is t = absurd (both_ways (f s) (sym (is s (omega arith))) t)
  rising_there (q ∷ qs) rises all is t =
      let greater = rest_greater q qs rises in
      let first : q ≡ s =
      by_answer (q == s) (λ e. eqb-true _ _ e)
      (λ e.
      let none : is_among (q ∷ qs) s ≡ false = rw e (not_behind s q qs all.0 greater) in
      absurd (both_ways _ none (is s (omega arith) ∙ t))) in
      let rest : qs ≡ filter f (range_with_len (s + 1) n) =
      next qs (sorted_tail nat_cmp q qs rises)
      (each_map (λ p. q < p) (λ p. s + 1 ≤ p) (λ p more. omega (arith, more, first)) qs greater)
      (λ place le.
      let other : (q == place) ≡ false = false_from_ne_true _ (λ e. let same_p : q ≡ place = eqb-true _ _ e in absurd (omega (arith, same_p, first, le))) in
      let all_is : is_among (q ∷ qs) place ≡ f place = is place (omega (arith, le)) in
      rw other at all_is) in
      rw t (ap₂ (λ (a : ℕ) others. a ∷ others) first rest)

  -- or doesn't
  from_later : (ps : List ℕ) → IsStrictlySortedBy nat_cmp ps → Each (λ p. s ≤ p) ps → is_among ps s ≡ false → Each (λ p. s + 1 ≤ p) ps
  from_later [] up low none = tt
  from_later (r ∷ rs) up low none =
      let parts = or_parts (r == s) (is_among rs s) none in
      let over : s + 1 ≤ r =
      by_answer (nat_lt s r) (λ g. let h : s < r = ltb-true _ _ g in omega (arith, h))
      (λ g. let h : r ≤ s = ltb-false _ _ g in let same : r ≡ s = omega (arith, h, low.0) in absurd (both_ways _ parts.0 (eq-eqb _ _ same))) in
      (over, from_later rs (sorted_tail nat_cmp r rs up) low.1 parts.1)

  rising_absent : (ps : List ℕ) → IsStrictlySortedBy nat_cmp ps → Each (λ p. s ≤ p) ps → ((place : ℕ) → s ≤ place → is_among ps place ≡ f place) → f s ≡ false → ps ≡ filter f (range_with_len s (suc n))
  rising_absent ps rises all is e =
      rw e (next ps rises (from_later ps rises all (is s (omega arith) ∙ e)) (λ place le. is place (omega (arith, le))))

-- a strictly rising list of the places that pass a test is that of all places that pass
rising_is : (f : ℕ → Bool) (n s : ℕ) (ps : List ℕ) → IsStrictlySortedBy nat_cmp ps → Each (λ p. s ≤ p) ps → ((place : ℕ) → s ≤ place → is_among ps place ≡ f place)
    → ((place : ℕ) → s + n ≤ place → f place ≡ false) → ps ≡ filter f (range_with_len s n)
rising_is f zero s [] sorted from same past = refl
rising_is f zero s (p ∷ ps) sorted from same past =
    let own : is_among (p ∷ ps) p ≡ true = or_left (p == p) (is_among ps p) (eq-eqb _ _ refl) in
    absurd (both_ways _ (past p (omega (arith, from.0))) (sym (same p from.0) ∙ own))
rising_is f (suc n) s ps sorted from same past =
    let next : (qs : List ℕ) → IsStrictlySortedBy nat_cmp qs → Each (λ p. s + 1 ≤ p) qs → ((place : ℕ) → s + 1 ≤ place → is_among qs place ≡ f place) → qs ≡ filter f (range_with_len (s + 1) n) =
    λ qs up low is. rising_is f n (s + 1) qs up low is (λ place le. past place (omega (arith, le))) in
    by_answer (f s) (rising_there f n s next ps sorted from same) (rising_absent f n s next ps sorted from same)

-- a place where a machine passes is one of the list
passes_within : (test : ℕ → Bool) (machines : List Machine) (place : ℕ) → passes_at test machines place ≡ true → place < length machines
passes_within test machines place is = by (slice_get machines place) refl is
  where
    by : (o : Option Machine) → slice_get machines place ≡ o → option_map_or (λ row. test row.id) o false ≡ true → place < length machines
    by None none e = absurd (both_ways true (sym e) refl)
    by (Some row) at e = slice_get_within machines place row at

-- so the places that were noted, sorted, each once, are those that are touched
pub places_are : (test : ℕ → Bool) (machines : List Machine) (ps : List ℕ) → IsStrictlyIncreasing ps → ((place : ℕ) → is_among ps place ≡ passes_at test machines place)
    → ps ≡ filter (passes_at test machines) (range_with_len 0 (length machines))
places_are test machines ps rises same =
    rising_is (passes_at test machines) (length machines) 0 ps (sorted_from_strictly_increasing ps rises) (each_of _ (λ p. omega arith) ps) (λ place _. same place)
    (λ place past. by_answer (passes_at test machines place) (λ t. let in_list = passes_within test machines place t in absurd (omega (arith, in_list, past))) (λ f. f))

-- places that are touched are places of the list
pub places_within : (test : ℕ → Bool) (machines : List Machine) → Each (λ place. place < length machines) (filter (passes_at test machines) (range_with_len 0 (length machines)))
places_within test machines =
    each_map (λ place. passes_at test machines place ≡ true) (λ place. place < length machines) (passes_within test machines)
    (filter (passes_at test machines) (range_with_len 0 (length machines))) (each_passes (passes_at test machines) (range_with_len 0 (length machines)))
