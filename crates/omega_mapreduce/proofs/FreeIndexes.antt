-- Which indexes of extras are free, found in one walk along those that are taken.
use Rattle.std.proofs.Common.{◌≡◌, ℕ, zero, suc, ◌+◌, ◌-◌, ◌<◌, ◌≤◌, ◌==◌, Bool, true, false, not, List, [], ◌∷◌, ◌++◌, length, drop, refl, sym, ap, subst, ◌∙◌, arith, append_assoc}
use Rattle.std.specs.List.{filter, list_any, range_with_len}
use Rattle.std.proofs.lemmas.Bool.{eq-eqb, eqb-true}
use Rattle.std.proofs.lemmas.List.{length-map, length-take-le}
use Rattle.omega_model.proofs.Lists.{by_answer}
use Rattle.omega_model.specs.ExtraTasks.{first_extra, free_indexes}
use Rattle.omega_model.specs.declared.cells.Need.{Need}
use Rattle.omega_model.specs.declared.wishes.Constraint.{Constraint}
use Rattle.omega_model.specs.declared.wishes.Wish.{Wish}
use Rattle.omega_mapreduce.specs.Counted.{MayCount, RiseFrom, counted_wish, counted_wishes, leads}

-- whether an index is none of these
abbrev pub is_free : List ℕ → ℕ → Bool
is_free taken index = not (list_any (λ other. other == index) taken)

-- an index is none of those that rise from a greater one
none_below : (index from : ℕ) (taken : List ℕ) → index < from → RiseFrom from taken → list_any (λ other. other == index) taken ≡ false
none_below index from [] low rise = refl
none_below index from (first ∷ taken) low rise =
    let above : from ≤ first = rise.0 in
    by_answer (first == index)
    (λ t. absurd (differ first (eqb-true first index t) above))
    (λ f. rw f (none_below index (first + 1) taken (omega (arith, low, above)) rise.1))
  where
    differ : (first : ℕ) → first ≡ index → from ≤ first → ⊥
    differ first e above = omega (arith, e, above, low)

-- what is taken below a stretch changes nothing there
passed : (first start n : ℕ) (taken : List ℕ) → first < start
    → filter (is_free (first ∷ taken)) (range_with_len start n) ≡ filter (is_free taken) (range_with_len start n)
passed first start zero taken low = refl
passed first start (suc n) taken low =
    let later = passed first (start + 1) n taken (omega (arith, low)) in
    by_answer (first == start)
    (λ t. absurd (differ (eqb-true first start t)))
    (λ f. by_answer (list_any (λ other. other == start) taken)
    (λ t. rw (f, t) later)
    (λ g. rw (f, g) (ap (λ z. start ∷ z) later)))
  where
    differ : first ≡ start → ⊥
    differ e = omega (arith, e, low)

-- what rises from an index that isn't its first rises from the next one
pub higher : (index : ℕ) (ahead : List ℕ) → RiseFrom index ahead → leads ahead index ≡ false → RiseFrom (index + 1) ahead
higher index [] rise apart = tt
higher index (first ∷ ahead) rise apart =
    let above : index ≤ first = rise.0 in
    let other : first ≡ index → ⊥ = λ e. both (first == index) (eq-eqb first index e) apart in
    (beyond above other, rise.1)
  where
    both : (b : Bool) → b ≡ true → b ≡ false → ⊥
    both b t f = cc

    beyond : index ≤ first → (first ≡ index → ⊥) → index + 1 ≤ first
    beyond above other = omega (arith, above, other)

-- what is behind the first rises from the next one
pub higher_behind : (index : ℕ) (ahead : List ℕ) → RiseFrom index ahead → leads ahead index ≡ true → RiseFrom (index + 1) (drop 1 ahead)
higher_behind index [] rise here = tt
higher_behind index (first ∷ ahead) rise here = subst (λ (n : ℕ). RiseFrom (n + 1) ahead) (eqb-true first index here) rise.1

first_number : (index end : ℕ) → index < end → range_with_len index (end - index) ≡ index ∷ range_with_len (index + 1) (end - (index + 1))
first_number index end within =
    let one : end - index ≡ suc (end - (index + 1)) = omega (arith, within) in
    ap (range_with_len index) one

-- one index more that is taken
pub skips : (found ahead : List ℕ) (index end : ℕ) → index < end → RiseFrom index ahead → leads ahead index ≡ true
    → found ++ filter (is_free (drop 1 ahead)) (range_with_len (index + 1) (end - (index + 1))) ≡ found ++ filter (is_free ahead) (range_with_len index (end - index))
skips found [] index end within rise here = absurd (cc)
skips found (first ∷ ahead) index end within rise here =
    let below : first < index + 1 = omega (arith, eqb-true first index here) in
    let rest : filter (is_free (first ∷ ahead)) (index ∷ range_with_len (index + 1) (end - (index + 1))) ≡ filter (is_free ahead) (range_with_len (index + 1) (end - (index + 1))) =
    rw here (passed first (index + 1) (end - (index + 1)) ahead below) in
    ap (λ z. found ++ z) (sym (ap (filter (is_free (first ∷ ahead))) (first_number index end within) ∙ rest))

-- one index more that is free
pub keeps : (found ahead : List ℕ) (index end : ℕ) → index < end → RiseFrom index ahead → leads ahead index ≡ false
    → (found ++ index ∷ []) ++ filter (is_free ahead) (range_with_len (index + 1) (end - (index + 1))) ≡ found ++ filter (is_free ahead) (range_with_len index (end - index))
keeps found ahead index end within rise apart =
    let free : list_any (λ other. other == index) ahead ≡ false = none_below index (index + 1) ahead (omega arith) (higher index ahead rise apart) in
    let rest : filter (is_free ahead) (index ∷ range_with_len (index + 1) (end - (index + 1))) ≡ index ∷ filter (is_free ahead) (range_with_len (index + 1) (end - (index + 1))) =
    rw free refl in
    append_assoc found (index ∷ []) (filter (is_free ahead) (range_with_len (index + 1) (end - (index + 1))))
    ∙ ap (λ z. found ++ z) (sym (ap (filter (is_free ahead)) (first_number index end within) ∙ rest))

-- of a stretch no more are taken than there are taken ones
enough : (n start : ℕ) (taken : List ℕ) → RiseFrom start taken → n ≤ length (filter (is_free taken) (range_with_len start n)) + length taken
enough zero start taken rise = omega arith
enough (suc n) start [] rise =
    let later = enough n (start + 1) [] tt in
    omega (arith, later)
enough (suc n) start (first ∷ taken) rise =
    by_answer (first == start)
    (λ t.
    let here : first ≡ start = eqb-true first start t in
    let later = enough n (start + 1) taken (subst (λ (m : ℕ). RiseFrom (m + 1) taken) here rise.1) in
    let same = ap (λ z. length z) (passed first (start + 1) n taken (below here)) in
    rw t (omega (arith, later, same)))
    (λ f.
    let above = higher start (first ∷ taken) rise f in
    let later = enough n (start + 1) (first ∷ taken) above in
    let free : list_any (λ other. other == start) (first ∷ taken) ≡ false = none_below start (start + 1) (first ∷ taken) (omega arith) above in
    rw free (omega (arith, later)))
  where
    below : first ≡ start → first < start + 1
    below e = omega (arith, e)

-- as many indexes are found as are asked for
found_all : (taken : List ℕ) (count : ℕ) → RiseFrom first_extra taken → length (free_indexes taken count) ≡ count
found_all taken count rise =
    let most = enough (length taken + count) first_extra taken rise in
    length-take-le count _ (omega (arith, most))

pub counted_all : (job : ℕ) (need : Need) (constraints : List Constraint) (running : List ℕ) (count : ℕ) → MayCount running count
    → length (counted_wishes job need constraints running count) ≡ count
counted_all job need constraints running count may =
    length-map (free_indexes running count) (counted_wish job need constraints) ∙ found_all running count may.rise

-- a list without length has nothing in it
pub no_length : (wishes : List Wish) → length wishes ≡ 0 → wishes ≡ []
no_length [] none = refl
no_length (wish ∷ wishes) none = absurd (cc)
