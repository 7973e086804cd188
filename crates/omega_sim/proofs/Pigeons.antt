-- Numbers of a list, each once, are no more than another list has in which all of them stand.
use Rattle.std.proofs.Common.{◌≡◌, ℕ, suc, ◌≤◌, Bool, true, false, not, ◌==◌, nat_eq, List, [], ◌∷◌, length, refl, sym, ap, ◌∙◌, arith, if◌then◌else◌}
use Rattle.std.specs.List.{filter, IsDistinct, AllByRecursion as Each}
use Rattle.std.proofs.lemmas.Bool.{both_ways, eqb-true, eq-eqb, ne_eqb}
use Rattle.std.proofs.lemmas.Map.Keys.{IsDistinct-cons, IsDistinct-head, IsDistinct-tail}
use Rattle.omega_model.specs.Feed.{each_once}
use Rattle.omega_feed.proofs.Cutting.{each_of_once}
use Rattle.omega_model.proofs.Lists.{by_answer, each_both, each_filter, each_map, each_passes}
use Rattle.omega_sim.proofs.Asked.{IsIn}

-- a list without the first place of a number
less : ℕ → List ℕ → List ℕ
less n [] = []
less n (m ∷ ms) = if m == n then ms else m ∷ less n ms

length-less : (n : ℕ) (ms : List ℕ) → IsIn ms n → length ms ≡ suc (length (less n ms))
unfolding less
length-less n [] is = absurd (both_ways _ refl is)
length-less n (m ∷ ms) is =
    by_answer (m == n)
    (λ t. rw t refl)
    (λ f. rw f (ap suc (length-less n ms (rw f at is))))

still_in : (n k : ℕ) → (n == k) ≡ false → (ms : List ℕ) → IsIn ms k → IsIn (less n ms) k
unfolding less
still_in n k differ [] is = is
still_in n k differ (m ∷ ms) is =
    by_answer (m == n)
    (λ t.
    let other : (m == k) ≡ false = ap (λ j. j == k) (eqb-true m n t) ∙ differ in
    rw t (rw other at is))
    (λ f. rw f (by_answer (m == k)
    (λ here. rw here refl)
    (λ past. rw past (still_in n k differ ms (rw past at is)))))

-- different numbers that all stand in a list are no more than that list has
pigeons : (ns ms : List ℕ) → IsDistinct nat_eq ns → Each (IsIn ms) ns → length ns ≤ length ms
pigeons [] ms distinct each = omega arith
pigeons (n ∷ ns) ms distinct each =
    let apart : Each (λ k. nat_eq n k ≡ false) ns = IsDistinct-head nat_eq n ns distinct in
    let rest : length ns ≤ length (less n ms) =
    pigeons ns (less n ms) (IsDistinct-tail nat_eq n ns distinct)
    (each_both (λ k. nat_eq n k ≡ false) (IsIn ms) (IsIn (less n ms)) (λ k differ is. still_in n k differ ms is) ns apart each.1) in
    let long : length ms ≡ suc (length (less n ms)) = length-less n ms each.0 in
    omega (arith, rest, long)

distinct_filter : (test : ℕ → Bool) (ns : List ℕ) → IsDistinct nat_eq ns → IsDistinct nat_eq (filter test ns)
distinct_filter test [] distinct = distinct
distinct_filter test (n ∷ ns) distinct =
    let rest = distinct_filter test ns (IsDistinct-tail nat_eq n ns distinct) in
    by_answer (test n)
    (λ t. rw t (IsDistinct-cons nat_eq n (filter test ns)
    (each_filter (λ k. nat_eq n k ≡ false) test ns (IsDistinct-head nat_eq n ns distinct)) rest))
    (λ f. rw f rest)

other_number : (n m : ℕ) → not (m == n) ≡ true → nat_eq n m ≡ false
other_number n m differs =
    ne_eqb n m (λ same. let is : (m == n) ≡ true = eq-eqb m n (sym same) in both_ways (not true) refl (rw is at differs))

once_distinct : (ns : List ℕ) → IsDistinct nat_eq (each_once ns)
unfolding IsDistinct
once_distinct [] = tt
once_distinct (n ∷ ns) =
    IsDistinct-cons nat_eq n (filter (λ m. not (m == n)) (each_once ns))
    (each_map (λ m. not (m == n) ≡ true) (λ m. nat_eq n m ≡ false) (λ m differs. other_number n m differs)
    (filter (λ m. not (m == n)) (each_once ns)) (each_passes (λ m. not (m == n)) (each_once ns)))
    (distinct_filter (λ m. not (m == n)) (each_once ns) (once_distinct ns))

-- numbers that all stand in a list are, each once, no more than that list has
pub once_fits : (ns ms : List ℕ) → Each (IsIn ms) ns → length (each_once ns) ≤ length ms
once_fits ns ms all = pigeons (each_once ns) ms (once_distinct ns) (each_of_once (IsIn ms) ns all)
