-- Lists of machine numbers and of places: sorted, each once.
use Rattle.std.proofs.Common.{◌≡◌, ℕ, zero, suc, ◌<◌, ◌≤◌, Bool, true, false, ◌||◌, nat_eq, nat_lt, List, [], ◌∷◌, ◌++◌, length, get_or, take, refl, sym, ap, ◌∙◌, arith, ◌==◌}
use Rattle.std.specs.List.{dedup, AllByRecursion as Each}
use Rattle.std.specs.List.Sorted.{IsStrictlyIncreasing, IsStrictlySortedBy}
use Rattle.std.specs.Ordering.{nat_cmp}
use Rattle.std.specs.declared.cmp.Ordering.TheVariants.{Less}
use Rattle.std.proofs.lemmas.Bool.{eqb-true, ltb-true, false_from_ne_true}
use Rattle.std.proofs.lemmas.List.Folds.{list_any-append}
use Rattle.std.proofs.lemmas.Map.Keys.{sorted_head, sorted_tail, sorted_from_strictly_increasing}
use Rattle.omega_running.proofs.Kept.{or_no}
use Rattle.omega_board.specs.Numbers.{is_among}
use Rattle.omega_model.proofs.Lists.{by_answer}

-- one more number
pub one_more : (places : List ℕ) (p place : ℕ) → is_among (places ++ p ∷ []) place ≡ (is_among places place || (p == place))
one_more places p place = list_any-append (λ other. other == place) places (p ∷ []) ∙ ap (λ b. is_among places place || b) (or_no (p == place))

-- where nothing passes, nothing is added
pub none_added : (places : List ℕ) (place : ℕ) (b : Bool) → b ≡ false → is_among places place ≡ (is_among places place || b)
none_added places place b none = sym (ap (λ c. is_among places place || c) none ∙ or_no (is_among places place))

-- a number is among those that are left where each is kept once
pub once_kept : (places : List ℕ) (place : ℕ) → is_among (dedup nat_eq places) place ≡ is_among places place
once_kept [] place = refl
once_kept (p ∷ places) place = from p places
  where
    from : (q : ℕ) (ps : List ℕ) → is_among (dedup nat_eq (q ∷ ps)) place ≡ is_among (q ∷ ps) place
    from q [] = refl
    from q (x ∷ xs) =
        by_answer (nat_eq x q)
        (λ t.
        let same : x ≡ q = eqb-true _ _ t in
        rw t (from q xs ∙ sym (ap (λ b. (q == place) || (b || is_among xs place)) (ap (λ n. n == place) same) ∙ twice (q == place) (is_among xs place))))
        (λ f. rw f (ap (λ b. (q == place) || b) (from x xs)))
      where
        twice : (a b : Bool) → (a || (a || b)) ≡ (a || b)
        twice true b = refl
        twice false b = refl

-- a number behind a greater one isn't there
pub not_behind : (s p : ℕ) (ps : List ℕ) → s ≤ p → Each (λ q. p < q) ps → is_among ps s ≡ false
not_behind s p [] below each = refl
not_behind s p (q ∷ ps) below each =
    let other : (q == s) ≡ false = false_from_ne_true _ (λ t. let same : q ≡ s = eqb-true _ _ t in let more : p < q = each.0 in absurd (omega (arith, same, below, more))) in
    rw other (not_behind s p ps below each.1)

-- each number behind one of a strictly rising list is greater
pub rest_greater : (p : ℕ) (ps : List ℕ) → IsStrictlySortedBy nat_cmp (p ∷ ps) → Each (λ q. p < q) ps
rest_greater p ps sorted = by ps (sorted_head nat_cmp p ps sorted)
  where
    less : (q : ℕ) → nat_cmp p q ≡ Less → p < q
    less q is = by_answer (nat_lt p q) (λ t. ltb-true _ _ t) (λ f. absurd (by_answer (p == q) (λ t. let e = rw (f, t) at is in (cc)) (λ g. let e = rw (f, g) at is in (cc))))

    by : (qs : List ℕ) → Each (λ q. nat_cmp p q ≡ Less) qs → Each (λ q. p < q) qs
    by [] all = tt
    by (q ∷ qs) all = (less q all.0, by qs all.1)

-- a number of a strictly rising list isn't among those before it
pub not_before : (ps : List ℕ) (i d : ℕ) → IsStrictlyIncreasing ps → i < length ps → is_among (take i ps) (get_or ps i d) ≡ false
not_before ps i d rises within = by ps i (sorted_from_strictly_increasing ps rises) within
  where
    greater : (p : ℕ) (qs : List ℕ) (k : ℕ) → Each (λ q. p < q) qs → k < length qs → p < get_or qs k d
    greater p [] k each below = absurd (omega (arith, below))
    greater p (q ∷ qs) zero each below = each.0
    greater p (q ∷ qs) (suc k) each below = greater p qs k each.1 (omega (arith, below))

    by : (qs : List ℕ) (k : ℕ) → IsStrictlySortedBy nat_cmp qs → k < length qs → is_among (take k qs) (get_or qs k d) ≡ false
    by [] k up below = absurd (omega (arith, below))
    by (q ∷ qs) zero up below = refl
    by (q ∷ qs) (suc k) up below =
        let more = greater q qs k (rest_greater q qs up) (omega (arith, below)) in
        let other : (q == get_or qs k d) ≡ false = false_from_ne_true _ (λ e. let same : q ≡ get_or qs k d = eqb-true _ _ e in absurd (omega (arith, same, more))) in
        rw other (by qs k (sorted_tail nat_cmp q qs up) (omega (arith, below)))
