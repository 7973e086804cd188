-- The first of a list, put together from the first of its parts.
use Rattle.std.proofs.Common.{◌≡◌, ◌∙◌, ◌+◌, ◌-◌, ◌≤◌, ◌++◌, ◌∷◌, ℕ, zero, suc, Bool, false, List, [], Option, Some, None, drop, take, ap, sym, subst, refl, arith}
use Rattle.std.specs.List.{range_with_len}
use Rattle.std.proofs.lemmas.List.{append_assoc}
use Rattle.std.proofs.lemmas.List.Elements.{All-nil, All-cons, All-append}
use Rattle.omega_fit.specs.Wrapped.{positions_from, IsFirst, FirstBetween}
use Rattle.omega_fit.proofs.Middles.{below_or_not}

-- the first of the numbers from one up to another
pub first_of_range : (answers : ℕ → Bool → Type 0) (n from : ℕ) (found : Option ℕ)
    → FirstBetween answers from (from + n) found → IsFirst answers (range_with_len from n) found
unfolding IsFirst
first_of_range answers zero from None f = All-nil (λ other. answers other false)
first_of_range answers zero from (Some i) f = absurd (omega (arith, f.0, f.1))
first_of_range answers (suc n) from None f =
    All-cons (λ other. answers other false) from _ (f from (omega arith) (omega arith))
    (first_of_range answers n (from + 1) None (λ j a b. f j (omega arith) (omega arith)))
first_of_range answers (suc n) from (Some i) f = below_or_not from i
    (λ lt.
    let later = first_of_range answers n (from + 1) (Some i) (omega arith, omega (arith, f.1), f.2, λ j a b. f.3 j (omega arith) b) in
    record {
      before = from ∷ later.before;
      after = later.after;
      split = ap (λ z. from ∷ z) later.split;
      passed_over = All-cons (λ other. answers other false) from later.before (f.3 from (omega arith) lt) later.passed_over;
      taken = later.taken;
    })
    (λ ge.
    let here : from ≡ i = omega (arith, f.0) in
    record {
      before = [];
      after = range_with_len (from + 1) n;
      split = ap (λ z. z ∷ range_with_len (from + 1) n) here;
      passed_over = All-nil (λ other. answers other false);
      taken = f.2;
    })

-- what is found in the first part
pub found_in_first : {X : Type 0} (answers : X → Bool → Type 0) (xs ys : List X) (x : X)
    → IsFirst answers xs (Some x) → IsFirst answers (xs ++ ys) (Some x)
unfolding IsFirst
found_in_first answers xs ys x f = record {
  before = f.before;
  after = f.after ++ ys;
  split = ap (λ z. z ++ ys) f.split ∙ append_assoc f.before (x ∷ f.after) ys;
  passed_over = f.passed_over;
  taken = f.taken;
}

-- what is found in the second part, where the first has none
pub none_in_first : {X : Type 0} (answers : X → Bool → Type 0) (xs ys : List X) (found : Option X)
    → IsFirst answers xs None → IsFirst answers ys found → IsFirst answers (xs ++ ys) found
unfolding IsFirst
none_in_first answers xs ys None none f = All-append (λ other. answers other false) xs ys none f
none_in_first answers xs ys (Some x) none f = record {
  before = xs ++ f.before;
  after = f.after;
  split = ap (λ z. xs ++ z) f.split ∙ sym (append_assoc xs f.before (x ∷ f.after));
  passed_over = All-append (λ other. answers other false) xs f.before none f.passed_over;
  taken = f.taken;
}

range_drop : (k a n b m : ℕ) → a + k ≡ b → n - k ≡ m → drop k (range_with_len a n) ≡ range_with_len b m
range_drop zero a n b m e f = let g : a ≡ b = omega (arith, e) in let h : n ≡ m = omega (arith, f) in rw (g, h) refl
range_drop (suc k) a zero b m e f = let h : m ≡ 0 = omega (arith, f) in rw h refl
range_drop (suc k) a (suc n) b m e f = range_drop k (a + 1) n b m (omega (arith, e)) (omega (arith, f))

range_take : (k a n : ℕ) → k ≤ n → take k (range_with_len a n) ≡ range_with_len a k
range_take zero a n le = refl
range_take (suc k) a zero le = absurd (omega arith)
range_take (suc k) a (suc n) le = ap (λ z. a ∷ z) (range_take k (a + 1) n (omega arith))

-- the round of positions in its two parts
pub two_parts : (start len : ℕ) → start ≤ len → positions_from start len ≡ range_with_len start (len - start) ++ range_with_len 0 start
two_parts start len le = rw (range_drop start 0 len start (len - start) (omega arith) refl, range_take start 0 len le) refl

up_to : (answers : ℕ → Bool → Type 0) (from to : ℕ) (found : Option ℕ) → from ≤ to
    → FirstBetween answers from to found → IsFirst answers (range_with_len from (to - from)) found
up_to answers from to found le f =
    let e : to ≡ from + (to - from) = omega arith in
    first_of_range answers (to - from) from found (subst (λ z. FirstBetween answers from z found) e f)

-- what is found from the start on
pub found_from_start : (answers : ℕ → Bool → Type 0) (start len i : ℕ) → start ≤ len
    → FirstBetween answers start len (Some i) → IsFirst answers (positions_from start len) (Some i)
found_from_start answers start len i le f =
    subst (λ z. IsFirst answers z (Some i)) (sym (two_parts start len le))
    (found_in_first answers (range_with_len start (len - start)) (range_with_len 0 start) i (up_to answers start len (Some i) le f))

-- what is found before the start, where there is none from it on
pub none_from_start : (answers : ℕ → Bool → Type 0) (start len : ℕ) (found : Option ℕ) → start ≤ len
    → FirstBetween answers start len None → FirstBetween answers 0 start found → IsFirst answers (positions_from start len) found
none_from_start answers start len found le none f =
    subst (λ z. IsFirst answers z found) (sym (two_parts start len le))
    (none_in_first answers (range_with_len start (len - start)) (range_with_len 0 start) found (up_to answers start len None le none)
    (subst (λ z. IsFirst answers (range_with_len 0 z) found) (omega arith) (up_to answers 0 start found (omega arith) f)))
