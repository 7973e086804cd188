-- The greatest number that passes a test, as the last of those that do.
use Rattle.std.proofs.Common.{◌≡◌, ◌∙◌, ◌+◌, ◌<◌, ◌≤◌, ◌↔◌, ◌&&◌, ◌∷◌, ℕ, zero, suc, Bool, true, false, List, Option, Some, None, min, nat_le, cond, refl, ap, add-one, arith}
use Rattle.std.specs.Option.{unwrap_or}
use Rattle.std.specs.List.{filter, last_or, range_with_len}
use Rattle.std.proofs.lemmas.Bool.Decides.{nat_tests}

-- an item that is kept takes the place of what stood before it
after_one : (passes : Bool) (x : ℕ) (kept : List ℕ) (before : Option ℕ)
    → last_or before (cond passes (x ∷ kept) kept) ≡ last_or (cond passes (Some x) before) kept
after_one true x kept before = refl
after_one false x kept before = refl

-- one more number passes where it is at most `most`
one_more : (passes : Bool) (most from : ℕ) (before : Option ℕ)
    → passes ≡ nat_le (from + 1) most → unwrap_or before 0 ≡ min most from
    → unwrap_or (cond passes (Some (from + 1)) before) 0 ≡ min most (from + 1)
one_more true most from before test is = grind (arith, nat_tests)
one_more false most from before test is = grind (arith, nat_tests)

-- where those numbers of a stretch pass that are at most `most`, the last of them is `most` or the stretch's end
last_passed : (passes : ℕ → Bool) (most n from : ℕ) (before : Option ℕ)
    → unwrap_or before 0 ≡ min most from
    → ((i : ℕ) → from < i → i ≤ from + n → passes i ≡ nat_le i most)
    → unwrap_or (last_or before (filter passes (range_with_len (from + 1) n))) 0 ≡ min most (from + n)
last_passed passes most zero from before is test = is ∙ ap (λ end. min most end) (omega arith)
last_passed passes most (suc n) from before is test =
    let kept = filter passes (range_with_len (from + 1 + 1) n) in
    let next = cond (passes (from + 1)) (Some (from + 1)) before in
    ap (λ found. unwrap_or found 0) (after_one (passes (from + 1)) (from + 1) kept before)
    ∙ last_passed passes most n (from + 1) next
    (one_more (passes (from + 1)) most from before (test (from + 1) (omega arith) (omega arith)) is)
    (λ i low high. test i (omega arith) (omega arith))
    ∙ ap (λ end. min most end) (omega arith)

-- the greatest number up to `count` that passes, or 0, where those above 0 pass that are at most `most`
pub greatest_passed : (passes : ℕ → Bool) (most count : ℕ)
    → most ≤ count
    → ((i : ℕ) → 0 < i → i ≤ count → passes i ≡ nat_le i most)
    → unwrap_or (last_or None (filter passes (range_with_len 0 (count + 1)))) 0 ≡ most
greatest_passed passes most count within test =
    ap (λ n. unwrap_or (last_or None (filter passes (range_with_len 0 n))) 0) (add-one count)
    ∙ ap (λ found. unwrap_or found 0) (after_one (passes 0) 0 (filter passes (range_with_len 1 count)) None)
    ∙ last_passed passes most count 0 (cond (passes 0) (Some 0) None) (none_or_zero (passes 0) most)
    (λ i some within. test i some (omega (arith, within)))
    ∙ omega arith
  where
    none_or_zero : (b : Bool) (most : ℕ) → unwrap_or (cond b (Some 0) None) 0 ≡ min most 0
    none_or_zero true most = omega arith
    none_or_zero false most = omega arith

-- three tests that each pass up to a number of their own all pass up to the least of these
pub all_three : (i cpu mem disk a b c d e f : ℕ)
    → (i ≤ cpu ↔ a ≤ b) → (i ≤ mem ↔ c ≤ d) → (i ≤ disk ↔ e ≤ f)
    → (nat_le a b && (nat_le c d && nat_le e f)) ≡ nat_le i (min (min cpu mem) disk)
all_three i cpu mem disk a b c d e f first second third =
    grind (arith, nat_tests, first.0, first.1, second.0, second.1, third.0, third.1)
