-- Comparisons and quotients of numbers that have a factor in common.
use Rattle.std.proofs.Common.{◌≡◌, ℕ, ◌+◌, ◌*◌, ◌/◌, ◌%◌, ◌<◌, ◌≤◌, min, nat_le, refl, sym, ap, ◌∙◌, arith, inl, inr}
use Rattle.std.proofs.Math.Nat.{mul-le-mul_right, le_of_mul-le-mul_right, le-mul_of_pos_right, mul_comm, mul-div_cancel, div-div-eq-div-mul, mul-mod_left}
use Rattle.std.proofs.Math.Arith.{mod-mul}
use Rattle.std.proofs.lemmas.Bool.{cases_eq, cases_lt}
use Rattle.std.proofs.lemmas.Bool.Decides.{nat_tests}
use Rattle.std.proofs.lemmas.Grind.{div_ceil_times}
use Rattle.std.specs.Int.{div_ceil}

-- two comparisons that say the same have the same answer
pub same_order : (a b c d : ℕ) → (a ≤ b → c ≤ d) → (c ≤ d → a ≤ b) → nat_le a b ≡ nat_le c d
same_order a b c d to from = grind (arith, nat_tests, to, from)

-- a common factor counts for nothing in a comparison
pub order_scaled : (a b k : ℕ) → 0 < k → nat_le (a * k) (b * k) ≡ nat_le a b
order_scaled a b k pos = same_order (a * k) (b * k) a b (λ h. le_of_mul-le-mul_right h pos) (λ h. mul-le-mul_right k h)

-- nor in a quotient
pub quotient_scaled : (a b k : ℕ) → 0 < k → (a * k) / (b * k) ≡ a / b
quotient_scaled a b k pos =
    ap (λ x. (a * k) / x) (mul_comm b k) ∙ sym (div-div-eq-div-mul (a * k) k b) ∙ ap (λ x. x / b) (mul-div_cancel a pos)

-- and it is a factor of the remainder
remainder_scaled : (a b k : ℕ) → 0 < b → 0 < k → (a * k) % (b * k) ≡ (a % b) * k
remainder_scaled a b k some pos =
    let parts = mod-mul (a * k) some pos in
    let first : (a * k) / k ≡ a = mul-div_cancel a pos in
    let second : (a * k) % k ≡ 0 = mul-mod_left a k in
    rw (parts, first, second) (omega arith)

-- whether a number is 0 doesn't depend on a factor
one_if_some : (n k : ℕ) → 0 < k → min 1 (n * k) ≡ min 1 n
one_if_some n k pos = let more : n ≤ n * k = le-mul_of_pos_right n pos in elim (cases_eq n 0) [
  | inl none ↦ rw none (omega arith)
  | inr some ↦ omega (arith, more)
]

-- a common factor counts for nothing in a quotient that is rounded up
pub ceiling_scaled : (a b k : ℕ) → 0 < b → 0 < k → div_ceil (a * k) (b * k) ≡ div_ceil a b
ceiling_scaled a b k some pos =
    let whole = quotient_scaled a b k pos in
    let rest = remainder_scaled a b k some pos in
    let one = one_if_some (a % b) k pos in
    rw (whole, rest, one) refl

-- a multiple has no rest
pub ceiling_multiple : (a k : ℕ) → 0 < k → div_ceil (a * k) k ≡ a
ceiling_multiple a k pos =
    let whole : (a * k) / k ≡ a = mul-div_cancel a pos in
    let rest : (a * k) % k ≡ 0 = mul-mod_left a k in
    rw (whole, rest) (omega arith)

-- a quotient that is rounded up is at most a number where what is divided is at most that many times the divisor
pub ceiling_order : (a b n : ℕ) → 0 < b → nat_le (div_ceil a b) n ≡ nat_le a (n * b)
ceiling_order a b n pos =
    let bounds = div_ceil_times a b pos in
    same_order (div_ceil a b) n a (n * b)
    (λ h. let more : div_ceil a b * b ≤ n * b = mul-le-mul_right b h in omega (arith, more, bounds))
    (λ h. elim (cases_lt n (div_ceil a b)) [
      | inl over ↦ (let more : (n + 1) * b ≤ div_ceil a b * b = mul-le-mul_right b (omega (arith, over)) in omega (arith, more, bounds))
      | inr here ↦ here
    ])
