-- Numbers times a power of ten, over a power of ten.
use Rattle.std.proofs.Common.{◌≡◌, ℕ, ◌+◌, ◌-◌, ◌*◌, ◌/◌, ◌%◌, ◌^◌, ◌<◌, ◌≤◌, min, nat_le, true, Option, Some, None, SomeIff, if◌then◌else◌, refl, sym, ap, ◌∙◌, arith, inl, inr}
use Rattle.std.proofs.Math.Nat.{pow-le-pow_right, one-le-pow, mul-le-mul, mul-div_cancel, div-eq_of_lt, mod-eq_of_lt}
use Rattle.std.proofs.lemmas.Nat.{pow-add}
use Rattle.std.proofs.lemmas.Bool.{cases_lt, lt-leb, le-leb, leb-true, leb-false}
use Rattle.std.specs.Int.{div_ceil}
use Rattle.omega_model.specs.Numbers.{ten_to}
use Rattle.omega_units.specs.Units.{quotient, rounded}
use Rattle.omega_units.specs.declared.Rounding.{Rounding}
use Rattle.omega_units.specs.declared.Rounding.TheVariants.{Up, Down}
use Rattle.omega_units.proofs.Scaling.{order_scaled, quotient_scaled, ceiling_scaled, ceiling_multiple, ceiling_order}

-- what the power stands for
pub ten_to_is : (n : ℕ) → ten_to n ≡ 10 ^ n
unfolding ten_to
ten_to_is n = refl

-- a power of ten is no 0
pub ten_pos : (n : ℕ) → 0 < 10 ^ n
ten_pos n = one-le-pow n 10 (omega arith)

-- a multiple has no rest to round
quotient_multiple : (rounding : Rounding) (n k : ℕ) → 0 < k → quotient rounding (n * k) k ≡ n
quotient_multiple Up n k pos = ceiling_multiple n k pos
quotient_multiple Down n k pos = mul-div_cancel n pos

-- a common factor counts for nothing
quotient_common : (rounding : Rounding) (a b k : ℕ) → 0 < b → 0 < k → quotient rounding (a * k) (b * k) ≡ quotient rounding a b
quotient_common Up a b k some pos = ceiling_scaled a b k some pos
quotient_common Down a b k some pos = quotient_scaled a b k pos

-- from 10 ^ 13 on a number that isn't 0 has too many units
pub too_high : (n k : ℕ) → 0 < n → 12 < k → 1000000000000 < n * 10 ^ k
too_high n k some high =
    let power : 10 ^ 13 ≤ 10 ^ k = pow-le-pow_right (omega arith) high in
    let product : 1 * 10 ^ 13 ≤ n * 10 ^ k = mul-le-mul some power in
    omega (arith, product)

-- over a greater number every number has the same quotient
quotient_below : (rounding : Rounding) (n b c : ℕ) → n < b → n < c → quotient rounding n b ≡ quotient rounding n c
quotient_below Up n b c small less =
    let x : n / b ≡ 0 = div-eq_of_lt small in let y : n % b ≡ n = mod-eq_of_lt small in
    let z : n / c ≡ 0 = div-eq_of_lt less in let w : n % c ≡ n = mod-eq_of_lt less in
    rw (x, y, z, w) refl
quotient_below Down n b c small less = div-eq_of_lt small ∙ sym (div-eq_of_lt less)

-- a divisor of 10 ^ 32 serves for every higher one
pub quotient_capped : (rounding : Rounding) (n k : ℕ) → n < 10 ^ 32 → quotient rounding n (10 ^ min k 32) ≡ quotient rounding n (10 ^ k)
quotient_capped rounding n k small = elim (cases_lt 32 k) [
  | inl high ↦ (let top : min k 32 ≡ 32 = omega (arith, high) in
      let deep : 32 ≤ k = omega (arith, high) in
      let power : 10 ^ 32 ≤ 10 ^ k = pow-le-pow_right (omega arith) deep in
      ap (λ i. quotient rounding n (10 ^ i)) top ∙ quotient_below rounding n (10 ^ 32) (10 ^ k) small (omega (arith, small, power)))
  | inr low ↦ (let same : min k 32 ≡ k = omega (arith, low) in ap (λ i. quotient rounding n (10 ^ i)) same)
]

-- both sides of the bound of 1000, in units
bound_in_units : (n r l : ℕ) → nat_le (n * 10 ^ r) (1000 * 10 ^ l) ≡ nat_le (n * 10 ^ r * 1000000000) (1000000000000 * 10 ^ l)
bound_in_units n r l =
    let same : 1000 * 10 ^ l * 1000000000 ≡ 1000000000000 * 10 ^ l = omega arith in
    sym (order_scaled (n * 10 ^ r) (1000 * 10 ^ l) 1000000000 (omega arith)) ∙ ap (λ x. nat_le (n * 10 ^ r * 1000000000) x) same

-- the units of a number times a power of ten over another, where what is left is a power to multiply by
pub rounded_raised : (rounding : Rounding) (n r l u : ℕ) → r + 9 ≡ l + u
    → rounded rounding (record { over = n * 10 ^ r; under = 10 ^ l })
    ≡ (if nat_le (n * 10 ^ u) 1000000000000 then Some (n * 10 ^ u) else None)
rounded_raised rounding n r l u same =
    let left : 10 ^ (r + 9) ≡ 10 ^ r * 1000000000 = pow-add 10 r 9 in
    let right : 10 ^ (l + u) ≡ 10 ^ l * 10 ^ u = pow-add 10 l u in
    let powers : 10 ^ r * 1000000000 ≡ 10 ^ l * 10 ^ u = sym left ∙ ap (λ k. 10 ^ k) same ∙ right in
    let over : n * 10 ^ r * 1000000000 ≡ n * 10 ^ u * 10 ^ l = omega (arith, ap (λ k. n * k) powers) in
    let bound = bound_in_units n r l in
    let order = order_scaled (n * 10 ^ u) 1000000000000 (10 ^ l) (ten_pos l) in
    let all = quotient_multiple rounding (n * 10 ^ u) (10 ^ l) (ten_pos l) in
    rw (bound, over, order, all) refl

-- and where it is one to divide by
pub rounded_lowered : (rounding : Rounding) (n r l d : ℕ) → r + 9 + d ≡ l
    → rounded rounding (record { over = n * 10 ^ r; under = 10 ^ l })
    ≡ (if nat_le n (1000000000000 * 10 ^ d) then Some (quotient rounding n (10 ^ d)) else None)
rounded_lowered rounding n r l d same =
    let up : 10 ^ (r + 9) ≡ 10 ^ r * 1000000000 = pow-add 10 r 9 in
    let down : 10 ^ l ≡ 10 ^ (r + 9) * 10 ^ d = ap (λ k. 10 ^ k) (sym same) ∙ pow-add 10 (r + 9) d in
    let over : n * 10 ^ r * 1000000000 ≡ n * 10 ^ (r + 9) = omega (arith, ap (λ k. n * k) up) in
    let under : 10 ^ l ≡ 10 ^ d * 10 ^ (r + 9) = omega (arith, down) in
    let most : 1000000000000 * 10 ^ l ≡ 1000000000000 * 10 ^ d * 10 ^ (r + 9) = omega (arith, under) in
    let bound = bound_in_units n r l in
    let order = order_scaled n (1000000000000 * 10 ^ d) (10 ^ (r + 9)) (ten_pos (r + 9)) in
    let all = quotient_common rounding n (10 ^ d) (10 ^ (r + 9)) (ten_pos d) (ten_pos (r + 9)) in
    rw (bound, over, most, order, under, all) refl

-- what is above the bound once it is rounded up was above it before
pub above_most : (n k up : ℕ) → up ≡ div_ceil n (10 ^ k) → 1000000000000 < up → 1000000000000 * 10 ^ k < n
above_most n k up is high =
    let same = ceiling_order n (10 ^ k) 1000000000000 (ten_pos k) in
    leb-false n (1000000000000 * 10 ^ k) (sym same ∙ ap (λ x. nat_le x 1000000000000) (sym is) ∙ lt-leb up 1000000000000 high)

-- and what is at most the bound was so before
pub within_most : (n k up : ℕ) → up ≡ div_ceil n (10 ^ k) → up ≤ 1000000000000 → n ≤ 1000000000000 * 10 ^ k
within_most n k up is low =
    let same = ceiling_order n (10 ^ k) 1000000000000 (ten_pos k) in
    leb-true n (1000000000000 * 10 ^ k) (sym same ∙ ap (λ x. nat_le x 1000000000000) (sym is) ∙ le-leb up 1000000000000 low)

-- a value exactly up to a bound, as a choice by a test
pub up_to : (o : Option ℕ) (a b v : ℕ) → SomeIff o (a ≤ b) v → o ≡ (if nat_le a b then Some v else None)
up_to (Some x) a b v is = rw (le-leb a b is.0) (ap (λ n. Some n) is.1)
up_to None a b v isnt = elim (cases_lt b a) [
  | inl above ↦ rw (lt-leb a b above) refl
  | inr within ↦ absurd (isnt within)
]

-- 0 units
pub rounded_zero : (rounding : Rounding) (r l : ℕ) → rounded rounding (record { over = 0 * 10 ^ r; under = 10 ^ l }) ≡ Some 0
rounded_zero rounding r l =
    let none : 0 * 10 ^ r ≡ 0 = omega arith in
    let same : 0 ≡ 0 * 10 ^ l = omega arith in
    let all : quotient rounding 0 (10 ^ l) ≡ 0 = ap (λ x. quotient rounding x (10 ^ l)) same ∙ quotient_multiple rounding 0 (10 ^ l) (ten_pos l) in
    let bound : nat_le 0 (1000 * 10 ^ l) ≡ true = le-leb 0 (1000 * 10 ^ l) (omega arith) in
    rw (none, bound, all) refl

-- an exponent far below rounds as 10 ^ 32 does
pub far_below : (rounding : Rounding) (n l : ℕ) → n < 10 ^ 32 → 41 ≤ l
    → rounded rounding (record { over = n; under = ten_to l }) ≡ Some (quotient rounding n (10 ^ 32))
far_below rounding n l small deep =
    let over : n ≡ n * 10 ^ 0 = omega arith in
    let left : 0 + 9 + (l - 9) ≡ l = omega arith in
    let power : 10 ^ 32 ≤ 10 ^ (l - 9) = let at : 32 ≤ l - 9 = omega arith in pow-le-pow_right (omega arith) at in
    let bound : nat_le n (1000000000000 * 10 ^ (l - 9)) ≡ true = le-leb n (1000000000000 * 10 ^ (l - 9)) (omega (arith, power)) in
    let same = quotient_below rounding n (10 ^ (l - 9)) (10 ^ 32) (omega (arith, power)) small in
    ap (λ x. rounded rounding (record { over = x; under = ten_to l })) over
    ∙ ap (λ x. rounded rounding (record { over = n * 10 ^ 0; under = x })) (ten_to_is l)
    ∙ rounded_lowered rounding n 0 l (l - 9) left ∙ rw (bound, same) refl

-- an exponent far above is out of bounds, unless the number is 0
pub far_above : (rounding : Rounding) (n r l : ℕ) → 0 < n → l + 4 ≤ r → rounded rounding (record { over = n * ten_to r; under = ten_to l }) ≡ None
far_above rounding n r l some high =
    let left : r + 9 ≡ l + (r + 9 - l) = omega arith in
    let bound = lt-leb (n * 10 ^ (r + 9 - l)) 1000000000000 (too_high n (r + 9 - l) some (omega arith)) in
    ap (λ x. rounded rounding (record { over = n * x; under = ten_to l })) (ten_to_is r)
    ∙ ap (λ x. rounded rounding (record { over = n * 10 ^ r; under = x })) (ten_to_is l)
    ∙ rounded_raised rounding n r l (r + 9 - l) left ∙ rw bound refl

-- 0 is 0 units whatever its exponent
pub zero_value : (rounding : Rounding) (r l : ℕ) → rounded rounding (record { over = 0 * ten_to r; under = ten_to l }) ≡ Some 0
zero_value rounding r l =
    ap (λ x. rounded rounding (record { over = 0 * x; under = ten_to l })) (ten_to_is r)
    ∙ ap (λ x. rounded rounding (record { over = 0 * 10 ^ r; under = x })) (ten_to_is l) ∙ rounded_zero rounding r l
