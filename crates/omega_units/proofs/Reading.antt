-- One digit more, and the room that is left for the others.
use Rattle.std.proofs.Common.{◌≡◌, ℕ, suc, ◌+◌, ◌-◌, ◌*◌, ◌^◌, ◌<◌, ◌≤◌, true, false, ◌&&◌, List, [], ◌∷◌, ◌++◌, Option, Some, None, IfSome, option_and_then, if◌then◌else◌, length, drop, get_or, refl, ap, ◌∙◌, arith, add-one, drop-cons, length-append, ◌≢◌}
use Rattle.std.proofs.Math.Nat.{pow-suc, one-le-pow, mul-le-mul_right, mul-le-mul_left, pow-le-pow_right}
use Rattle.std.proofs.lemmas.Nat.{pow-add}
use Rattle.std.proofs.lemmas.Bool.{lt-ltb}
use Rattle.std.proofs.lemmas.Bool.Decides.{nat_tests}
use Rattle.std.specs.Char.{digit_value, is_ascii_digit, IsAsciiDigit}
use Rattle.omega_units.specs.Digits.{number_after, number}
use Rattle.std.specs.Str.{all_ascii_digits}
use Rattle.std.specs.Str.Parse.{digits_value_after}

-- what a digit is worth
pub value_of_digit : (byte : ℕ) → IsAsciiDigit byte → digit_value byte ≡ byte - 48
value_of_digit byte digit = grind (arith, nat_tests)

-- a digit in front is taken into the number
number_after_digit : (start byte digit : ℕ) (text : List ℕ) → IsAsciiDigit byte → is_ascii_digit byte ≡ true → digit ≡ byte - 48
    → number_after (start * 10 + digit) text ≡ number_after start (byte ∷ text)
number_after_digit start byte digit text cases test is = rw (value_of_digit byte cases, test, is) refl

-- and so is the digit at a place
pub number_after_place : (start digit place : ℕ) (text : List ℕ) → place < length text → IsAsciiDigit (get_or text place 0)
    → is_ascii_digit (get_or text place 0) ≡ true → digit ≡ get_or text place 0 - 48
    → number_after (start * 10 + digit) (drop (place + 1) text) ≡ number_after start (drop place text)
number_after_place start digit place text less cases test is =
    rw (add-one, drop-cons text place 0 less) (number_after_digit start (get_or text place 0) digit (drop (suc place) text) cases test is)

-- the power of ten at a place is ten times that at the next
power_at : (place count : ℕ) → place < count → 10 ^ (count - place) ≡ 10 ^ (count - (place + 1)) * 10
power_at place count less =
    let more : count - place ≡ suc (count - (place + 1)) = omega arith in
    ap (λ n. 10 ^ n) more ∙ pow-suc 10 (count - (place + 1))

-- where a digit is left, there is room for ten times the number
pub room_now : (number place count most : ℕ) → place < count → (number + 1) * 10 ^ (count - place) ≤ most → (number + 1) * 10 ≤ most
room_now number place count most less room =
    let power = power_at place count less in
    let one : 1 ≤ 10 ^ (count - (place + 1)) = one-le-pow (count - (place + 1)) 10 (omega arith) in
    let ten : 10 ≤ 10 ^ (count - place) = omega (arith, power, one) in
    let all = mul-le-mul_left (number + 1) ten in
    omega (arith, all, room)

-- and behind that digit as much room as is wanted
pub room_after : (number digit place count most : ℕ) → place < count → digit ≤ 9 → (number + 1) * 10 ^ (count - place) ≤ most
    → (number * 10 + digit + 1) * 10 ^ (count - (place + 1)) ≤ most
room_after number digit place count most less small room =
    let power = power_at place count less in
    let grows : (number * 10 + digit + 1) * 10 ^ (count - (place + 1)) ≤ (number * 10 + 10) * 10 ^ (count - (place + 1))
    = mul-le-mul_right (10 ^ (count - (place + 1))) (omega arith) in
    let same : (number * 10 + 10) * 10 ^ (count - (place + 1)) ≡ (number + 1) * 10 ^ (count - place) = rw power (omega arith) in
    omega (arith, grows, same, room)

-- with no digit left there is the number itself
pub room_last : (number place count most : ℕ) → count ≤ place → (number + 1) * 10 ^ (count - place) ≤ most → number + 1 ≤ most
room_last number place count most all room =
    let none : count - place ≡ 0 = omega arith in
    let one : 10 ^ (count - place) ≡ 1 = ap (λ n. 10 ^ n) none in
    omega (arith, rw one at room)

-- a text of no more digits than so many has room
pub room_first : (count most : ℕ) → count ≤ most → (0 + 1) * 10 ^ count ≤ 10 ^ most
room_first count most short = let power : 10 ^ count ≤ 10 ^ most = pow-le-pow_right (omega arith) short in omega (arith, power)

-- a text behind another goes on with the number of the other
pub number_after_append : (start : ℕ) (xs ys : List ℕ) → number_after start (xs ++ ys) ≡ option_and_then (λ n. number_after n ys) (number_after start xs)
number_after_append start [] ys = refl
number_after_append start (x ∷ xs) ys =
    let next : ℕ = start * 10 + digit_value x in
    elim (is_ascii_digit x) as (λ b. (if b && all_ascii_digits (xs ++ ys) then Some (digits_value_after 10 next (xs ++ ys)) else None)
    ≡ option_and_then (λ n. number_after n ys) (if b && all_ascii_digits xs then Some (digits_value_after 10 next xs) else None)) [
      | true ↦ number_after_append next xs ys
      | false ↦ refl
    ]

-- a bound on a number, from one that is no greater
pub bound_grows : (number : Option ℕ) (low high : ℕ) → low ≤ high → IfSome number (λ n. n + 1 ≤ low) → IfSome number (λ n. n < high)
bound_grows None low high le bound = tt
bound_grows (Some n) low high le bound = omega arith

-- behind the digits of one text there is room for those of another
pub room_behind : (number front back most : ℕ) → number + 1 ≤ (0 + 1) * 10 ^ front → front + back ≤ most → (number + 1) * 10 ^ back ≤ 10 ^ most
room_behind number front back most bound short =
    let more : (number + 1) * 10 ^ back ≤ ((0 + 1) * 10 ^ front) * 10 ^ back = mul-le-mul_right (10 ^ back) bound in
    let sum : 10 ^ (front + back) ≡ 10 ^ front * 10 ^ back = pow-add 10 front back in
    let fits : 10 ^ (front + back) ≤ 10 ^ most = pow-le-pow_right (omega arith) short in
    omega (arith, more, sum, fits)

-- two texts of digits one behind the other
pub number_joined : (front back : List ℕ) → length front + length back ≢ 0 → number (front ++ back) ≡ option_and_then (λ n. number_after n back) (number_after 0 front)
number_joined front back some =
    let long : 0 < length (front ++ back) = omega (arith, length-append front back) in
    rw (lt-ltb 0 (length (front ++ back)) long) (number_after_append 0 front back)
