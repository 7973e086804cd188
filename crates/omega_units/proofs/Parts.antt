-- A quantity cut at its marks, with an exponent and without.
use Rattle.std.proofs.Common.{◌≡◌, ℕ, suc, ◌+◌, ◌*◌, ◌^◌, ◌<◌, ◌≤◌, Bool, true, false, not, cond, ◌&&◌, ◌||◌, List, [], ◌∷◌, ◌++◌, Option, Some, None, option_map, option_and_then, if◌then◌else◌, nat_lt, nat_le, length, drop, refl, sym, ap, ◌∙◌, arith}
use Rattle.std.proofs.lemmas.List.{drop_all}
use Rattle.std.proofs.lemmas.Bool.{lt-ltb, le-ltb, le-leb}
use Rattle.std.proofs.lemmas.Bool.Decides.{nat_tests}
use Rattle.std.specs.List.{list_any, position_or_len, before_first}
use Rattle.std.specs.Str.Parse.{digits_value, starts_with_minus, without_leading_sign}
use Rattle.omega_model.specs.Numbers.{Fraction, is_exponent_mark, is_digits, is_quantity, is_at_most_1000, exact_value, exponent_text, integer_digits, fraction_digits}
use Rattle.omega_units.specs.Units.{units, quotient, rounded}
use Rattle.omega_units.specs.Parts.{decimal_of, significand_of, exponent_of, value_of}
use Rattle.omega_units.specs.declared.decimal.Decimal.{Decimal}
use Rattle.omega_units.specs.declared.Rounding.{Rounding}
use Rattle.omega_units.specs.declared.Rounding.TheVariants.{Up, Down}
use Rattle.omega_units.proofs.Tens.{ten_to_is}

-- the value with a negative exponent
pub value_negative : (d : Decimal) → d.is_negative ≡ true → value_of d ≡ record { over = d.mantissa * 10 ^ 0; under = 10 ^ (d.places + d.exponent) }
value_negative d negative =
    let one : d.mantissa ≡ d.mantissa * 1 = omega arith in
    rw (negative, ten_to_is (d.places + d.exponent)) (ap (λ x. let v : Fraction = record { over = x; under = 10 ^ (d.places + d.exponent) } in v) one)

-- the value with another
pub value_positive : (d : Decimal) → d.is_negative ≡ false → value_of d ≡ record { over = d.mantissa * 10 ^ d.exponent; under = 10 ^ d.places }
value_positive d positive = rw (positive, ten_to_is d.exponent, ten_to_is d.places) refl

-- one step in both numbers leaves their order
order_step : (a b : ℕ) → nat_lt (1 + a) (suc b) ≡ nat_lt a b
order_step a b = grind (arith, nat_tests)

-- one passes where the first that passes has a place
any_place : (p : ℕ → Bool) (xs : List ℕ) → list_any p xs ≡ nat_lt (position_or_len p xs) (length xs)
any_place p [] = refl
any_place p (x ∷ xs) =
    elim (p x) as (λ b. (b || list_any p xs) ≡ nat_lt (cond (not b) (1 + position_or_len p xs) 0) (suc (length xs))) [
      | true ↦ sym (lt-ltb 0 (suc (length xs)) (omega arith))
      | false ↦ any_place p xs ∙ sym (order_step (position_or_len p xs) (length xs))
    ]

-- the part before an exponent, where there is none
abbrev pub alone : ℕ × ℕ → Decimal
alone (mantissa, places) = record { mantissa = mantissa; places = places; exponent = 0; is_negative = false }

-- what is written where there is no exponent
whole_case : (digits any marked negative : Bool) (m p e : ℕ) → any ≡ false → e ≡ 0 → negative ≡ false
    → (if digits && (not any || marked) then Some (record { mantissa = m; places = p; exponent = e; is_negative = negative }) else None)
    ≡ option_map alone (option_map (λ (n : ℕ). (n, p)) (if digits then Some m else None))
whole_case true any marked negative m p e none zero positive = rw (none, zero, positive) refl
whole_case false any marked negative m p e none zero positive = refl

-- the part before an exponent, and the exponent
abbrev pub joined : Option (ℕ × ℕ) → Option (Bool × ℕ) → Option Decimal
joined (Some (mantissa, places)) (Some (negative, exponent)) = Some (record { mantissa = mantissa; places = places; exponent = exponent; is_negative = negative })
joined _ _ = None

-- what is written where there is one
marked_case : (digits any marked negative : Bool) (m p e : ℕ) → any ≡ true
    → (if digits && (not any || marked) then Some (record { mantissa = m; places = p; exponent = e; is_negative = negative }) else None)
    ≡ joined (option_map (λ (n : ℕ). (n, p)) (if digits then Some m else None)) (option_map (λ (n : ℕ). (negative, n)) (if marked then Some e else None))
marked_case true any true negative m p e some = rw some refl
marked_case true any false negative m p e some = rw some refl
marked_case false any true negative m p e some = refl
marked_case false any false negative m p e some = refl

-- a text without an exponent
pub decimal_whole : (text : List ℕ) → position_or_len is_exponent_mark text ≡ length text
    → decimal_of text ≡ option_map alone (significand_of (before_first is_exponent_mark text))
decimal_whole text all =
    let none : list_any is_exponent_mark text ≡ false = any_place is_exponent_mark text ∙ le-ltb _ (length text) (omega (arith, all)) in
    let nothing : exponent_text text ≡ [] = ap (λ n. drop (n + 1) text) all ∙ drop_all (length text + 1) text (omega arith) in
    whole_case (is_digits (integer_digits text ++ fraction_digits text)) _ (is_digits (without_leading_sign (exponent_text text))) (starts_with_minus (exponent_text text))
    (digits_value 10 (integer_digits text ++ fraction_digits text)) (length (fraction_digits text)) (digits_value 10 (without_leading_sign (exponent_text text))) none (ap (λ bs. digits_value 10 (without_leading_sign bs)) nothing) (ap (λ bs. starts_with_minus bs) nothing)

-- a text with an exponent
pub decimal_marked : (text : List ℕ) → position_or_len is_exponent_mark text < length text
    → decimal_of text ≡ joined (significand_of (before_first is_exponent_mark text)) (exponent_of (exponent_text text))
decimal_marked text here =
    let some : list_any is_exponent_mark text ≡ true = any_place is_exponent_mark text ∙ lt-ltb _ (length text) here in
    marked_case (is_digits (integer_digits text ++ fraction_digits text)) _ (is_digits (without_leading_sign (exponent_text text))) (starts_with_minus (exponent_text text))
    (digits_value 10 (integer_digits text ++ fraction_digits text)) (length (fraction_digits text)) (digits_value 10 (without_leading_sign (exponent_text text))) some

-- the units of a quantity in bounds, and of none
units_case : (short fits low : Bool) (value : Fraction) (decimal : Decimal) (f : Fraction → ℕ) (g : Decimal → Option ℕ) → short ≡ true → g decimal ≡ (if low then Some (f value) else None)
    → option_map f (if short && fits && low then Some value else None) ≡ option_and_then g (if fits then Some decimal else None)
units_case short true true value decimal f g all is = rw all (sym is)
units_case short true false value decimal f g all is = rw all (sym is)
units_case short false low value decimal f g all is = rw all refl

-- the units of a text are those of its parts
pub units_of_parts : (rounding : Rounding) (text : List ℕ) → 0 < length text → length text ≤ 32
    → units rounding text ≡ option_and_then (λ decimal. rounded rounding (value_of decimal)) (decimal_of text)
units_of_parts rounding [] some short = absurd (omega arith)
units_of_parts Up (byte ∷ bytes) some short =
    let all : nat_le (length (byte ∷ bytes)) 32 ≡ true = le-leb (length (byte ∷ bytes)) 32 short in
    units_case _ (is_quantity (byte ∷ bytes)) (is_at_most_1000 (exact_value (byte ∷ bytes))) (exact_value (byte ∷ bytes)) _ (λ value. quotient Up (value.over * 10 ^ 9) value.under) (λ decimal. rounded Up (value_of decimal)) all refl
units_of_parts Down (byte ∷ bytes) some short =
    let all : nat_le (length (byte ∷ bytes)) 32 ≡ true = le-leb (length (byte ∷ bytes)) 32 short in
    units_case _ (is_quantity (byte ∷ bytes)) (is_at_most_1000 (exact_value (byte ∷ bytes))) (exact_value (byte ∷ bytes)) _ (λ value. quotient Down (value.over * 10 ^ 9) value.under) (λ decimal. rounded Down (value_of decimal)) all refl
