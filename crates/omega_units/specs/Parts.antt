-- A quantity as it is written, before anything is computed.
use Rattle.std.specs.Prelude.{◌+◌, ◌*◌, ◌^◌, ◌<◌, ◌≤◌, Bool, List, ◌++◌, ℕ, length, Option, Some, None, option_map, if◌then◌else◌}
use Rattle.std.specs.Str.Parse.{starts_with_minus, without_leading_sign}
use Rattle.std.specs.List.{before_first, after_first}
use Rattle.omega_model.specs.Numbers.{Fraction, ten_to, is_point, is_quantity, mantissa, fraction_digits, exponent, exponent_text}
use Rattle.omega_units.specs.Digits.{number}
use Rattle.omega_units.specs.declared.decimal.Decimal.{Decimal}

-- of the part before an exponent: the number that its digits write, and how many of them stand behind the point
abbrev pub significand_of : List ℕ → Option (ℕ × ℕ)
significand_of text =
    option_map (λ mantissa. (mantissa, length (after_first is_point text)))
    (number (before_first is_point text ++ after_first is_point text))

-- of an exponent: whether it is negative, and the number that its digits write
abbrev pub exponent_of : List ℕ → Option (Bool × ℕ)
exponent_of text = option_map (λ exponent. (starts_with_minus text, exponent)) (number (without_leading_sign text))

-- what a text writes; nothing where it is no quantity
abbrev pub decimal_of : List ℕ → Option Decimal
decimal_of text =
    if is_quantity text then Some record {
      mantissa = mantissa text;
      places = length (fraction_digits text);
      exponent = exponent text;
      is_negative = starts_with_minus (exponent_text text);
    } else None

-- no part is greater than a text of 32 bytes can make it
pub record IsShort (decimal : Decimal) : Type 0 where
  pub mantissa : decimal.mantissa < 10 ^ 32
  pub places : decimal.places ≤ 32
  pub exponent : decimal.exponent < 10 ^ 32

-- its exact value
abbrev pub value_of : Decimal → Fraction
value_of decimal =
    if decimal.is_negative
    then record { over = decimal.mantissa; under = ten_to (decimal.places + decimal.exponent) }
    else record { over = decimal.mantissa * ten_to decimal.exponent; under = ten_to decimal.places }
