-- Numbers in text: whole numbers, and quantities with a point and an exponent.
use Rattle.std.specs.Prelude.{ℕ, ◌+◌, ◌*◌, ◌/◌, ◌^◌, Bool, not, ◌&&◌, ◌||◌, ◌==◌, nat_lt, nat_le, List, [], ◌++◌, length, Option, Some, None, option_map, if◌then◌else◌}
use Rattle.std.specs.List.{before_first, after_first, list_any}
use Rattle.std.specs.Str.{all_ascii_digits}
use Rattle.std.specs.Str.Parse.{digits_value, starts_with_minus, without_leading_sign}
use Rattle.std.specs.Int.{div_ceil}

-- how many bytes the text of a number has at most
abbrev pub longest_number : ℕ
longest_number = 32

-- whether a text is one ASCII digit or more, and nothing else
abbrev pub is_digits : List ℕ → Bool
is_digits text = nat_lt 0 (length text) && all_ascii_digits text

-- the whole number that a text writes: digits alone, at most 32 of them, and a value below 2 ^ 64
abbrev pub whole : List ℕ → Option ℕ
whole text =
    if is_digits text && nat_le (length text) longest_number && nat_lt (digits_value 10 text) (2 ^ 64)
    then Some (digits_value 10 text) else None

-- whether a byte is the point of a quantity
abbrev pub is_point : ℕ → Bool
is_point byte = byte == 46

-- whether a byte is `E` or `e`, after which the exponent of a quantity stands
abbrev pub is_exponent_mark : ℕ → Bool
is_exponent_mark byte = byte == 69 || byte == 101

-- the digits before the point
abbrev pub integer_digits : List ℕ → List ℕ
integer_digits text = before_first is_point (before_first is_exponent_mark text)

-- the digits behind the point
abbrev pub fraction_digits : List ℕ → List ℕ
fraction_digits text = after_first is_point (before_first is_exponent_mark text)

-- the exponent, which may begin with a sign
abbrev pub exponent_text : List ℕ → List ℕ
exponent_text text = after_first is_exponent_mark text

-- whether a text is digits with or without a point, and then an exponent with digits or none
abbrev pub is_quantity : List ℕ → Bool
is_quantity text =
    is_digits (integer_digits text ++ fraction_digits text)
    && (not (list_any is_exponent_mark text) || is_digits (without_leading_sign (exponent_text text)))

-- a number that need not be whole: one number over another
pub record Fraction : Type 0 where
  pub over : ℕ
  pub under : ℕ

-- ten to a power; it unfolds only where a proof asks for it, since an exponent in a text may be huge
unfoldable pub ten_to : ℕ → ℕ
ten_to n = 10 ^ n

-- the number that all digits of a quantity write, as if there were no point
abbrev pub mantissa : List ℕ → ℕ
mantissa text = digits_value 10 (integer_digits text ++ fraction_digits text)

-- the exponent without its sign
abbrev pub exponent : List ℕ → ℕ
exponent text = digits_value 10 (without_leading_sign (exponent_text text))

-- the exact value of a quantity: its mantissa times ten to the exponent, over ten for each digit behind the point
abbrev pub exact_value : List ℕ → Fraction
exact_value text =
    if starts_with_minus (exponent_text text)
    then record { over = mantissa text; under = ten_to (length (fraction_digits text) + exponent text) }
    else record { over = mantissa text * ten_to (exponent text); under = ten_to (length (fraction_digits text)) }

-- whether a number is at most 1000
abbrev pub is_at_most_1000 : Fraction → Bool
is_at_most_1000 value = nat_le value.over (1000 * value.under)

-- the exact value of a text that is a quantity in bounds: at most 32 bytes and 1000; the empty text is 0
abbrev pub quantity : List ℕ → Option Fraction
quantity [] = Some record { over = 0; under = 1 }
quantity text =
    if nat_le (length text) longest_number && is_quantity text && is_at_most_1000 (exact_value text)
    then Some (exact_value text) else None

-- the units of a quantity, each 10 ^ -9, rounded down, as for capacities
abbrev pub units_down : List ℕ → Option ℕ
units_down text = option_map (λ value. value.over * 10 ^ 9 / value.under) (quantity text)

-- the units of a quantity rounded up, as for requests
abbrev pub units_up : List ℕ → Option ℕ
units_up text = option_map (λ value. div_ceil (value.over * 10 ^ 9) value.under) (quantity text)
