-- Runs of digits.
use Rattle.std.specs.Prelude.{ℕ, List, Option, Some, None, if◌then◌else◌}
use Rattle.std.specs.Str.{all_ascii_digits}
use Rattle.std.specs.Str.Parse.{digits_value, digits_value_after}
use Rattle.omega_model.specs.Numbers.{is_digits}

-- the number that a text writes behind the digits of another number; nothing where a byte is no digit
abbrev pub number_after : ℕ → List ℕ → Option ℕ
number_after start text = if all_ascii_digits text then Some (digits_value_after 10 start text) else None

-- the number of a text of digits alone, at least one
abbrev pub number : List ℕ → Option ℕ
number text = if is_digits text then Some (digits_value 10 text) else None
