-- How a quantity becomes a whole number of units.
use Rattle.std.specs.Prelude.{ℕ, ◌*◌, ◌/◌, ◌^◌, List, Option, Some, None, if◌then◌else◌}
use Rattle.std.specs.Int.{div_ceil}
use Rattle.omega_model.specs.Numbers.{Fraction, is_at_most_1000, units_up, units_down}
use Rattle.omega_units.specs.declared.Rounding.{Rounding}
use Rattle.omega_units.specs.declared.Rounding.TheVariants.{Up, Down}

-- the units of a text, rounded
abbrev pub units : Rounding → List ℕ → Option ℕ
units Up text = units_up text
units Down text = units_down text

-- a number over another, rounded
abbrev pub quotient : Rounding → ℕ → ℕ → ℕ
quotient Up over under = div_ceil over under
quotient Down over under = over / under

-- the units of an exact value, rounded; nothing above 1000
abbrev pub rounded : Rounding → Fraction → Option ℕ
rounded rounding value =
    if is_at_most_1000 value then Some (quotient rounding (value.over * 10 ^ 9) value.under) else None
