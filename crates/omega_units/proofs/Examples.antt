-- Texts and their values, by computing the definitions.
use Rattle.std.proofs.Common.{◌≡◌, ◌-◌, ◌^◌, codes, Some, None, refl, ◌∙◌, arith}
use Rattle.omega_model.specs.Numbers.{whole, units_up, units_down, ten_to}
use Rattle.omega_units.specs.declared.Rounding.TheVariants.{Up, Down}
use Rattle.omega_units.proofs.Tens.{far_below, far_above, zero_value}
use Rattle.omega_units.proofs.Parts.{units_of_parts}

leading_zeros : whole (codes "017") ≡ Some 17
leading_zeros = refl

no_digit : whole (codes "") ≡ None
no_digit = refl

signed : whole (codes "+17") ≡ None
signed = refl

greatest_whole : whole (codes "18446744073709551615") ≡ Some (2 ^ 64 - 1)
greatest_whole = refl

one_more : whole (codes "18446744073709551616") ≡ None
one_more = refl

thirty_two_bytes : whole (codes "00000000000000000000000000000000") ≡ Some 0
thirty_two_bytes = refl

thirty_three_bytes : whole (codes "000000000000000000000000000000000") ≡ None
thirty_three_bytes = refl

small_request : units_up (codes "3.815e-06") ≡ Some 3815
unfolding ten_to
small_request = refl

below_a_unit_up : units_up (codes "0.0000000001") ≡ Some 1
unfolding ten_to
below_a_unit_up = refl

below_a_unit_down : units_down (codes "0.0000000001") ≡ Some 0
unfolding ten_to
below_a_unit_down = refl

blank : units_up (codes "") ≡ Some 0
blank = refl

no_digit_before : units_down (codes ".5") ≡ Some 500000000
unfolding ten_to
no_digit_before = refl

no_digit_behind : units_down (codes "5.e-1") ≡ Some 500000000
unfolding ten_to
no_digit_behind = refl

greatest : units_up (codes "1000") ≡ Some 1000000000000
unfolding ten_to
greatest = refl

just_above : units_down (codes "1000.0000000001") ≡ None
unfolding ten_to
just_above = refl

minus : units_up (codes "-1") ≡ None
minus = refl

no_exponent : units_up (codes "1e") ≡ None
no_exponent = refl

point_alone : units_up (codes ".") ≡ None
point_alone = refl

high_above : units_down (codes "1e99") ≡ None
unfolding ten_to
high_above = refl

no_matter_how_high : units_up (codes "0e99") ≡ Some 0
unfolding ten_to
no_matter_how_high = refl

far_below_up : units_up (codes "1e-99") ≡ Some 1
unfolding ten_to
far_below_up = refl

far_below_down : units_down (codes "1e-99") ≡ Some 0
unfolding ten_to
far_below_down = refl

-- exponents that are too great to compute the power
huge_below_up : units_up (codes "1e-99999999999999999999999") ≡ Some 1
huge_below_up =
    units_of_parts Up (codes "1e-99999999999999999999999") (omega arith) (omega arith) ∙ far_below Up 1 99999999999999999999999 (omega arith) (omega arith)

huge_below_down : units_down (codes "1e-99999999999999999999999") ≡ Some 0
huge_below_down =
    units_of_parts Down (codes "1e-99999999999999999999999") (omega arith) (omega arith) ∙ far_below Down 1 99999999999999999999999 (omega arith) (omega arith)

huge_above : units_up (codes "1e99999999999999999999999") ≡ None
huge_above =
    units_of_parts Up (codes "1e99999999999999999999999") (omega arith) (omega arith) ∙ far_above Up 1 99999999999999999999999 0 (omega arith) (omega arith)

huge_zero : units_up (codes "0e99999999999999999999999") ≡ Some 0
huge_zero = units_of_parts Up (codes "0e99999999999999999999999") (omega arith) (omega arith) ∙ zero_value Up 99999999999999999999999 0
