-- The answers of each operator, by computing the definitions.
use Rattle.std.proofs.Common.{◌≡◌, ℕ, true, false, List, [], ◌∷◌, codes, refl}
use Rattle.omega_model.specs.Eligible.{holds, eligible}
use Rattle.omega_model.specs.declared.cells.Attr.{Attr}
use Rattle.omega_model.specs.declared.wishes.Op.{Op}
use Rattle.omega_model.specs.declared.wishes.Op.TheVariants.{Equal, NotEqual, Less, Greater}
use Rattle.omega_model.specs.declared.wishes.Constraint.{Constraint}

abbrev attr : List ℕ → List ℕ → Attr
attr name value = record { name = name; value = value }

-- `a` is 17, `b` is x, `c` is set and empty, and no other name is set
abbrev machine : List Attr
machine = attr (codes "a") (codes "17") ∷ attr (codes "b") (codes "x") ∷ attr (codes "c") [] ∷ []

abbrev asks : Op → List ℕ → List ℕ → Constraint
asks op name value = record { op = op; name = name; value = value }

equal_bytes : holds (asks Equal (codes "a") (codes "17")) machine ≡ true
equal_bytes = refl

equal_number_of_other_bytes : holds (asks Equal (codes "a") (codes "017")) machine ≡ false
equal_number_of_other_bytes = refl

empty_equals_empty : holds (asks Equal (codes "c") []) machine ≡ true
empty_equals_empty = refl

unset_equals_empty : holds (asks Equal (codes "d") []) machine ≡ true
unset_equals_empty = refl

unset_is_no_value : holds (asks Equal (codes "d") (codes "17")) machine ≡ false
unset_is_no_value = refl

same_bytes_differ_not : holds (asks NotEqual (codes "a") (codes "17")) machine ≡ false
same_bytes_differ_not = refl

other_bytes_differ : holds (asks NotEqual (codes "b") (codes "17")) machine ≡ true
other_bytes_differ = refl

unset_differs_from_a_value : holds (asks NotEqual (codes "d") (codes "17")) machine ≡ true
unset_differs_from_a_value = refl

set_differs_from_empty : holds (asks NotEqual (codes "a") []) machine ≡ true
set_differs_from_empty = refl

empty_differs_not_from_empty : holds (asks NotEqual (codes "c") []) machine ≡ false
empty_differs_not_from_empty = refl

unset_differs_not_from_empty : holds (asks NotEqual (codes "d") []) machine ≡ false
unset_differs_not_from_empty = refl

less : holds (asks Less (codes "a") (codes "18")) machine ≡ true
less = refl

not_less_than_itself : holds (asks Less (codes "a") (codes "17")) machine ≡ false
not_less_than_itself = refl

text_is_not_less : holds (asks Less (codes "b") (codes "18")) machine ≡ false
text_is_not_less = refl

unset_is_not_less : holds (asks Less (codes "d") (codes "18")) machine ≡ false
unset_is_not_less = refl

greater_with_leading_zero : holds (asks Greater (codes "a") (codes "016")) machine ≡ true
greater_with_leading_zero = refl

not_greater_than_text : holds (asks Greater (codes "a") (codes "x")) machine ≡ false
not_greater_than_text = refl

empty_is_not_greater : holds (asks Greater (codes "c") (codes "0")) machine ≡ false
empty_is_not_greater = refl

no_constraint : eligible [] machine ≡ true
no_constraint = refl

one_fails : eligible (asks Equal (codes "b") (codes "x") ∷ asks Less (codes "a") (codes "17") ∷ []) machine ≡ false
one_fails = refl

-- of two attributes of one name the first counts
first_counts : holds (asks Equal (codes "a") (codes "1")) (attr (codes "a") (codes "1") ∷ attr (codes "a") (codes "2") ∷ []) ≡ true
first_counts = refl
