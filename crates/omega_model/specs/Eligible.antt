-- Placement constraints: when a machine may take a task.
use Rattle.std.specs.Prelude.{ℕ, Bool, false, not, ◌==◌, nat_lt, List, length, Option, Some, None, option_map, option_and_then, bytes_eq, find}
use Rattle.std.specs.List.{list_all}
use Rattle.omega_model.specs.Numbers.{whole}
use Rattle.omega_model.specs.declared.cells.Attr.{Attr}
use Rattle.omega_model.specs.declared.wishes.Op.{Op}
use Rattle.omega_model.specs.declared.wishes.Op.TheVariants.{Equal, NotEqual, Less, Greater}
use Rattle.omega_model.specs.declared.wishes.Constraint.{Constraint}

-- the value of the first attribute of this name; nothing where the name is unset
abbrev pub attribute : List Attr → List ℕ → Option (List ℕ)
attribute attrs name = option_map (λ attr. attr.value) (find (λ attr. bytes_eq attr.name name) attrs)

-- whether an attribute is equal to the value of a constraint: an unset one is equal to the empty value alone
abbrev pub is_equal : Option (List ℕ) → List ℕ → Bool
is_equal None value = length value == 0
is_equal (Some bytes) value = bytes_eq bytes value

-- whether there are two numbers and the first is less
abbrev pub is_less : Option ℕ → Option ℕ → Bool
is_less (Some a) (Some b) = nat_lt a b
is_less _ _ = false

-- what an operator says of an attribute and the value of a constraint; the order is that of whole numbers
abbrev pub meets : Op → Option (List ℕ) → List ℕ → Bool
meets Equal attribute value = is_equal attribute value
meets NotEqual attribute value = not (is_equal attribute value)
meets Less attribute value = is_less (option_and_then whole attribute) (whole value)
meets Greater attribute value = is_less (whole value) (option_and_then whole attribute)

-- whether a constraint holds of the attributes of a machine
abbrev pub holds : Constraint → List Attr → Bool
holds constraint attrs = meets constraint.op (attribute attrs constraint.name) constraint.value

-- whether each constraint holds
abbrev pub eligible : List Constraint → List Attr → Bool
eligible constraints attrs = list_all (λ constraint. holds constraint attrs) constraints
