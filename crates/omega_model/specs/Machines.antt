-- What happens to a list of machines: one is changed, or a new one goes to its end.
use Rattle.std.specs.Prelude.{ℕ, Bool, true, false, List, [], ◌∷◌, ◌++◌, ◌==◌, not, map, bytes_eq, if◌then◌else◌}
use Rattle.std.specs.List.{filter, list_any}
use Rattle.omega_model.specs.Need.{nothing}
use Rattle.omega_model.specs.declared.cells.Need.{Need}
use Rattle.omega_model.specs.declared.cells.Attr.{Attr}
use Rattle.omega_model.specs.declared.cells.Machine.{Machine}

-- the numbers of some machines
abbrev pub numbers_of : List Machine → List ℕ
numbers_of machines = map (λ machine. machine.id) machines

-- the machine of this number changed, all others as they are
abbrev pub change : ℕ → (Machine → Machine) → List Machine → List Machine
change id changed machines = map (λ machine. if machine.id == id then changed machine else machine) machines

-- whether a machine of this number is in the list
abbrev pub is_listed : ℕ → List Machine → Bool
is_listed id machines = list_any (λ machine. machine.id == id) machines

-- a machine when it is first mentioned: down, without capacity and without attributes
abbrev pub new_machine : ℕ → Machine
new_machine id = record { id = id; up = false; cap = nothing; attrs = [] }

-- the list, with a new machine at its end where the number isn't in it
abbrev pub ensured : ℕ → List Machine → List Machine
ensured id machines = if is_listed id machines then machines else machines ++ new_machine id ∷ []

-- the attributes with this value for the name: in its place where the name is set, else at the end
abbrev pub with_attr : List ℕ → List ℕ → List Attr → List Attr
with_attr name value [] = record { name = name; value = value } ∷ []
with_attr name value (attr ∷ attrs) =
    if bytes_eq attr.name name then record attr { value = value } ∷ attrs else attr ∷ with_attr name value attrs

-- the attributes without those of this name
abbrev pub without_attr : List ℕ → List Attr → List Attr
without_attr name attrs = filter (λ attr. not (bytes_eq attr.name name)) attrs

-- the machine up, with this capacity
abbrev pub added : Need → Machine → Machine
added cap machine = record machine { up = true; cap = cap }

-- the machine with this capacity, up or down as it was
abbrev pub updated : Need → Machine → Machine
updated cap machine = record machine { cap = cap }

-- the machine down, with the capacity and the attributes that it had
abbrev pub removed : Machine → Machine
removed machine = record machine { up = false }

-- the machine with this value for the attribute
abbrev pub attr_set : List ℕ → List ℕ → Machine → Machine
attr_set name value machine = record machine { attrs = with_attr name value machine.attrs }

-- the machine without the attribute
abbrev pub attr_deleted : List ℕ → Machine → Machine
attr_deleted name machine = record machine { attrs = without_attr name machine.attrs }
