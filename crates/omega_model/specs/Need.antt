-- Amounts of CPU, memory and disk, taken component by component.
use Rattle.std.specs.Prelude.{Bool, ◌+◌, ◌-◌, ◌≤◌, ◌&&◌, nat_le}
use Rattle.omega_model.specs.declared.cells.Need.{Need}

-- no amount at all
abbrev pub nothing : Need
nothing = record { cpu = 0; mem = 0; disk = 0 }

-- the sum of two amounts
abbrev pub plus : Need → Need → Need
plus a b = record { cpu = a.cpu + b.cpu; mem = a.mem + b.mem; disk = a.disk + b.disk }

-- what is left of an amount when another is taken off it; a component stops at 0
abbrev pub minus : Need → Need → Need
minus a b = record { cpu = a.cpu - b.cpu; mem = a.mem - b.mem; disk = a.disk - b.disk }

-- each component is at most that of the other amount
abbrev pub Fits : Need → Need → Type 0
Fits a b = (a.cpu ≤ b.cpu) × ((a.mem ≤ b.mem) × (a.disk ≤ b.disk))

-- whether each component is at most that of the other amount
abbrev pub fits : Need → Need → Bool
fits a b = nat_le a.cpu b.cpu && (nat_le a.mem b.mem && nat_le a.disk b.disk)
