-- Amounts that hold a need.
use Rattle.std.specs.Prelude.{◌≡◌, ℕ, Bool, true, false, List, Option, Some, None, get_or, length, max}
use Rattle.omega_model.specs.Need.{Fits}
use Rattle.omega_model.specs.declared.cells.Need.{Need}
use Rattle.omega_fit.specs.Wrapped.{positions_from, FirstBetween, IsFirst}

-- there is an amount, and the need fits it
abbrev pub Holds : Need → Option Need → Type 0
Holds need None = ⊥
Holds need (Some free) = Fits need free

-- what may be answered at a position where room counts too: true where there is room and the test may
-- be true, false where there is no room or the test may be false
abbrev pub WithRoom : List (Option Need) → Need → (ℕ → Bool → Type 0) → ℕ → Bool → Type 0
WithRoom free need answers position true = Holds need (get_or free position None) × answers position true
WithRoom free need answers position false = Holds need (get_or free position None) → answers position false

-- the first position round from a start with room, for which the answer is true
unfoldable pub IsFirstWithRoom : List (Option Need) → Need → (ℕ → Bool → Type 0) → ℕ → Option ℕ → Type 0
IsFirstWithRoom free need answers start found =
    IsFirst (WithRoom free need answers) (positions_from start (length free)) found

-- the first of the positions from one up to another with room
unfoldable pub IsNextWithRoom : List (Option Need) → Need → ℕ → ℕ → Option ℕ → Type 0
IsNextWithRoom free need from to found = FirstBetween (WithRoom free need (λ position answer. answer ≡ true)) from to found

-- the greater of two amounts, component by component; `None` counts as less than any amount
abbrev pub greater : Option Need → Option Need → Option Need
greater None other = other
greater (Some one) None = Some one
greater (Some one) (Some other) =
    Some (record { cpu = max one.cpu other.cpu; mem = max one.mem other.mem; disk = max one.disk other.disk })
