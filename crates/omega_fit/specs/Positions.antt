-- An index as a caller sees it.
use Rattle.std.specs.Prelude.{ℕ, List, Option}
use Rattle.omega_model.specs.declared.cells.Need.{Need}

-- what is free at each position, and for how many more positions there is room
pub record Positions : Type 0 where
  pub free : List (Option Need)
  pub spare : ℕ
