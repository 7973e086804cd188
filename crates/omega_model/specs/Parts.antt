-- A delta: the machines that changed between two places of a history.
use Rattle.std.specs.Prelude.{ℕ, List, ◌≤◌, map}
use Rattle.std.specs.List.Sorted.{IsStrictlyIncreasing}
use Rattle.omega_model.specs.declared.delta.Part.{Part}

-- the places from which and to which a delta leads, and the machines that it brings
pub record DeltaState : Type 0 where
  pub from : ℕ
  pub to : ℕ
  pub parts : List Part

-- parts stand in order of position
abbrev pub PositionsRise : List Part → Type 0
PositionsRise parts = IsStrictlyIncreasing (map (λ part. part.position) parts)

-- what every delta keeps: it doesn't lead back, and its parts stand in order
pub record IsDelta (begin end : ℕ) (changed : List Part) : Type 0 where
  pub order : begin ≤ end
  pub positions : PositionsRise changed
