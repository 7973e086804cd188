-- A gate that holds schedulers.
use Rattle.std.specs.Prelude.{ℕ, List}
use Rattle.omega_io.specs.declared.edges.Point.{Point}
use Rattle.omega_io.specs.declared.held_gate.Hold.{Hold}

-- a gate's order: each scheduler that is held, at which point, and until which scheduler has come to which
-- point; and how often a caller looks at most in one hold
pub record GateState : Type 0 where
  pub order : List (ℕ × Point × ℕ × Point)
  pub looks : ℕ

-- a hold as a part of the order
abbrev pub hold_of : Hold → ℕ × Point × ℕ × Point
hold_of hold = (hold.scheduler, hold.point, hold.until_scheduler, hold.until_point)
