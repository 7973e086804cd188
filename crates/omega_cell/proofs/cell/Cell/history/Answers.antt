use Rattle.std.proofs.Common.{ℕ, subst, take}
use Rattle.omega_model.proofs.Soundness.{states_sound}
use Rattle.omega_model.specs.Applying.{EachMayApply}
use Rattle.omega_model.specs.Legal.{Sound}
use Rattle.omega_model.specs.State.{state}
use Rattle.omega_cell.specs.Cells.{CellState}
use Rattle.omega_cell.proofs.cell.Cell.history.Goals as goal

pub returns-clause-applied : goal.returns-clause-applied
returns-clause-applied c = subst (λ (cell : CellState). EachMayApply cell.history) c.self.view_is c.self.invariant.0.applied

pub returns-clause-sound : goal.returns-clause-sound
returns-clause-sound c = subst (λ (cell : CellState). (n : ℕ) → Sound (state (take n cell.history))) c.self.view_is (states_sound c.self.inside.entries.items c.self.invariant.0.legal)
