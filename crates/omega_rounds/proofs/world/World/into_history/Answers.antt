use Rattle.std.proofs.Common.{subst}
use Rattle.omega_cell.specs.Cells.{CellState}
use Rattle.omega_model.specs.Applying.{EachMayApply}
use Rattle.omega_rounds.proofs.world.World.into_history.Goals as goal

pub returns-clause-applied : goal.returns-clause-applied
returns-clause-applied c =
    rw (← c.self.view_is) (subst (λ (cell : CellState). EachMayApply cell.history) c.into_parts-cell.ensures.cell c.into_history.ensures.applied)
