use Rattle.std.proofs.Common.{List, sym, subst}
use Rattle.omega_model.specs.declared.entries.Entry.{Entry}
use Rattle.omega_cell.specs.Cells.{IsCell}
use Rattle.omega_cell.specs.Effects.{AreNotes}
use Rattle.omega_cell.proofs.Cells.{cell_same}
use Rattle.omega_cell.proofs.cell.Cell.reserve.Goals as goal

pub invariant_of-self-2 : goal.invariant_of-self-2
invariant_of-self-2 c =
    subst (λ (history : List Entry). IsCell c.reserve-2.new.self history × AreNotes history c.self.inside.notes) (sym c.reserve.ensures.items) (
      cell_same c.self.inside.board c.reserve-2.new.self c.self.inside.entries.items c.self.invariant.0 c.reserve-2.ensures.table c.reserve-2.ensures.tasks,
      c.self.invariant.1,
    )
