use Rattle.std.proofs.Common.{List, sym, subst, ◌∙◌}
use Rattle.omega_model.specs.declared.entries.Entry.{Entry}
use Rattle.omega_cell.specs.Cells.{IsCell}
use Rattle.omega_cell.specs.Effects.{AreNotes}
use Rattle.omega_cell.proofs.Cells.{cell_alike}
use Rattle.omega_cell.proofs.Noted.{notes_same}
use Rattle.omega_cell.proofs.cell.Cell.copy.Goals as goal

pub invariant_of-result : goal.invariant_of-result
invariant_of-result c =
    subst (λ (history : List Entry). IsCell c.in_ok-copy.field-0 history × AreNotes history c.in_ok-copy-2.field-0) (sym (c.in_ok-copy_all.ensures ∙ c.as_slice.ensures.value)) (
      cell_alike c.self.inside.board c.in_ok-copy.field-0 c.self.inside.entries.items c.self.invariant.0 c.in_ok-copy.ensures.cell c.in_ok-copy.ensures.seqs,
      notes_same c.self.inside.entries.items c.self.inside.notes c.in_ok-copy-2.field-0 c.self.invariant.1 c.in_ok-copy-2.ensures.usages c.in_ok-copy-2.ensures.displaced,
    )
