use Rattle.std.specs.Prelude.{IfOk}
use Rattle.std.proofs.Common.{◌≡◌, ◌++◌, ◌∷◌, [], sym, subst}
use Rattle.omega_free_laws.specs.Lives.{counts}
use Rattle.omega_model.specs.declared.rows.Row.{Row}
use Rattle.omega_pieces.proofs.PiecesOn.{keeps_attr_row, keeps_machine_row}
use Rattle.omega_pieces.specs.Kept.{KeepsPieces}
use Rattle.omega_free.proofs.own_ends.take_row.Goals as goal

pub returns-in-Machine-clause-kept : goal.returns-in-Machine-clause-kept
returns-in-Machine-clause-kept c trace before history keeps =
    subst (λ (row : Row). KeepsPieces trace (before ++ row ∷ []) history c.args.pieces.now) (sym c.in-Machine.is)
    (keeps_machine_row trace before history c.args.pieces.now c.in-Machine.field-0 keeps)

pub returns-in-Attr-clause-kept : goal.returns-in-Attr-clause-kept
returns-in-Attr-clause-kept c trace before history keeps =
    subst (λ (row : Row). KeepsPieces trace (before ++ row ∷ []) history c.args.pieces.now) (sym c.in-Attr.is)
    (keeps_attr_row trace before history c.args.pieces.now c.in-Attr.field-0 keeps)

pub returns-in-Task-clause-counts : goal.returns-in-Task-clause-counts
returns-in-Task-clause-counts c trace before history keeps =
    subst (λ (row : Row). IfOk c.take.result (λ counted. counted ≡ counts history before row)) (sym c.in-Task.is)
    (c.take.ensures.counts trace before history keeps)
