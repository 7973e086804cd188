use Rattle.std.proofs.Common.{◌++◌, ◌∷◌, [], refl, sym, subst}
use Rattle.omega_model.specs.declared.rows.Row.{Row}
use Rattle.omega_pieces.specs.HowFar.{KeepsLives}
use Rattle.omega_pieces.proofs.LivesOn.{keeps_other}
use Rattle.omega_pieces.proofs.lives.note_row.Goals as goal

pub returns-in-Machine : goal.returns-in-Machine
returns-in-Machine c before keeps = keeps_other before c.args.row.now c.args.by_task.now c.args.lives.now (λ key pieces. rw c.in-Machine.is refl) keeps

pub returns-in-Attr : goal.returns-in-Attr
returns-in-Attr c before keeps = keeps_other before c.args.row.now c.args.by_task.now c.args.lives.now (λ key pieces. rw c.in-Attr.is refl) keeps

pub returns-in_ok-note_task_row-in-Task : goal.returns-in_ok-note_task_row-in-Task
returns-in_ok-note_task_row-in-Task c before keeps =
    subst (λ (row : Row). KeepsLives (before ++ row ∷ []) c.note_task_row.new.by_task c.note_task_row.new.lives) (sym c.in-Task.is)
    (c.in_ok-note_task_row-in-Task.ensures before keeps)
