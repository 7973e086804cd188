use Rattle.std.proofs.Common.{◌≡◌, ◌+◌, ◌++◌, ◌∷◌, [], List, ap, append-nil, append_assoc, subst, sym, take, ◌∙◌}
use Rattle.std.proofs.lemmas.List.{take_all, take_more}
use Rattle.omega_model.specs.declared.rows.Row.{Row}
use Rattle.omega_pieces.specs.HowFar.{KeepsLives}
use Rattle.omega_pieces.proofs.lives.note_rows.Goals as goal

pub loop-row-init : goal.loop-row-init
loop-row-init c before keeps = subst (λ (rows : List Row). KeepsLives rows c.args.by_task.now c.args.lives.now) (sym (append-nil before)) keeps

pub loop-row-preserved : goal.loop-row-preserved
loop-row-preserved c before keeps =
    let rows = c.args.rows.now in
    let place = c.loop-row.row-index in
    let row = c.row-item.result in
    let next : (before ++ take place rows) ++ row ∷ [] ≡ before ++ take (place + 1) rows =
    append_assoc before (take place rows) (row ∷ [])
    ∙ ap (λ (it : Row). before ++ (take place rows ++ it ∷ [])) c.row-item.is
    ∙ ap (λ (it : List Row). before ++ it) (sym (take_more rows place row c.loop-row-test.true)) in
    subst (λ (it : List Row). KeepsLives it c.note_row.new.by_task c.note_row.new.lives) next
    (c.in_ok-note_row.ensures (before ++ take place rows) (c.loop-row.invariant before keeps))

pub returns : goal.returns
returns c before keeps =
    subst (λ (rows : List Row). KeepsLives (before ++ rows) c.loop-row.by_task c.loop-row.lives)
    (take_all c.loop-row.row-index c.args.rows.now c.loop-row-test.false) (c.loop-row.invariant before keeps)
