use Rattle.std.proofs.Common.{◌≡◌, ◌++◌, ◌∷◌, [], ℕ, List, cond, Some, ap, subst, ◌∙◌}
use Rattle.std.specs.Prelude.{unwrap_or}
use Rattle.std.specs.BTreeMap as tree
use Rattle.omega_model.specs.Fields.{TaskFields}
use Rattle.omega_model.specs.declared.cells.TaskKey.{TaskKey}
use Rattle.omega_pieces.specs.HowFar.{piece_cmp}
use Rattle.omega_pieces.specs.Held.{held_rows}
use Rattle.omega_pieces.proofs.PieceRows.{set_anew}
use Rattle.omega_pieces.proofs.held.hold.Goals as goal

pub returns : goal.returns
returns c =
    let key = c.row.inside.key in
    let number = c.args.number in
    let held = c.args.held.now in
    let row : TaskFields = record { time = c.row.inside.time; key = key; code = c.row.inside.code; class = c.row.inside.class; spec = c.row.inside.spec } in
    let list : c.push.new.self ≡ held_rows held key number ++ row ∷ [] =
    c.in_ok-push.ensures.ok
    ∙ ap (λ (front : List TaskFields). front ++ row ∷ []) (c.unwrap_or-rows.ensures ∙ ap (λ z. unwrap_or c.remove.result z) c.new.ensures ∙ ap (λ z. unwrap_or z []) c.remove.ensures.value) in
    subst (λ (row : TaskFields). (other : TaskKey × ℕ) → tree.get piece_cmp c.insert.new.self other
    ≡ cond (tree.is_at (piece_cmp (row.key, number)) other) (Some (held_rows held row.key number ++ row ∷ [])) (tree.get piece_cmp held other)) c.row.view_is
    (λ other. set_anew held c.remove.new.self c.insert.new.self (key, number) c.push.new.self c.remove.ensures.updates c.in_ok-insert.ensures.updates other
    ∙ ap (λ (rows : List TaskFields). cond (tree.is_at (piece_cmp (key, number)) other) (Some rows) (tree.get piece_cmp held other)) list)
