use Rattle.std.proofs.Common.{◌≡◌, ℕ, Option, Some, ap, sym, subst, ◌∙◌}
use Rattle.std.specs.BTreeMap as tree
use Rattle.omega_feed.specs.Index.{key_cmp}
use Rattle.omega_free_laws.specs.Lives.{pieces_of}
use Rattle.omega_model.specs.Fields.{TaskFields}
use Rattle.omega_model.specs.declared.cells.TaskKey.{TaskKey}
use Rattle.omega_pieces.specs.HowFar.{IsProgress, lives_with, piece_cmp, progress_at}
use Rattle.omega_pieces.specs.declared.progress.Progress.{Progress}
use Rattle.omega_pieces.proofs.FurtherOn.{progress_row}
use Rattle.omega_pieces.proofs.LivesOn.{lives_row}
use Rattle.omega_pieces.proofs.lives.note_task_row.Goals as goal

pub returns : goal.returns
returns c before keeps =
    let row = c.args.row.now in
    let old = c.args.by_task.now in
    let was = c.progress_at-progress.result in
    let key : c.row.inside.key ≡ row.key = ap (λ (it : TaskFields). it.key) c.row.view_is in
    let is : progress_at old row.key ≡ was = sym (c.progress_at-progress.ensures ∙ ap (progress_at old) key) in
    record {
      progress_are = progress_row before (λ key. 0) old c.insert.new.self row c.in_ok-moved.moved
          (subst (λ (it : TaskKey). tree.Updates key_cmp old c.insert.new.self it (Some c.in_ok-moved.moved)) key c.in_ok-insert.ensures.updates)
          (λ pieces n it. c.in_ok-moved.ensures pieces n (subst (λ (progress : Progress). IsProgress pieces n progress) is it)) keeps.progress_are;
      lives_are = lives_row before row was c.args.lives.now c.note_life.new.lives
          (subst (λ (progress : Progress). IsProgress (pieces_of row.key before) 0 progress) is (keeps.progress_are row.key))
          (λ other. c.in_ok-note_life.ensures other
          ∙ ap (λ (it : TaskKey). lives_with (tree.get piece_cmp c.args.lives.now) (it, was.cuts) c.life_ended-life.result other) key
          ∙ ap (λ (life : Option ℕ). lives_with (tree.get piece_cmp c.args.lives.now) (row.key, was.cuts) life other) c.life_ended-life.ensures) keeps.lives_are;
    }
