use Rattle.std.proofs.Common.{◌≡◌, ℕ, Some, ap, sym, subst, ◌∙◌}
use Rattle.std.specs.BTreeMap as tree
use Rattle.omega_feed.specs.Index.{key_cmp}
use Rattle.omega_free_laws.specs.Lives.{pieces_of}
use Rattle.omega_model.specs.Fields.{TaskFields}
use Rattle.omega_model.specs.declared.cells.TaskKey.{TaskKey}
use Rattle.omega_pieces.specs.HowFar.{IsProgress, progress_at}
use Rattle.omega_pieces.specs.Kept.{own_ended}
use Rattle.omega_pieces.specs.declared.progress.Progress.{Progress}
use Rattle.omega_pieces.proofs.FurtherOn.{progress_row}
use Rattle.omega_pieces.proofs.PiecesOn.{own_is}
use Rattle.omega_pieces.proofs.task_pieces.TaskPieces.take.Goals as goal

pub returns-clause-counts : goal.returns-clause-counts
returns-clause-counts c trace rows history keeps =
    let row = c.args.row.now in
    let old = c.args.self.now.by_task in
    let was = c.progress_at-progress.result in
    let is : progress_at old row.key ≡ was =
    sym (c.progress_at-progress.ensures ∙ ap (λ (it : TaskFields). progress_at old it.key) c.row.view_is) in
    let own : IsProgress (pieces_of row.key rows) (own_ended history row.key) was =
    subst (λ (progress : Progress). IsProgress (pieces_of row.key rows) (own_ended history row.key) progress) is (keeps.progress row.key) in
    c.counts_at.ensures.counts rows history
    (subst (λ (often : ℕ). IsProgress (pieces_of row.key rows) often was) (own_is history row.key c.counts_at.ensures.low) own)

pub returns-clause-kept : goal.returns-clause-kept
returns-clause-kept c trace rows history keeps =
    let row = c.args.row.now in
    let old = c.args.self.now.by_task in
    let was = c.progress_at-progress.result in
    let key : c.row.inside.key ≡ row.key = ap (λ (it : TaskFields). it.key) c.row.view_is in
    let is : progress_at old row.key ≡ was = sym (c.progress_at-progress.ensures ∙ ap (progress_at old) key) in
    record {
      lives = keeps.lives;
      progress = progress_row rows (own_ended history) old c.insert.new.self row c.in_ok-moved.moved
          (subst (λ (it : TaskKey). tree.Updates key_cmp old c.insert.new.self it (Some c.in_ok-moved.moved)) key c.in_ok-insert.ensures.updates)
          (λ pieces n it. c.in_ok-moved.ensures pieces n (subst (λ (progress : Progress). IsProgress pieces n progress) is it)) keeps.progress;
      held = c.in_ok-hold_early.ensures rows (own_ended history)
          (subst (λ (progress : Progress). IsProgress (pieces_of row.key rows) (own_ended history row.key) progress) is (keeps.progress row.key)) keeps.held;
    }
