use Rattle.std.proofs.Common.{◌≡◌, ◌+◌, ◌++◌, ◌∷◌, [], ℕ, map, ap, ◌∙◌, arith}
use Rattle.std.specs.Prelude.{unwrap_or}
use Rattle.omega_model.specs.Fields.{TaskFields}
use Rattle.omega_model.specs.declared.entries.Entry.TheVariants.{End}
use Rattle.omega_model.specs.declared.rows.Row.TheVariants.{Task as TaskEvent}
use Rattle.omega_pieces.specs.Held.{held_rows}
use Rattle.omega_pieces.specs.Kept.{own_ended}
use Rattle.omega_pieces.specs.PieceRows.{piece_rows}
use Rattle.omega_pieces.specs.declared.progress.Progress.{Progress}
use Rattle.omega_pieces.proofs.AfterEnds.{wanted_ended}
use Rattle.omega_pieces.proofs.FurtherOn.{progress_end}
use Rattle.omega_pieces.proofs.PieceRows.{held_less}
use Rattle.omega_pieces.proofs.PiecesOn.{own_is, own_once}
use Rattle.omega_pieces.proofs.task_pieces.TaskPieces.end.Goals as goal

pub returns-clause-held : goal.returns-clause-held
returns-clause-held c trace rows history keeps low =
    let key = c.args.key in
    let next : c.in_ok-ended.ended ≡ own_ended history key + 1 =
    c.in_ok-ended.ensures ∙ ap (λ (it : Progress). it.ended + 1) c.progress_at-progress.ensures ∙ ap (λ (n : ℕ). n + 1) (keeps.progress key).ended in
    let found : c.unwrap_or.result ≡ held_rows c.args.self.now.held key c.in_ok-ended.ended =
    c.unwrap_or.ensures ∙ ap (λ z. unwrap_or c.remove.result z) c.new.ensures ∙ ap (λ z. unwrap_or z []) c.remove.ensures.value in
    let held : map (λ (row : TaskFields). TaskEvent row) c.unwrap_or.result ≡ piece_rows key (own_ended history key + 1) rows =
    ap (map (λ (row : TaskFields). TaskEvent row)) (found ∙ ap (held_rows c.args.self.now.held key) next)
    ∙ keeps.held key (own_ended history key + 1) (omega arith) in
    held ∙ ap (λ (n : ℕ). piece_rows key (n + 1) rows) (own_is history key low)

pub returns-clause-wanted : goal.returns-clause-wanted
returns-clause-wanted c trace rows history keeps low machine end named code =
    wanted_ended history c.args.key machine rows (map (λ (row : TaskFields). TaskEvent row) c.unwrap_or.result) end named code
    (returns-clause-held c trace rows history keeps low)

pub returns-clause-kept : goal.returns-clause-kept
returns-clause-kept c trace rows history keeps low machine =
    let key = c.args.key in
    let old = c.args.self.now in
    let at = c.progress_at-progress.ensures in
    let next : c.in_ok-ended.ended ≡ own_ended history key + 1 =
    c.in_ok-ended.ensures ∙ ap (λ (it : Progress). it.ended + 1) at ∙ ap (λ (n : ℕ). n + 1) (keeps.progress key).ended in
    record {
      lives = keeps.lives;
      progress = progress_end rows (own_ended history) (own_ended (history ++ End key machine ∷ [])) old.by_task c.insert.new.self key
          (record { since = c.progress_at-progress.result.since; cuts = c.progress_at-progress.result.cuts; ended = c.in_ok-ended.ended })
          (own_once history key machine low) c.in_ok-insert.ensures.updates
          (ap (λ (it : Progress). it.since) at) (ap (λ (it : Progress). it.cuts) at) (c.in_ok-ended.ensures ∙ ap (λ (it : Progress). it.ended + 1) at) keeps.progress;
      held = held_less rows (own_ended history) (own_ended (history ++ End key machine ∷ [])) old.held c.remove.new.self key c.in_ok-ended.ended next
          (own_once history key machine low) c.remove.ensures.updates keeps.held;
    }
