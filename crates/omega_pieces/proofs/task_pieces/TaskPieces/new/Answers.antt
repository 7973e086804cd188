use Rattle.std.proofs.Common.{ℕ, List, [], ap, refl, subst, sym, ◌∙◌}
use Rattle.std.specs.Prelude.{slice_get}
use Rattle.omega_free_laws.specs.Lives.{pieces_of}
use Rattle.omega_model.specs.declared.rows.Row.{Row}
use Rattle.omega_pieces.specs.HowFar.{IsProgress, unstarted}
use Rattle.omega_pieces.proofs.PiecesOn.{own_none}
use Rattle.omega_pieces.proofs.task_pieces.TaskPieces.new.Goals as goal

pub returns : goal.returns
returns c trace all = record {
  lives = λ key number. c.in_ok-lives.ensures key number ∙ ap (λ (rows : List Row). slice_get (pieces_of key rows).lives number) all;
  progress = λ key. rw c.new.ensures.empty
      (subst (λ (often : ℕ). IsProgress (pieces_of key []) often unstarted) (sym (own_none key)) (record { since = refl; cuts = refl; ended = refl }));
  held = λ key number less. rw c.new-2.ensures.empty refl;
}
