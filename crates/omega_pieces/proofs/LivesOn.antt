-- The lives of pieces after one more row.
use Rattle.std.proofs.Common.{◌≡◌, ℕ, zero, suc, Bool, false, cond, List, [], ◌∷◌, ◌++◌, Option, Some, None, length, refl, sym, ap, subst, ◌∙◌, inl, inr, arith}
use Rattle.std.specs.Prelude.{◌==◌, ◌&&◌, slice_get}
use Rattle.std.specs.BTreeMap as tree
use Rattle.std.specs.BTreeMap.{BTreeMap}
use Rattle.std.proofs.lemmas.Bool.{cases_eq, eq-eqb, eqb-true, ne_eqb}
use Rattle.omega_free_laws.specs.Lives.{Pieces, cut_at, pieces_after, pieces_of, with_own_row}
use Rattle.omega_model.proofs.InOrder.{key_itself, key_same}
use Rattle.omega_model.proofs.Lists.{by_answer}
use Rattle.omega_model.specs.Fields.{TaskFields}
use Rattle.omega_model.specs.Keys.{same_key}
use Rattle.omega_model.specs.Wanted.{ends}
use Rattle.omega_model.specs.declared.cells.TaskKey.{TaskKey}
use Rattle.omega_model.specs.declared.rows.Row.{Row}
use Rattle.omega_model.specs.declared.rows.Row.TheVariants.{Task as TaskEvent}
use Rattle.omega_pieces.specs.HowFar.{AreLives, IsProgress, KeepsLives, progress_at, life_ended, life_since, lives_with, piece_cmp}
use Rattle.omega_pieces.specs.declared.progress.Progress.{Progress}
use Rattle.omega_pieces.proofs.FurtherOn.{pieces_other, pieces_own, pieces_push}
use Rattle.omega_pieces.proofs.PieceOrder.{at_piece}

-- the lives with one more, if there is one
abbrev lives_more : List ℕ → Option ℕ → List ℕ
lives_more lives None = lives
lives_more lives (Some life) = lives ++ life ∷ []

cut_lives : (pieces : Pieces) (time : ℕ) (since : Option ℕ) → (cut_at pieces time since).lives ≡ lives_more pieces.lives (life_since time since)
cut_lives pieces time None = refl
cut_lives pieces time (Some since) = refl

own_lives : (pieces : Pieces) (row : TaskFields) → (with_own_row pieces row).lives ≡ lives_more pieces.lives (life_ended pieces.since row)
own_lives pieces row =
    by_answer (row.code == 0)
    (λ t. let none : ends row.code ≡ false = ap ends (eqb-true row.code 0 t) in rw (t, none) refl)
    (λ f. by_answer (row.code == 1)
    (λ t. let none : ends row.code ≡ false = ap ends (eqb-true row.code 1 t) in rw (f, t, none) refl)
    (λ g. by_answer (ends row.code)
    (λ t. rw (f, g, t) (cut_lives pieces row.time pieces.since))
    (λ h. rw (f, g, h) refl)))

get_push : {X : Type 0} (xs : List X) (x : X) (n : ℕ) → slice_get (xs ++ x ∷ []) n ≡ cond (length xs == n) (Some x) (slice_get xs n)
get_push [] x zero = refl
get_push {X} [] x (suc n) = let apart : (length {A = X} [] == suc n) ≡ false = ne_eqb (length {A = X} []) (suc n) (λ d. omega (arith, d)) in rw apart refl
get_push (y ∷ xs) x zero = let apart : (length (y ∷ xs) == 0) ≡ false = ne_eqb (length (y ∷ xs)) 0 (λ d. omega (arith, d)) in rw apart refl
get_push (y ∷ xs) x (suc n) =
    get_push xs x n
    ∙ ap (λ (b : Bool). cond b (Some x) (slice_get xs n))
    (elim (cases_eq (length xs) n) [
      | inl e ↦ eq-eqb (length xs) n e ∙ sym (eq-eqb (length (y ∷ xs)) (suc n) (omega (arith, e)))
      | inr d ↦ ne_eqb (length xs) n d ∙ sym (ne_eqb (length (y ∷ xs)) (suc n) (λ e. d (omega (arith, e))))
    ])

module _ (rows : List Row) (row : TaskFields) (progress : Progress) (old new : BTreeMap (TaskKey × ℕ) ℕ) where
  beside : (key : TaskKey) (number : ℕ) → same_key row.key key ≡ false → (life : Option ℕ)
      → lives_with (tree.get piece_cmp old) (row.key, progress.cuts) life (key, number) ≡ tree.get piece_cmp old (key, number)
  beside key number differ None = refl
  beside key number differ (Some life) =
      let apart : (same_key row.key key && progress.cuts == number) ≡ false = rw differ refl in
      ap (λ (b : Bool). cond b (Some life) (tree.get piece_cmp old (key, number))) (at_piece row.key key progress.cuts number ∙ apart)

  own : (lives : List ℕ) (number : ℕ) (life : Option ℕ) → progress.cuts ≡ length lives → tree.get piece_cmp old (row.key, number) ≡ slice_get lives number
      → lives_with (tree.get piece_cmp old) (row.key, progress.cuts) life (row.key, number) ≡ slice_get (lives_more lives life) number
  own lives number None cuts is = is
  own lives number (Some life) cuts is =
      ap (λ (b : Bool). cond b (Some life) (tree.get piece_cmp old (row.key, number)))
      (at_piece row.key row.key progress.cuts number ∙ ap (λ (b : Bool). b && progress.cuts == number) (key_itself row.key) ∙ ap (λ (n : ℕ). n == number) cuts)
      ∙ ap (λ (found : Option ℕ). cond (length lives == number) (Some life) found) is
      ∙ sym (get_push lives life number)

  pub lives_row : IsProgress (pieces_of row.key rows) 0 progress
      → ((other : TaskKey × ℕ) → tree.get piece_cmp new other ≡ lives_with (tree.get piece_cmp old) (row.key, progress.cuts) (life_ended progress.since row) other)
      → AreLives rows old → AreLives (rows ++ TaskEvent row ∷ []) new
  lives_row is updates are key number =
      by_answer (same_key row.key key)
      (λ t. subst (λ (k : TaskKey). tree.get piece_cmp new (k, number) ≡ slice_get (pieces_of k (rows ++ TaskEvent row ∷ [])).lives number) (key_same row.key key t) here)
      (λ f. updates (key, number) ∙ beside key number f (life_ended progress.since row) ∙ are key number
      ∙ ap (λ (it : Pieces). slice_get it.lives number) (sym (pieces_other key rows row f))) where
        here : tree.get piece_cmp new (row.key, number) ≡ slice_get (pieces_of row.key (rows ++ TaskEvent row ∷ [])).lives number
        here =
            updates (row.key, number)
            ∙ own (pieces_of row.key rows).lives number (life_ended progress.since row) is.cuts (are row.key number)
            ∙ ap (λ (since : Option ℕ). slice_get (lives_more (pieces_of row.key rows).lives (life_ended since row)) number) is.since
            ∙ ap (λ (lives : List ℕ). slice_get lives number) (sym (own_lives (pieces_of row.key rows) row))
            ∙ ap (λ (it : Pieces). slice_get it.lives number) (sym (pieces_own row.key rows row (key_itself row.key)))

-- no row
pub keeps_none : (by_task : BTreeMap TaskKey Progress) (lives : BTreeMap (TaskKey × ℕ) ℕ) → tree.IsEmpty by_task → tree.IsEmpty lives → KeepsLives [] by_task lives
keeps_none by_task lives none no_lives = record {
  progress_are = λ key. rw none (record { since = refl; cuts = refl; ended = refl });
  lives_are = λ key number. rw no_lives refl;
}

-- a row of another table
pub keeps_other : (before : List Row) (row : Row) (by_task : BTreeMap TaskKey Progress) (lives : BTreeMap (TaskKey × ℕ) ℕ)
    → ((key : TaskKey) (pieces : Pieces) → pieces_after key pieces row ≡ pieces) → KeepsLives before by_task lives → KeepsLives (before ++ row ∷ []) by_task lives
keeps_other before row by_task lives stays keeps = record {
  progress_are = λ key. subst (λ (pieces : Pieces). IsProgress pieces 0 (progress_at by_task key)) (sym (same key)) (keeps.progress_are key);
  lives_are = λ key number. keeps.lives_are key number ∙ ap (λ (pieces : Pieces). slice_get pieces.lives number) (sym (same key));
} where
  same : (key : TaskKey) → pieces_of key (before ++ row ∷ []) ≡ pieces_of key before
  same key = pieces_push key before row ∙ stays key (pieces_of key before)
