-- How far tasks are after one more row, and after one more end.
use Rattle.std.proofs.Common.{◌≡◌, ◌+◌, ℕ, true, false, cond, List, [], ◌∷◌, ◌++◌, Some, None, length, refl, sym, ap, ◌∙◌, add-zero}
use Rattle.std.specs.BTreeMap as tree
use Rattle.std.specs.BTreeMap.{BTreeMap}
use Rattle.std.proofs.lemmas.List.Sums.{fold-append}
use Rattle.omega_feed.specs.Index.{key_cmp}
use Rattle.omega_free_laws.specs.Lives.{Pieces, pieces_after, pieces_of, with_own_row}
use Rattle.omega_model.proofs.InOrder.{key_same}
use Rattle.omega_model.proofs.Lists.{by_answer}
use Rattle.omega_model.specs.Fields.{TaskFields}
use Rattle.omega_model.specs.Keys.{same_key}
use Rattle.omega_model.specs.declared.cells.TaskKey.{TaskKey}
use Rattle.omega_model.specs.declared.rows.Row.{Row}
use Rattle.omega_model.specs.declared.rows.Row.TheVariants.{Task as TaskEvent}
use Rattle.omega_pieces.specs.HowFar.{IsProgress, progress_at}
use Rattle.omega_pieces.specs.declared.progress.Progress.{Progress}
use Rattle.omega_pieces.proofs.PieceOrder.{progress_set}

pub pieces_push : (key : TaskKey) (rows : List Row) (row : Row) → pieces_of key (rows ++ row ∷ []) ≡ pieces_after key (pieces_of key rows) row
pieces_push key rows row = fold-append (pieces_after key) (record { since = None; lives = [] }) rows (row ∷ [])

pub pieces_own : (key : TaskKey) (rows : List Row) (row : TaskFields) → same_key row.key key ≡ true
    → pieces_of key (rows ++ TaskEvent row ∷ []) ≡ with_own_row (pieces_of key rows) row
pieces_own key rows row own = pieces_push key rows (TaskEvent row) ∙ rw own refl

pub pieces_other : (key : TaskKey) (rows : List Row) (row : TaskFields) → same_key row.key key ≡ false → pieces_of key (rows ++ TaskEvent row ∷ []) ≡ pieces_of key rows
pieces_other key rows row other = pieces_push key rows (TaskEvent row) ∙ rw other refl

-- a progress with other words for the same
pub progress_as : (pieces same : Pieces) (often as_often : ℕ) (progress alike : Progress) → same ≡ pieces → as_often ≡ often → alike ≡ progress
    → IsProgress pieces often progress → IsProgress same as_often alike
progress_as pieces same often as_often progress alike pieces_are often_is progress_is is = record {
  since = ap (λ (it : Progress). it.since) progress_is ∙ is.since ∙ ap (λ (it : Pieces). it.since) (sym pieces_are);
  cuts = ap (λ (it : Progress). it.cuts) progress_is ∙ is.cuts ∙ ap (λ (it : Pieces). length it.lives) (sym pieces_are);
  ended = ap (λ (it : Progress). it.ended) progress_is ∙ is.ended ∙ sym often_is;
}

pub progress_row : (rows : List Row) (often : TaskKey → ℕ) (old new : BTreeMap TaskKey Progress) (row : TaskFields) (moved : Progress)
    → tree.Updates key_cmp old new row.key (Some moved)
    → ((pieces : Pieces) (n : ℕ) → IsProgress pieces n (progress_at old row.key) → IsProgress (with_own_row pieces row) n moved)
    → ((key : TaskKey) → IsProgress (pieces_of key rows) (often key) (progress_at old key))
    → (key : TaskKey) → IsProgress (pieces_of key (rows ++ TaskEvent row ∷ [])) (often key) (progress_at new key)
progress_row rows often old new row moved updates moves are key =
    by_answer (same_key row.key key)
    (λ t.
    let there : progress_at old row.key ≡ progress_at old key = ap (progress_at old) (key_same row.key key t) in
    let before : IsProgress (pieces_of key rows) (often key) (progress_at old row.key) =
    progress_as (pieces_of key rows) (pieces_of key rows) (often key) (often key) (progress_at old key) (progress_at old row.key) refl refl there (are key) in
    progress_as (with_own_row (pieces_of key rows) row) (pieces_of key (rows ++ TaskEvent row ∷ [])) (often key) (often key) moved (progress_at new key)
    (pieces_own key rows row t) refl (progress_set old new row.key moved updates key ∙ rw t refl) (moves (pieces_of key rows) (often key) before))
    (λ f. progress_as (pieces_of key rows) (pieces_of key (rows ++ TaskEvent row ∷ [])) (often key) (often key) (progress_at old key) (progress_at new key)
    (pieces_other key rows row f) refl (progress_set old new row.key moved updates key ∙ rw f refl) (are key))

pub progress_end : (rows : List Row) (often later : TaskKey → ℕ) (old new : BTreeMap TaskKey Progress) (key : TaskKey) (moved : Progress)
    → ((other : TaskKey) → later other ≡ often other + cond (same_key key other) 1 0)
    → tree.Updates key_cmp old new key (Some moved)
    → moved.since ≡ (progress_at old key).since → moved.cuts ≡ (progress_at old key).cuts → moved.ended ≡ (progress_at old key).ended + 1
    → ((other : TaskKey) → IsProgress (pieces_of other rows) (often other) (progress_at old other))
    → (other : TaskKey) → IsProgress (pieces_of other rows) (later other) (progress_at new other)
progress_end rows often later old new key moved once updates since cuts ended are other =
    by_answer (same_key key other)
    (λ t.
    let there : progress_at old key ≡ progress_at old other = ap (progress_at old) (key_same key other t) in
    let here : progress_at new other ≡ moved = progress_set old new key moved updates other ∙ rw t refl in
    let grown : later other ≡ often other + 1 = once other ∙ rw t refl in
    record {
      since = ap (λ (it : Progress). it.since) here ∙ since ∙ ap (λ (it : Progress). it.since) there ∙ (are other).since;
      cuts = ap (λ (it : Progress). it.cuts) here ∙ cuts ∙ ap (λ (it : Progress). it.cuts) there ∙ (are other).cuts;
      ended = ap (λ (it : Progress). it.ended) here ∙ ended ∙ ap (λ (it : Progress). it.ended + 1) there ∙ ap (λ (n : ℕ). n + 1) (are other).ended ∙ sym grown;
    })
    (λ f.
    let same : later other ≡ often other + 0 = once other ∙ rw f refl in
    progress_as (pieces_of other rows) (pieces_of other rows) (often other) (later other) (progress_at old other) (progress_at new other)
    refl (same ∙ add-zero (often other)) (progress_set old new key moved updates other ∙ rw f refl) (are other))
