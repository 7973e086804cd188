-- The rows of a piece after one more row, and which of them are held.
use Rattle.std.proofs.Common.{◌≡◌, ◌<◌, ◌≤◌, ◌+◌, ℕ, Bool, true, false, cond, List, [], ◌∷◌, ◌++◌, Option, Some, None, length, map, refl, sym, ap, ap₂, ◌∙◌, arith, append-nil, append_assoc}
use Rattle.std.specs.Prelude.{◌==◌, ◌&&◌, unwrap_or, if◌then◌else◌}
use Rattle.std.specs.BTreeMap as tree
use Rattle.std.specs.BTreeMap.{BTreeMap}
use Rattle.std.proofs.lemmas.Bool.{and_parts, eqb-true, ne_eqb}
use Rattle.omega_model.proofs.InOrder.{key_same}
use Rattle.omega_model.proofs.Lists.{by_answer}
use Rattle.omega_model.specs.Fields.{TaskFields}
use Rattle.omega_model.specs.Keys.{same_key}
use Rattle.omega_model.specs.Wanted.{ends}
use Rattle.omega_model.specs.declared.cells.TaskKey.{TaskKey}
use Rattle.omega_model.specs.declared.rows.Row.{Row}
use Rattle.omega_model.specs.declared.rows.Row.TheVariants.{Task as TaskEvent}
use Rattle.omega_free_laws.specs.Lives.{pieces_of}
use Rattle.omega_pieces.specs.HowFar.{IsProgress, piece_cmp}
use Rattle.omega_pieces.specs.Held.{AreHeld, held_rows}
use Rattle.omega_pieces.specs.PieceRows.{is_of_piece, piece_rows, piece_rows_behind}
use Rattle.omega_pieces.specs.declared.progress.Progress.{Progress}
use Rattle.omega_pieces.proofs.PieceOrder.{at_piece}

behind_push : (key : TaskKey) (number : ℕ) (before rows : List Row) (row : Row)
    → piece_rows_behind key number before (rows ++ row ∷ [])
    ≡ piece_rows_behind key number before rows ++ (if is_of_piece key number (before ++ rows) row then row ∷ [] else [])
behind_push key number before [] row =
    append-nil (if is_of_piece key number before row then row ∷ [] else [])
    ∙ ap (λ (all : List Row). if is_of_piece key number all row then row ∷ [] else []) (sym (append-nil before))
behind_push key number before (first ∷ rows) row =
    ap (λ (rest : List Row). (if is_of_piece key number before first then first ∷ [] else []) ++ rest)
    (behind_push key number (before ++ first ∷ []) rows row
    ∙ ap (λ (all : List Row). piece_rows_behind key number (before ++ first ∷ []) rows ++ (if is_of_piece key number all row then row ∷ [] else [])) (append_assoc before (first ∷ []) rows))
    ∙ sym (append_assoc (if is_of_piece key number before first then first ∷ [] else []) (piece_rows_behind key number (before ++ first ∷ []) rows)
    (if is_of_piece key number (before ++ first ∷ rows) row then row ∷ [] else []))

pub piece_push : (key : TaskKey) (number : ℕ) (rows : List Row) (row : Row)
    → piece_rows key number (rows ++ row ∷ []) ≡ piece_rows key number rows ++ (if is_of_piece key number rows row then row ∷ [] else [])
piece_push key number rows row = behind_push key number [] rows row

-- a row of no piece that is to come
pub held_kept : (rows : List Row) (often : TaskKey → ℕ) (held : BTreeMap (TaskKey × ℕ) (List TaskFields)) (row : TaskFields)
    → ((key : TaskKey) (number : ℕ) → often key < number → is_of_piece key number rows (TaskEvent row) ≡ false)
    → AreHeld rows often held → AreHeld (rows ++ TaskEvent row ∷ []) often held
held_kept rows often held row none are key number less =
    are key number less ∙ sym (append-nil (piece_rows key number rows))
    ∙ sym (piece_push key number rows (TaskEvent row)
    ∙ ap (λ (b : Bool). piece_rows key number rows ++ (if b then TaskEvent row ∷ [] else [])) (none key number less))

-- a row that ends its task is of no piece
pub of_no_piece : (key : TaskKey) (number : ℕ) (rows : List Row) (row : TaskFields) → ends row.code ≡ true → is_of_piece key number rows (TaskEvent row) ≡ false
of_no_piece key number rows row ends_it = rw ends_it (by_answer (same_key row.key key) (λ t. rw t refl) (λ f. rw f refl))

-- a row of a piece that is under way or over is of none that is to come
pub of_no_later : (rows : List Row) (often : TaskKey → ℕ) (row : TaskFields) (progress : Progress) → IsProgress (pieces_of row.key rows) (often row.key) progress
    → progress.cuts ≤ progress.ended → (key : TaskKey) (number : ℕ) → often key < number → is_of_piece key number rows (TaskEvent row) ≡ false
of_no_later rows often row progress is low key number less =
    by_answer (same_key row.key key)
    (λ t.
    let same : often row.key ≡ often key = ap often (key_same row.key key t) in
    let cuts = is.cuts in
    let ended = is.ended in
    let apart : (length (pieces_of row.key rows).lives == number) ≡ false = ne_eqb (length (pieces_of row.key rows).lives) number (λ d. omega (arith, d, same, cuts, ended, low, less)) in
    rw (t, apart) (by_answer (ends row.code) (λ e. rw e refl) (λ e. rw e refl)))
    (λ f. rw f refl)

-- whether a row that ends no task is of a piece
of_piece_is : (key : TaskKey) (number : ℕ) (rows : List Row) (row : TaskFields) (cuts : ℕ) → ends row.code ≡ false → cuts ≡ length (pieces_of row.key rows).lives
    → is_of_piece key number rows (TaskEvent row) ≡ (same_key row.key key && cuts == number)
of_piece_is key number rows row cuts goes is = rw (goes, is) refl

map_push : (before : List TaskFields) (row : TaskFields)
    → map (λ (it : TaskFields). TaskEvent it) (before ++ row ∷ []) ≡ map (λ (it : TaskFields). TaskEvent it) before ++ TaskEvent row ∷ []
map_push [] row = refl
map_push (first ∷ before) row = ap (λ (rest : List Row). TaskEvent first ∷ rest) (map_push before row)

-- what is found once an entry was taken out and put in anew
pub set_anew : {X : Type 0} (old without new : BTreeMap (TaskKey × ℕ) X) (piece : TaskKey × ℕ) (x : X) → tree.Updates piece_cmp old without piece None
    → tree.Updates piece_cmp without new piece (Some x) → (other : TaskKey × ℕ)
    → tree.get piece_cmp new other ≡ cond (tree.is_at (piece_cmp piece) other) (Some x) (tree.get piece_cmp old other)
set_anew old without new piece x out back other =
    back.0 other ∙ by_answer (tree.is_at (piece_cmp piece) other) (λ t. rw t refl) (λ f. rw f (out.0 other ∙ rw f refl))

-- a row that is held
pub held_more : (rows : List Row) (often : TaskKey → ℕ) (held more : BTreeMap (TaskKey × ℕ) (List TaskFields)) (row : TaskFields) (cuts : ℕ)
    → ends row.code ≡ false → cuts ≡ length (pieces_of row.key rows).lives
    → ((other : TaskKey × ℕ) → tree.get piece_cmp more other
    ≡ cond (tree.is_at (piece_cmp (row.key, cuts)) other) (Some (held_rows held row.key cuts ++ row ∷ [])) (tree.get piece_cmp held other))
    → AreHeld rows often held → AreHeld (rows ++ TaskEvent row ∷ []) often more
held_more rows often held more row cuts goes is updates are key number less =
    by_answer (same_key row.key key && cuts == number) own other where
      found : held_rows more key number
          ≡ unwrap_or (cond (same_key row.key key && cuts == number) (Some (held_rows held row.key cuts ++ row ∷ [])) (tree.get piece_cmp held (key, number))) []
      found =
          ap (λ (it : Option (List TaskFields)). unwrap_or it [])
          (updates (key, number) ∙ ap (λ (b : Bool). cond b (Some (held_rows held row.key cuts ++ row ∷ [])) (tree.get piece_cmp held (key, number))) (at_piece row.key key cuts number))

      pushed : piece_rows key number (rows ++ TaskEvent row ∷ [])
          ≡ piece_rows key number rows ++ (if same_key row.key key && cuts == number then TaskEvent row ∷ [] else [])
      pushed =
          piece_push key number rows (TaskEvent row)
          ∙ ap (λ (b : Bool). piece_rows key number rows ++ (if b then TaskEvent row ∷ [] else [])) (of_piece_is key number rows row cuts goes is)

      own : (same_key row.key key && cuts == number) ≡ true
          → map (λ (it : TaskFields). TaskEvent it) (held_rows more key number) ≡ piece_rows key number (rows ++ TaskEvent row ∷ [])
      own t =
          let parts = and_parts (same_key row.key key) (cuts == number) t in
          let same : row.key ≡ key = key_same row.key key parts.0 in
          let numbers : cuts ≡ number = eqb-true cuts number parts.1 in
          let here : held_rows more key number ≡ held_rows held row.key cuts ++ row ∷ [] = rw t at found in
          let there : held_rows held row.key cuts ≡ held_rows held key number = ap₂ (held_rows held) same numbers in
          ap (map (λ (it : TaskFields). TaskEvent it)) (here ∙ ap (λ (front : List TaskFields). front ++ row ∷ []) there)
          ∙ map_push (held_rows held key number) row
          ∙ ap (λ (front : List Row). front ++ TaskEvent row ∷ []) (are key number less)
          ∙ sym (rw t at pushed)

      other : (same_key row.key key && cuts == number) ≡ false
          → map (λ (it : TaskFields). TaskEvent it) (held_rows more key number) ≡ piece_rows key number (rows ++ TaskEvent row ∷ [])
      other f =
          let here : held_rows more key number ≡ held_rows held key number = rw f at found in
          ap (map (λ (it : TaskFields). TaskEvent it)) here ∙ are key number less ∙ sym (append-nil (piece_rows key number rows)) ∙ sym (rw f at pushed)

-- the rows of a piece are handed out once its task has ended so often
pub held_less : (rows : List Row) (often later : TaskKey → ℕ) (held less : BTreeMap (TaskKey × ℕ) (List TaskFields)) (key : TaskKey) (next : ℕ)
    → next ≡ often key + 1
    → ((other : TaskKey) → later other ≡ often other + cond (same_key key other) 1 0)
    → tree.Updates piece_cmp held less (key, next) None → AreHeld rows often held → AreHeld rows later less
held_less rows often later held less key next at once updates are other number above =
    let before : often other < number = let grows = once other in omega (arith, above, grows) in
    let apart : (same_key key other && next == number) ≡ false = by_answer (same_key key other)
    (λ t.
    let same : often key ≡ often other = ap often (key_same key other t) in
    let grown : later other ≡ often other + 1 = rw t at (once other) in
    let differ : (next == number) ≡ false = ne_eqb next number (λ d. omega (arith, d, at, same, grown, above)) in
    rw (t, differ) refl)
    (λ f. rw f refl) in
    let found : tree.get piece_cmp less (other, number) ≡ tree.get piece_cmp held (other, number) =
    updates.0 (other, number) ∙ ap (λ (b : Bool). cond b None (tree.get piece_cmp held (other, number))) (at_piece key other next number ∙ apart) in
    ap (λ (it : Option (List TaskFields)). map (λ (row : TaskFields). TaskEvent row) (unwrap_or it [])) found ∙ are other number before
