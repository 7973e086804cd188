-- Which rows count after one more row, and after one more entry.
use Rattle.std.proofs.Common.{◌≡◌, ◌+◌, ℕ, Bool, true, false, cond, add-zero, subst, List, [], ◌∷◌, ◌++◌, length, refl, sym, ap, ap₂, ◌∙◌, append-nil, append_assoc}
use Rattle.std.specs.Prelude.{◌==◌, ◌&&◌, not, if◌then◌else◌}
use Rattle.std.specs.List.{filter}
use Rattle.std.proofs.lemmas.List.Sums.{fold-append}
use Rattle.omega_model.proofs.InOrder.{key_same, same_key-sym}
use Rattle.omega_model.proofs.Lists.{by_answer}
use Rattle.omega_model.specs.Keys.{same_key}
use Rattle.omega_model.specs.Wanted.{ends, wanted, wanted_after}
use Rattle.omega_model.specs.declared.cells.TaskKey.{TaskKey}
use Rattle.omega_model.specs.declared.entries.Entry.{Entry}
use Rattle.omega_model.specs.declared.entries.Entry.TheVariants.{End}
use Rattle.omega_model.specs.declared.rows.Row.{Row}
use Rattle.omega_model.specs.declared.rows.Row.TheVariants.{Machine, Attr as AttrEvent, Task as TaskEvent}
use Rattle.omega_free_laws.specs.Lives.{counting, counting_behind, counts, pieces_of, ended, is_end_of}
use Rattle.omega_free_laws.proofs.DueEnds.{ended_own, ended_same}
use Rattle.omega_pieces.specs.PieceRows.{piece_rows_behind}

-- the row that is applied last counts by those before it
behind_push : (history : List Entry) (before rows : List Row) (row : Row)
    → counting_behind history before (rows ++ row ∷ [])
    ≡ counting_behind history before rows ++ (if counts history (before ++ rows) row then row ∷ [] else [])
behind_push history before [] row =
    append-nil (if counts history before row then row ∷ [] else [])
    ∙ ap (λ (all : List Row). if counts history all row then row ∷ [] else []) (sym (append-nil before))
behind_push history before (first ∷ rows) row =
    ap (λ (rest : List Row). (if counts history before first then first ∷ [] else []) ++ rest)
    (behind_push history (before ++ first ∷ []) rows row
    ∙ ap (λ (all : List Row). counting_behind history (before ++ first ∷ []) rows ++ (if counts history all row then row ∷ [] else [])) (append_assoc before (first ∷ []) rows))
    ∙ sym (append_assoc (if counts history before first then first ∷ [] else []) (counting_behind history (before ++ first ∷ []) rows)
    (if counts history (before ++ first ∷ rows) row then row ∷ [] else []))

pub counting_push : (history : List Entry) (rows : List Row) (row : Row)
    → counting (rows ++ row ∷ []) history ≡ counting rows history ++ (if counts history rows row then row ∷ [] else [])
counting_push history rows row = behind_push history [] rows row

-- so a row that counts changes what is wanted as it does where tasks end by rows, and any other row changes nothing
pub asked_push : (history : List Entry) (rows : List Row) (row : Row)
    → wanted (counting (rows ++ row ∷ []) history) ≡ (if counts history rows row then wanted_after (wanted (counting rows history)) row else wanted (counting rows history))
asked_push history rows row =
    ap wanted (counting_push history rows row)
    ∙ fold-append wanted_after [] (counting rows history) (if counts history rows row then row ∷ [] else [])
    ∙ by_answer (counts history rows row) (λ t. rw t refl) (λ f. rw f refl)

-- an entry that ends no task leaves what counts
counts_same : (history : List Entry) (entry : Entry) (before : List Row) (row : Row) → ((key : TaskKey) → is_end_of key entry ≡ false)
    → counts (history ++ entry ∷ []) before row ≡ counts history before row
counts_same history entry before (Machine row) none = refl
counts_same history entry before (AttrEvent row) none = refl
counts_same history entry before (TaskEvent row) none =
    ap (λ (n : ℕ). not (ends row.code) && length (pieces_of row.key before).lives == n) (ended_same row.key history entry (none row.key))

behind_same : (history : List Entry) (entry : Entry) (before rows : List Row) → ((key : TaskKey) → is_end_of key entry ≡ false)
    → counting_behind (history ++ entry ∷ []) before rows ≡ counting_behind history before rows
behind_same history entry before [] none = refl
behind_same history entry before (row ∷ rows) none =
    ap₂ (λ (counted : Bool) (rest : List Row). (if counted then row ∷ [] else []) ++ rest) (counts_same history entry before row none)
    (behind_same history entry (before ++ row ∷ []) rows none)

pub counting_same : (history : List Entry) (entry : Entry) (rows : List Row) → ((key : TaskKey) → is_end_of key entry ≡ false)
    → counting rows (history ++ entry ∷ []) ≡ counting rows history
counting_same history entry rows none = behind_same history entry [] rows none

-- ---- an end

-- whether a row is of this task
abbrev pub is_row_of : TaskKey → Row → Bool
is_row_of key (TaskEvent row) = same_key row.key key
is_row_of key _ = false

-- of a task the rows of its current piece count, and no others
held_are : (history : List Entry) (key : TaskKey) (before rows : List Row)
    → filter (is_row_of key) (counting_behind history before rows) ≡ piece_rows_behind key (ended history key) before rows
held_are history key before [] = refl
held_are history key before (Machine row ∷ rows) = held_are history key (before ++ Machine row ∷ []) rows
held_are history key before (AttrEvent row ∷ rows) = held_are history key (before ++ AttrEvent row ∷ []) rows
held_are history key before (TaskEvent row ∷ rows) =
    let rest = held_are history key (before ++ TaskEvent row ∷ []) rows in
    by_answer (same_key row.key key)
    (λ t.
    let same : row.key ≡ key = key_same row.key key t in
    let number : ended history row.key ≡ ended history key = ap (ended history) same in
    rw (t, number) (by_answer (not (ends row.code) && length (pieces_of row.key before).lives == ended history key)
    (λ c. rw (c, t) (ap (λ (more : List Row). TaskEvent row ∷ more) rest))
    (λ c. rw c rest)))
    (λ f. rw f (by_answer (not (ends row.code) && length (pieces_of row.key before).lives == ended history row.key)
    (λ c. rw (c, f) rest)
    (λ c. rw c rest)))

pub counting_own : (history : List Entry) (key : TaskKey) (rows : List Row)
    → filter (is_row_of key) (counting rows history) ≡ piece_rows_behind key (ended history key) [] rows
counting_own history key rows = held_are history key [] rows

-- an end leaves which rows of other tasks count
others_are : (history : List Entry) (key : TaskKey) (machine : ℕ) (before rows : List Row)
    → filter (λ row. not (is_row_of key row)) (counting_behind (history ++ End key machine ∷ []) before rows)
    ≡ filter (λ row. not (is_row_of key row)) (counting_behind history before rows)
others_are history key machine before [] = refl
others_are history key machine before (Machine row ∷ rows) = ap (λ (more : List Row). Machine row ∷ more) (others_are history key machine (before ++ Machine row ∷ []) rows)
others_are history key machine before (AttrEvent row ∷ rows) = ap (λ (more : List Row). AttrEvent row ∷ more) (others_are history key machine (before ++ AttrEvent row ∷ []) rows)
others_are history key machine before (TaskEvent row ∷ rows) =
    let rest = others_are history key machine (before ++ TaskEvent row ∷ []) rows in
    by_answer (same_key row.key key)
    (λ t. one_out t (counting_behind (history ++ End key machine ∷ []) (before ++ TaskEvent row ∷ []) rows) (counting_behind history (before ++ TaskEvent row ∷ []) rows) rest (counts (history ++ End key machine ∷ []) before (TaskEvent row)) (counts history before (TaskEvent row)))
    (λ f.
    let same : ended (history ++ End key machine ∷ []) row.key ≡ ended history row.key = ended_same row.key history (End key machine) (same_key-sym row.key key f) in
    rw same (one_in f (counting_behind (history ++ End key machine ∷ []) (before ++ TaskEvent row ∷ []) rows) (counting_behind history (before ++ TaskEvent row ∷ []) rows) rest (not (ends row.code) && length (pieces_of row.key before).lives == ended history row.key))) where
      one_out : same_key row.key key ≡ true → (more less : List Row) → filter (λ it. not (is_row_of key it)) more ≡ filter (λ it. not (is_row_of key it)) less
          → (one other : Bool)
          → filter (λ it. not (is_row_of key it)) ((if one then TaskEvent row ∷ [] else []) ++ more)
          ≡ filter (λ it. not (is_row_of key it)) ((if other then TaskEvent row ∷ [] else []) ++ less)
      one_out t more less same true true = rw t same
      one_out t more less same true false = rw t same
      one_out t more less same false true = rw t same
      one_out t more less same false false = same

      one_in : same_key row.key key ≡ false → (more less : List Row) → filter (λ it. not (is_row_of key it)) more ≡ filter (λ it. not (is_row_of key it)) less
          → (one : Bool)
          → filter (λ it. not (is_row_of key it)) ((if one then TaskEvent row ∷ [] else []) ++ more)
          ≡ filter (λ it. not (is_row_of key it)) ((if one then TaskEvent row ∷ [] else []) ++ less)
      one_in f more less same true = rw f (ap (λ (rest : List Row). TaskEvent row ∷ rest) same)
      one_in f more less same false = same

pub counting_others : (history : List Entry) (key : TaskKey) (machine : ℕ) (rows : List Row)
    → filter (λ row. not (is_row_of key row)) (counting rows (history ++ End key machine ∷ []))
    ≡ filter (λ row. not (is_row_of key row)) (counting rows history)
counting_others history key machine rows = others_are history key machine [] rows

-- how often tasks have ended once one of them has ended once more
pub ended_once : (history : List Entry) (key : TaskKey) (machine : ℕ) (other : TaskKey)
    → ended (history ++ End key machine ∷ []) other ≡ ended history other + cond (same_key key other) 1 0
ended_once history key machine other =
    by_answer (same_key key other)
    (λ t. rw t (subst (λ (it : TaskKey). ended (history ++ End key machine ∷ []) it ≡ ended history it + 1) (key_same key other t) (ended_own key history machine)))
    (λ f. rw f (ended_same other history (End key machine) f ∙ sym (add-zero (ended history other))))
