-- What is kept of pieces after one more entry, and after a row of another table.
use Rattle.std.proofs.Common.{◌≡◌, ◌<◌, ◌+◌, ℕ, Bool, true, false, cond, List, [], ◌∷◌, ◌++◌, refl, sym, ap, subst, ◌∙◌, append-nil}
use Rattle.std.specs.Prelude.{nat_lt, if◌then◌else◌}
use Rattle.std.proofs.lemmas.Bool.{both_ways, lt-ltb, ltb-true}
use Rattle.omega_free_laws.proofs.DueEnds.{ended_same}
use Rattle.omega_free_laws.specs.Lives.{Pieces, ended, is_end_of, pieces_after, pieces_of}
use Rattle.omega_model.proofs.InOrder.{key_same}
use Rattle.omega_model.proofs.Lists.{by_answer}
use Rattle.omega_model.specs.ExtraTasks.{first_extra}
use Rattle.omega_model.specs.Fields.{AttrFields, MachineFields}
use Rattle.omega_model.specs.Keys.{same_key}
use Rattle.omega_model.specs.declared.cells.TaskKey.{TaskKey}
use Rattle.omega_model.specs.declared.entries.Entry.{Entry}
use Rattle.omega_model.specs.declared.entries.Entry.TheVariants.{End}
use Rattle.omega_model.specs.declared.rows.Row.{Row}
use Rattle.omega_model.specs.declared.rows.Row.TheVariants.{Machine, Attr as AttrEvent}
use Rattle.omega_model.specs.declared.rows.TraceTables.{TraceTables}
use Rattle.omega_pieces.specs.HowFar.{IsProgress, progress_at}
use Rattle.omega_pieces.specs.Kept.{KeepsPieces, own_ended}
use Rattle.omega_pieces.specs.PieceRows.{is_of_piece, piece_rows}
use Rattle.omega_pieces.specs.declared.task_pieces.TaskPieces.{TaskPieces}
use Rattle.omega_pieces.proofs.Counting.{ended_once}
use Rattle.omega_pieces.proofs.FurtherOn.{pieces_push}
use Rattle.omega_pieces.proofs.PieceRows.{piece_push}

-- how often a task of the trace has ended
pub own_is : (history : List Entry) (key : TaskKey) → key.index < first_extra → own_ended history key ≡ ended history key
own_is history key low = let is : nat_lt key.index first_extra ≡ true = lt-ltb key.index first_extra low in rw is refl

pub own_none : (key : TaskKey) → own_ended [] key ≡ 0
own_none key = by_answer (nat_lt key.index first_extra) (λ t. rw t refl) (λ f. rw f refl)

pub own_once : (history : List Entry) (key : TaskKey) (machine : ℕ) → key.index < first_extra → (other : TaskKey)
    → own_ended (history ++ End key machine ∷ []) other ≡ own_ended history other + cond (same_key key other) 1 0
own_once history key machine low other =
    by_answer (nat_lt other.index first_extra)
    (λ t. rw t (ended_once history key machine other))
    (λ f. by_answer (same_key key other)
    (λ s.
    let is : nat_lt key.index first_extra ≡ true = lt-ltb key.index first_extra low in
    let clash : nat_lt other.index first_extra ≡ true = subst (λ (it : TaskKey). nat_lt it.index first_extra ≡ true) (key_same key other s) is in
    absurd (both_ways _ f clash))
    (λ d. rw (f, d) refl))

-- an entry that ends no task of the trace
own_same : (history : List Entry) (entry : Entry) → ((key : TaskKey) → key.index < first_extra → is_end_of key entry ≡ false) → (key : TaskKey)
    → own_ended (history ++ entry ∷ []) key ≡ own_ended history key
own_same history entry none key =
    by_answer (nat_lt key.index first_extra)
    (λ t. rw t (ended_same key history entry (none key (ltb-true key.index first_extra t))))
    (λ f. rw f refl)

pub keeps_entry : (trace : TraceTables) (rows : List Row) (history : List Entry) (pieces : TaskPieces) (entry : Entry)
    → ((key : TaskKey) → key.index < first_extra → is_end_of key entry ≡ false) → KeepsPieces trace rows history pieces
    → KeepsPieces trace rows (history ++ entry ∷ []) pieces
keeps_entry trace rows history pieces entry none keeps = record {
  lives = keeps.lives;
  progress = λ key. subst (λ (often : ℕ). IsProgress (pieces_of key rows) often (progress_at pieces.by_task key)) (sym (own_same history entry none key)) (keeps.progress key);
  held = λ key number less. keeps.held key number (subst (λ (often : ℕ). often < number) (own_same history entry none key) less);
}

-- a row of another table
row_same : (trace : TraceTables) (rows : List Row) (history : List Entry) (pieces : TaskPieces) (row : Row)
    → ((key : TaskKey) (before : Pieces) → pieces_after key before row ≡ before) → ((key : TaskKey) (number : ℕ) → is_of_piece key number rows row ≡ false)
    → KeepsPieces trace rows history pieces → KeepsPieces trace (rows ++ row ∷ []) history pieces
row_same trace rows history pieces row stays none keeps = record {
  lives = keeps.lives;
  progress = λ key. subst (λ (it : Pieces). IsProgress it (own_ended history key) (progress_at pieces.by_task key))
      (sym (pieces_push key rows row ∙ stays key (pieces_of key rows))) (keeps.progress key);
  held = λ key number less. keeps.held key number less ∙ sym (append-nil (piece_rows key number rows))
      ∙ sym (piece_push key number rows row ∙ ap (λ (b : Bool). piece_rows key number rows ++ (if b then row ∷ [] else [])) (none key number));
}

pub keeps_machine_row : (trace : TraceTables) (rows : List Row) (history : List Entry) (pieces : TaskPieces) (row : MachineFields)
    → KeepsPieces trace rows history pieces → KeepsPieces trace (rows ++ Machine row ∷ []) history pieces
keeps_machine_row trace rows history pieces row = row_same trace rows history pieces (Machine row) (λ key before. refl) (λ key number. refl)

pub keeps_attr_row : (trace : TraceTables) (rows : List Row) (history : List Entry) (pieces : TaskPieces) (row : AttrFields)
    → KeepsPieces trace rows history pieces → KeepsPieces trace (rows ++ AttrEvent row ∷ []) history pieces
keeps_attr_row trace rows history pieces row = row_same trace rows history pieces (AttrEvent row) (λ key before. refl) (λ key number. refl)
