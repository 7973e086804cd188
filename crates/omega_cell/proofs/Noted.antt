-- The notes along a history that grows.
use Rattle.std.proofs.Common.{◌≡◌, List, [], ◌∷◌, ◌++◌, refl, sym, ap, ◌∙◌, append_assoc, append-nil}
use Rattle.std.specs.List.{fold}
use Rattle.omega_model.specs.Cell.{Cell, empty_cell}
use Rattle.omega_model.specs.State.{state, step}
use Rattle.omega_model.specs.declared.cells.TaskKey.{TaskKey}
use Rattle.omega_model.specs.declared.entries.Entry.{Entry}
use Rattle.omega_cell.specs.Effects.{AreNotes, NotesState, along, displaced_at, usage_at}
use Rattle.omega_cell.specs.declared.effects.Usage.{Usage}

-- the notes along entries with one more are those along them and those at it
along_push : {X : Type 0} (note : Cell → Entry → List X) (cell : Cell) (entries : List Entry) (entry : Entry)
    → along note cell (entries ++ entry ∷ []) ≡ along note cell entries ++ note (fold step cell entries) entry
along_push note cell [] entry = append-nil (note cell entry)
along_push note cell (first ∷ entries) entry =
    ap (λ notes. note cell first ++ notes) (along_push note (step cell first) entries entry)
    ∙ sym (append_assoc (note cell first) (along note (step cell first) entries) (note (fold step (step cell first) entries) entry))

-- the notes after one more entry
pub notes_push : (history : List Entry) (entry : Entry) (old room new : NotesState) → AreNotes history old
    → room.usages ≡ old.usages → room.displaced ≡ old.displaced
    → new.usages ≡ room.usages ++ usage_at (state history) entry → new.displaced ≡ room.displaced ++ displaced_at (state history) entry
    → AreNotes (history ++ entry ∷ []) new
notes_push history entry old room new are same_usages same_displaced usages displaced = record {
  usages = usages ∙ ap (λ (ns : List Usage). ns ++ usage_at (state history) entry) (same_usages ∙ are.usages)
      ∙ sym (along_push usage_at empty_cell history entry);
  displaced = displaced ∙ ap (λ (ns : List (List TaskKey)). ns ++ displaced_at (state history) entry) (same_displaced ∙ are.displaced)
      ∙ sym (along_push displaced_at empty_cell history entry);
}

-- nothing is noted at an entry that neither begins a round nor is one of a machine
pub notes_stay : (history : List Entry) (entry : Entry) (notes : NotesState) → usage_at (state history) entry ≡ [] → displaced_at (state history) entry ≡ []
    → AreNotes history notes → AreNotes (history ++ entry ∷ []) notes
notes_stay history entry notes no_usage none_displaced are =
    notes_push history entry notes notes notes are refl refl
    (sym (ap (λ (ns : List Usage). notes.usages ++ ns) no_usage ∙ append-nil notes.usages))
    (sym (ap (λ (ns : List (List TaskKey)). notes.displaced ++ ns) none_displaced ∙ append-nil notes.displaced))

-- other notes of the same usages and names serve as well
pub notes_same : (history : List Entry) (old new : NotesState) → AreNotes history old → new.usages ≡ old.usages → new.displaced ≡ old.displaced → AreNotes history new
notes_same history old new are usages displaced = record { usages = usages ∙ are.usages; displaced = displaced ∙ are.displaced }
