-- Rows that are applied one after the other.
use Rattle.std.proofs.Common.{◌≡◌, List, [], ◌∷◌, ◌++◌, refl, sym, ap, ap₂, ◌∙◌, append_assoc, append-nil, subst}
use Rattle.std.specs.List.{fold}
use Rattle.std.proofs.lemmas.List.Sums.{fold-append}
use Rattle.omega_feed.specs.Asked.{Asked}
use Rattle.omega_model.specs.Fields.{DiskFields}
use Rattle.omega_model.specs.Lawful.{Applied, with_row}
use Rattle.omega_model.specs.State.{state}
use Rattle.omega_model.specs.RowEntries.{row_entries}
use Rattle.omega_model.specs.Wanted.{WantedTask, wanted, wanted_after}
use Rattle.omega_model.specs.declared.entries.Entry.{Entry}
use Rattle.omega_model.specs.declared.rows.Row.{Row}
use Rattle.omega_model.specs.declared.rows.TraceTables.{TraceTables}

-- a history with the rows that led to it
abbrev pub applied_rows : List Row → List Entry → Applied
applied_rows rows history = record { rows = rows; history = history }

-- these rows are applied: their tasks are wanted, and their entries stand behind a history
pub record AreApplied (before after : Asked) (start history : List Entry) (some : List Row) : Type 0 where
  pub asked : after ≡ record before { tasks = fold wanted_after before.tasks some }
  pub applied : (trace : TraceTables) (rows : List Row) → before.disks ≡ trace.disks → before.tasks ≡ wanted rows
      → applied_rows (rows ++ some) history ≡ fold (with_row trace) (applied_rows rows start) some

-- none is
pub applied_none : (before : Asked) (start : List Entry) → AreApplied before before start start []
applied_none before start = record {
  asked = refl;
  applied = λ trace rows disks tasks. ap (λ (rs : List Row). applied_rows rs start) (append-nil rows);
}

-- one more is
pub applied_more : (before middle after : Asked) (start history next : List Entry) (some : List Row) (row : Row)
    → AreApplied before middle start history some
    → after ≡ record middle { tasks = wanted_after middle.tasks row }
    → next ≡ history ++ row_entries after.disks (state history) after.tasks row
    → AreApplied before after start next (some ++ row ∷ [])
applied_more before middle after start history next some row are takes appends =
    let folded : fold wanted_after before.tasks (some ++ row ∷ []) ≡ wanted_after (fold wanted_after before.tasks some) row =
    fold-append wanted_after before.tasks some (row ∷ []) in
    let asks : after ≡ record before { tasks = wanted_after (fold wanted_after before.tasks some) row } =
    takes ∙ ap (λ (a : Asked). record a { tasks = wanted_after a.tasks row }) are.asked in
    record {
      asked = asks ∙ ap (λ (ts : List WantedTask). record before { tasks = ts }) (sym folded);
      applied = λ trace rows disks tasks.
          let wants : after.tasks ≡ wanted ((rows ++ some) ++ row ∷ []) =
          ap (λ (a : Asked). a.tasks) asks
          ∙ ap (λ (ts : List WantedTask). wanted_after (fold wanted_after ts some) row) tasks
          ∙ ap (λ (ts : List WantedTask). wanted_after ts row) (sym (fold-append wanted_after [] rows some))
          ∙ sym (fold-append wanted_after [] (rows ++ some) (row ∷ [])) in
          let same_disks : after.disks ≡ trace.disks = ap (λ (a : Asked). a.disks) asks ∙ disks in
          let entries : next ≡ history ++ row_entries trace.disks (state history) (wanted ((rows ++ some) ++ row ∷ [])) row =
          appends ∙ ap₂ (λ (ds : List DiskFields) (ts : List WantedTask). history ++ row_entries ds (state history) ts row) same_disks wants in
          ap₂ applied_rows (sym (append_assoc rows some (row ∷ []))) entries
          ∙ ap (λ (now : Applied). with_row trace now row) (are.applied trace rows disks tasks)
          ∙ sym (fold-append (with_row trace) (applied_rows rows start) some (row ∷ []));
    }

-- of some rows the first ones are applied, and these are left
pub record AreAppliedBut (before after : Asked) (start history : List Entry) (left all : List Row) : Type 0 where
  pub done : List Row
  pub parts : done ++ left ≡ all
  pub applied : AreApplied before after start history done

-- all are left
pub all_left : (before : Asked) (start : List Entry) (all : List Row) → AreAppliedBut before before start start all all
all_left before start all = record { done = []; parts = refl; applied = applied_none before start }

-- one fewer is
pub one_fewer : (before middle after : Asked) (start history next : List Entry) (row : Row) (left all : List Row)
    → AreAppliedBut before middle start history (row ∷ left) all
    → after ≡ record middle { tasks = wanted_after middle.tasks row }
    → next ≡ history ++ row_entries after.disks (state history) after.tasks row
    → AreAppliedBut before after start next left all
one_fewer before middle after start history next row left all are takes appends = record {
  done = are.done ++ row ∷ [];
  parts = append_assoc are.done (row ∷ []) left ∙ are.parts;
  applied = applied_more before middle after start history next are.done row are.applied takes appends;
}

-- none is left
pub none_left : (before after : Asked) (start history : List Entry) (all : List Row) → AreAppliedBut before after start history [] all
    → AreApplied before after start history all
none_left before after start history all are =
    subst (λ (rows : List Row). AreApplied before after start history rows) (sym (append-nil are.done) ∙ are.parts) are.applied
