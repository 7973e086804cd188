-- Rows that are applied to the pieces of their tasks one after the other.
use Rattle.std.proofs.Common.{◌≡◌, ◌++◌, ◌∷◌, [], List, sym, ap, subst, ◌∙◌, append-nil, append_assoc}
use Rattle.std.specs.List.{AllByRecursion as Each}
use Rattle.omega_model.proofs.Lists.{each_append}
use Rattle.omega_model.specs.declared.entries.Entry.{Entry}
use Rattle.omega_model.specs.declared.rows.Row.{Row}
use Rattle.omega_model.specs.declared.rows.TraceTables.{TraceTables}
use Rattle.omega_free_laws.specs.Lives.{counting_behind}
use Rattle.omega_pieces.specs.Kept.{KeepsPieces}
use Rattle.omega_pieces.specs.declared.task_pieces.TaskPieces.{TaskPieces}
use Rattle.omega_free.specs.KeptEnds.{IsLowRow}
use Rattle.omega_free.proofs.OwnOpened.{behind_more}

-- of some rows, none of which so far is of an extra task, those that count were put aside, and these are left
pub record AreTakenBut (start now : TaskPieces) (counted left all : List Row) : Type 0 where
  pub done : List Row
  pub parts : done ++ left ≡ all
  pub low : Each IsLowRow done
  pub counts : (trace : TraceTables) (before : List Row) (history : List Entry) → KeepsPieces trace before history start → counted ≡ counting_behind history before done
  pub keeps : (trace : TraceTables) (before : List Row) (history : List Entry) → KeepsPieces trace before history start → KeepsPieces trace (before ++ done) history now

-- all are left
pub all_to_take : (start : TaskPieces) (counted all left : List Row) → counted ≡ [] → left ≡ all → AreTakenBut start start counted left all
all_to_take start counted all left none is = record {
  done = [];
  parts = is;
  low = tt;
  counts = λ trace before history keeps. none;
  keeps = λ trace before history keeps. subst (λ (rows : List Row). KeepsPieces trace rows history start) (sym (append-nil before)) keeps;
}

-- one fewer is
pub one_taken : (start now next : TaskPieces) (counted more left rest all : List Row) (row : Row) → AreTakenBut start now counted left all → left ≡ row ∷ rest
    → IsLowRow row
    → ((trace : TraceTables) (before : List Row) (history : List Entry) → KeepsPieces trace before history now → more ≡ counted ++ counting_behind history before (row ∷ []))
    → ((trace : TraceTables) (before : List Row) (history : List Entry) → KeepsPieces trace before history now → KeepsPieces trace (before ++ row ∷ []) history next)
    → AreTakenBut start next more rest all
one_taken start now next counted more left rest all row are first low counts keeps = record {
  done = are.done ++ row ∷ [];
  parts = append_assoc are.done (row ∷ []) rest ∙ ap (λ (rows : List Row). are.done ++ rows) (sym first) ∙ are.parts;
  low = each_append IsLowRow are.done (row ∷ []) are.low (low, tt);
  counts = λ trace before history kept.
      counts trace (before ++ are.done) history (are.keeps trace before history kept)
      ∙ ap (λ (rows : List Row). rows ++ counting_behind history (before ++ are.done) (row ∷ [])) (are.counts trace before history kept)
      ∙ sym (behind_more history before are.done (row ∷ []));
  keeps = λ trace before history kept.
      subst (λ (rows : List Row). KeepsPieces trace rows history next) (append_assoc before are.done (row ∷ []))
      (keeps trace (before ++ are.done) history (are.keeps trace before history kept));
}

-- none is left
pub all_taken : (start now : TaskPieces) (counted left all : List Row) → AreTakenBut start now counted left all → left ≡ [] → AreTakenBut start now counted [] all
all_taken start now counted left all are none = subst (λ (rows : List Row). AreTakenBut start now counted rows all) none are

pub done_are_all : (start now : TaskPieces) (counted all : List Row) (are : AreTakenBut start now counted [] all) → are.done ≡ all
done_are_all start now counted all are = sym (append-nil are.done) ∙ are.parts
