-- Answers for two parts of a text, one behind the other.
use Rattle.std.proofs.Common.{◌≡◌, ◌∙◌, ◌+◌, ◌++◌, ℕ, List, length, Some, refl, arith}
use Rattle.std.specs.Prelude.{Result, Ok, Err}
use Rattle.omega_model.specs.Columns.{BadColumn}
use Rattle.omega_model.specs.Rows.{rows_by}
use Rattle.omega_model.specs.Refusals.{bad_row}
use Rattle.omega_model.specs.declared.rows.Table.{Table}
use Rattle.omega_model.specs.declared.results.Cause.{Cause}
use Rattle.omega_model.specs.declared.results.Status.TheVariants as status
use Rattle.omega_model.proofs.TypedRows.{rows_by-append, then_rows}
use Rattle.omega_tables.specs.Reading.{Stands}
use Rattle.omega_tables.specs.Taking.{count_of}
use Rattle.omega_tables.specs.declared.refusal.ReadRefusal.{ReadRefusal}
use Rattle.omega_tables.specs.declared.refusal.ReadRefusal.TheVariants.{Fault, TooLong, BadRow, TooMany, NoMemory}

-- the rows of both
pub both_rows : {A : Type 0} (row_of : List (List ℕ) → Result A BadColumn) (first second : List (List (List ℕ))) (rows more : List A)
    → rows_by row_of first ≡ Ok rows → rows_by row_of second ≡ Ok more → rows_by row_of (first ++ second) ≡ Ok (rows ++ more)
both_rows row_of first second rows more a b = rows_by-append row_of first second ∙ rw (a, b) refl

-- a refusal of the first part is one of all
pub refusal_first : {A : Type 0} (row_of : List (List ℕ) → Result A BadColumn) (table : Table) (first second : List (List (List ℕ))) (refusal : ReadRefusal)
    → Stands (bad_row table (rows_by row_of first)) refusal → Stands (bad_row table (rows_by row_of (first ++ second))) refusal
refusal_first {A} row_of table first second refusal h = rw (rows_by-append row_of first second) (by (rows_by row_of first) refusal h)
  where
    by : (r : Result (List A) (ℕ × BadColumn)) (refusal : ReadRefusal) → Stands (bad_row table r) refusal → Stands (bad_row table (then_rows r (rows_by row_of second))) refusal
    by (Err why) refusal h = h
    by (Ok rows) (Fault _) h = absurd h
    by (Ok rows) (TooLong _) h = cc h
    by (Ok rows) (BadRow _ _ _ _) h = cc h
    by (Ok rows) (TooMany _ _) h = cc h
    by (Ok rows) NoMemory h = tt

-- a bad row of the second part has a greater number, where all records of the first are rows
pub refusal_behind : {A : Type 0} (row_of : List (List ℕ) → Result A BadColumn) (table other : Table) (first second : List (List (List ℕ)))
    (number row moved column : ℕ) (cause : Cause) → count_of (rows_by row_of first) ≡ Some number → moved ≡ row + number
    → bad_row table (rows_by row_of second) ≡ Some (status.BadRow other row column cause)
    → bad_row table (rows_by row_of (first ++ second)) ≡ Some (status.BadRow other moved column cause)
refusal_behind {A} row_of table other first second number row moved column cause e m h = rw (rows_by-append row_of first second) (by (rows_by row_of first) (rows_by row_of second) e h)
  where
    by : (x y : Result (List A) (ℕ × BadColumn)) → count_of x ≡ Some number → bad_row table y ≡ Some (status.BadRow other row column cause)
        → bad_row table (then_rows x y) ≡ Some (status.BadRow other moved column cause)
    by (Err why) y e h = cc e
    by (Ok rows) (Ok more) e h = cc h
    by (Ok rows) (Err (place, (c, why))) e h =
        let same_number : length rows ≡ number = cc e in
        let same_table : table ≡ other = cc h in
        let same_row : place + 1 ≡ row = cc h in
        let same_column : c ≡ column = cc h in
        let same_cause : why ≡ cause = cc h in
        let there : length rows + place + 1 ≡ moved = omega (arith, same_number, same_row, m) in
        rw (same_table, there, same_column, same_cause) refl
