-- The first refusal of tables that are read one after the other.
use Rattle.std.proofs.Common.{◌≡◌, ◌∙◌, ◌++◌, ℕ, List, [], ◌∷◌, Option, Some, None, map, refl, ap, length, append_assoc, ◌+◌}
use Rattle.std.specs.Prelude.{Result, Ok, Err}
use Rattle.std.specs.Option.{option_or}
use Rattle.std.proofs.lemmas.List.{map-append}
use Rattle.omega_model.specs.Refusals.{first_standing, bad_row, refusal_among, table_refusal, trace_refusal, first_refusal}
use Rattle.omega_model.specs.Columns.{BadColumn}
use Rattle.omega_model.specs.Rows.{rows_by}
use Rattle.omega_model.specs.declared.results.Cause.{Cause}
use Rattle.omega_model.specs.Trace.{tables_in_order, trace_of}
use Rattle.omega_model.proofs.TypedRows.{rows_stop}
use Rattle.omega_model.specs.declared.rows.Table.{Table}
use Rattle.omega_model.specs.declared.results.Status.{Status}
use Rattle.omega_model.specs.declared.results.Status.TheVariants.{BadRow}

first_standing-append : (xs ys : List (Option Status)) → first_standing (xs ++ ys) ≡ option_or (first_standing xs) (first_standing ys)
first_standing-append [] ys = refl
first_standing-append (None ∷ xs) ys = first_standing-append xs ys
first_standing-append (Some refusal ∷ xs) ys = refl

pub refusal_among-append : (tables others : List Table) (bytes : Table → List ℕ)
    → refusal_among (tables ++ others) bytes ≡ option_or (refusal_among tables bytes) (refusal_among others bytes)
refusal_among-append tables others bytes =
    let f = λ (table : Table). table_refusal table (bytes table) in
    ap first_standing (map-append f tables others) ∙ first_standing-append (map f tables) (map f others)

-- one more table that isn't refused
pub among_push : (tables : List Table) (table : Table) (bytes : Table → List ℕ)
    → refusal_among tables bytes ≡ None → table_refusal table (bytes table) ≡ None → refusal_among (tables ++ table ∷ []) bytes ≡ None
among_push tables table bytes before this = refusal_among-append tables (table ∷ []) bytes ∙ rw (before, this) refl

-- a table that is refused, whatever follows
pub among_stop : (tables : List Table) (table : Table) (others : List Table) (bytes : Table → List ℕ) (refusal : Status)
    → refusal_among tables bytes ≡ None → table_refusal table (bytes table) ≡ Some refusal → refusal_among (tables ++ table ∷ others) bytes ≡ Some refusal
among_stop tables table others bytes refusal before this = refusal_among-append tables (table ∷ others) bytes ∙ rw (before, this) refl

-- the first bad record, by the number of rows before it
pub bad_row_at : {A : Type 0} (row_of : List (List ℕ) → Result A BadColumn) (table : Table) (all done : List (List (List ℕ))) (rows : List A)
    (fields : List (List ℕ)) (others : List (List (List ℕ))) (number column : ℕ) (cause : Cause)
    → all ≡ (done ++ fields ∷ []) ++ others → rows_by row_of done ≡ Ok rows → row_of fields ≡ Err (column, cause) → number ≡ length rows
    → bad_row table (rows_by row_of all) ≡ Some (BadRow table (number + 1) column cause)
bad_row_at row_of table all done rows fields others number column cause split before bad count =
    let stop = rows_stop row_of done rows fields others (column, cause) before bad in
    rw (split, append_assoc done (fields ∷ []) others, stop, count) refl

-- what is refused of a table is refused before all rows are looked at together
pub tables_first : (bytes : Table → List ℕ) (refusal : Status) → refusal_among tables_in_order bytes ≡ Some refusal → first_refusal bytes ≡ Some refusal
tables_first bytes refusal is = rw is refl

-- where no table is refused, the refusal is that of all rows together
pub rows_last : (bytes : Table → List ℕ) (answer : Option Status) → refusal_among tables_in_order bytes ≡ None → trace_refusal (trace_of bytes) ≡ answer → first_refusal bytes ≡ answer
rows_last bytes answer none is = rw (none, is) (alone answer) where
  alone : (answer : Option Status) → first_standing (answer ∷ []) ≡ answer
  alone None = refl
  alone (Some refusal) = refl
