-- The typed rows of records that are read one after the other.
use Rattle.std.proofs.Common.{◌≡◌, ◌∙◌, ◌+◌, ◌++◌, ℕ, suc, List, [], ◌∷◌, length, refl, ap, arith}
use Rattle.std.specs.Prelude.{Result, Ok, Err}
use Rattle.omega_model.specs.Rows.{rows_by, with_first}

-- the rows of some records, and of those behind them
abbrev pub then_rows : {A E : Type 0} → Result (List A) (ℕ × E) → Result (List A) (ℕ × E) → Result (List A) (ℕ × E)
then_rows (Err why) others = Err why
then_rows (Ok rows) (Ok more) = Ok (rows ++ more)
then_rows (Ok rows) (Err (place, why)) = Err (length rows + place, why)

first_then : {A E : Type 0} (r : Result A E) (xs ys : Result (List A) (ℕ × E)) → with_first r (then_rows xs ys) ≡ then_rows (with_first r xs) ys
first_then (Err why) xs ys = refl
first_then (Ok row) (Err (place, why)) ys = refl
first_then (Ok row) (Ok rows) (Ok more) = refl
first_then {A} {E} (Ok row) (Ok rows) (Err (place, why)) =
    let same : length rows + place + 1 ≡ suc (length rows) + place = omega arith in
    rw same refl

no_rows_first : {A E : Type 0} (others : Result (List A) (ℕ × E)) → others ≡ then_rows (Ok []) others
no_rows_first (Ok more) = refl
no_rows_first (Err (place, why)) =
    let same : 0 + place ≡ place = omega arith in
    rw same refl

pub rows_by-append : {A E : Type 0} (row_of : List (List ℕ) → Result A E) (xs ys : List (List (List ℕ))) → rows_by row_of (xs ++ ys) ≡ then_rows (rows_by row_of xs) (rows_by row_of ys)
rows_by-append row_of [] ys = no_rows_first (rows_by row_of ys)
rows_by-append row_of (x ∷ xs) ys = ap (with_first (row_of x)) (rows_by-append row_of xs ys) ∙ first_then (row_of x) (rows_by row_of xs) (rows_by row_of ys)

-- one more record that is a row
pub rows_push : {A E : Type 0} (row_of : List (List ℕ) → Result A E) (done : List (List (List ℕ))) (rows : List A) (fields : List (List ℕ)) (row : A)
    → rows_by row_of done ≡ Ok rows → row_of fields ≡ Ok row → rows_by row_of (done ++ fields ∷ []) ≡ Ok (rows ++ row ∷ [])
rows_push row_of done rows fields row d r = rows_by-append row_of done (fields ∷ []) ∙ rw (d, r) refl

-- a record that is no row, whatever follows
pub rows_stop : {A E : Type 0} (row_of : List (List ℕ) → Result A E) (done : List (List (List ℕ))) (rows : List A) (fields : List (List ℕ)) (others : List (List (List ℕ))) (why : E)
    → rows_by row_of done ≡ Ok rows → row_of fields ≡ Err why → rows_by row_of (done ++ fields ∷ others) ≡ Err (length rows, why)
rows_stop row_of done rows fields others why d r =
    let same : length rows + 0 ≡ length rows = omega arith in
    rows_by-append row_of done (fields ∷ others) ∙ rw (d, r, same) refl
