-- Records of a table's bytes, and the typed rows of records.
use Rattle.std.specs.Prelude.{ℕ, ◌+◌, ◌-◌, List, [], ◌∷◌, Result, Ok, Err, get_or}
use Rattle.csv.specs.Reading.{default_config, records, strip_bom}

-- the records of a table: fields are parted by commas and may stand between double quotes, there is no header
-- row, and a byte order mark is dropped
abbrev pub records_of : List ℕ → List (List (List ℕ))
records_of bytes = records default_config (strip_bom bytes)

-- the field in a column, counted from 1
abbrev pub column : List (List ℕ) → ℕ → List ℕ
column fields number = get_or fields (number - 1) []

-- the first record's row, and then the rows of the others
abbrev pub with_first : {A E : Type 0} → Result A E → Result (List A) (ℕ × E) → Result (List A) (ℕ × E)
with_first (Err why) others = Err (0, why)
with_first (Ok row) (Ok rows) = Ok (row ∷ rows)
with_first (Ok row) (Err (place, why)) = Err (place + 1, why)

-- the typed rows of records in their order, or the place of the first record that is no row, and why
abbrev pub rows_by : {A E : Type 0} → (List (List ℕ) → Result A E) → List (List (List ℕ)) → Result (List A) (ℕ × E)
rows_by row_of [] = Ok []
rows_by row_of (fields ∷ others) = with_first (row_of fields) (rows_by row_of others)

-- the typed rows of a table's bytes, or the place of the first record that is no row, and why
abbrev pub rows_in : {A E : Type 0} → (List (List ℕ) → Result A E) → List ℕ → Result (List A) (ℕ × E)
rows_in row_of bytes = rows_by row_of (records_of bytes)

-- the rows, and none where a record is no row
abbrev pub rows_or_none : {A E : Type 0} → Result (List A) E → List A
rows_or_none (Ok rows) = rows
rows_or_none (Err why) = []
