-- Texts that are made of rows, and what a reader of tables makes of them.
use Rattle.std.proofs.Common.{◌≡◌, ℕ, zero, suc, ◌+◌, ◌*◌, ◌<◌, ◌≤◌, List, [], ◌∷◌, ◌++◌, length, Some, None, Ok, refl, sym, ap, ◌∙◌, arith, length-append}
use Rattle.std.specs.Prelude.{Result}
use Rattle.std.specs.List.{flat_map, join_with_byte, range_with_len, AllByRecursion as Each}
use Rattle.std.proofs.lemmas.Grind.{flat_map-append}
use Rattle.std.proofs.lemmas.List.{append-nil}
use Rattle.csv.specs.Machine.{next_record}
use Rattle.csv.specs.Reading.{default_config, records, strip_bom, Reached}
use Rattle.csv.specs.declared.parser.State.TheVariants as st
use Rattle.omega_model.specs.Columns.{BadColumn}
use Rattle.omega_model.specs.Generated.{row_text}
use Rattle.omega_model.specs.Rows.{rows_by, rows_in, records_of}
use Rattle.omega_model.proofs.Lists.{each_append}
use Rattle.omega_model.proofs.Records.{are_all}

-- the text of some fields is read as these fields, is no byte order mark, is short, and is a row of its table
pub record IsRow {A : Type 0} (row_of : List (List ℕ) → Result A BadColumn) (fields : List (List ℕ)) : Type 0 where
  pub reads : (tail : List ℕ) → next_record default_config st.StartRecord [] [] (row_text fields ++ tail) ≡ Some (fields, st.StartRecord, tail)
  pub unmarked : (tail : List ℕ) → strip_bom (row_text fields ++ tail) ≡ row_text fields ++ tail
  pub short : length (row_text fields) ≤ 200
  pub typed : (row : A) × (row_of fields ≡ Ok row)

-- how long some fields are, each with a byte behind it
abbrev pub width : List (List ℕ) → ℕ
width [] = 0
width (field ∷ others) = length field + 1 + width others

joined_length : (field : List ℕ) (others : List (List ℕ)) → length (join_with_byte 44 (field ∷ others)) + 1 ≤ width (field ∷ others)
joined_length field [] = omega arith
joined_length field (next ∷ others) =
    let rest = joined_length next others in
    let both = length-append field (44 ∷ join_with_byte 44 (next ∷ others)) in
    omega (arith, rest, both)

-- so long is a row
pub row_length : (field : List ℕ) (others : List (List ℕ)) → length (row_text (field ∷ others)) ≤ width (field ∷ others)
row_length field others =
    omega (arith, joined_length field others, length-append (join_with_byte 44 (field ∷ others)) (10 ∷ []))

-- a text is made of so many rows at most
pub record AreRows {A : Type 0} (row_of : List (List ℕ) → Result A BadColumn) (text : List ℕ) (most : ℕ) : Type 0 where
  pub fields : List (List (List ℕ))
  pub made : text ≡ flat_map row_text fields
  pub each : Each (IsRow row_of) fields
  pub few : length fields ≤ most

pub no_rows : {A : Type 0} (row_of : List (List ℕ) → Result A BadColumn) (most : ℕ) → AreRows row_of [] most
no_rows row_of most = record { fields = []; made = refl; each = tt; few = omega arith }

pub one_row : {A : Type 0} (row_of : List (List ℕ) → Result A BadColumn) (fields : List (List ℕ)) → IsRow row_of fields → AreRows row_of (row_text fields) 1
one_row row_of fields is = record {
  fields = fields ∷ [];
  made = sym (append-nil (row_text fields));
  each = (is, tt);
  few = omega arith;
}

pub more_rows : {A : Type 0} (row_of : List (List ℕ) → Result A BadColumn) (text : List ℕ) (few most : ℕ) → few ≤ most → AreRows row_of text few → AreRows row_of text most
more_rows row_of text few most less rows =
    let count = rows.few in
    record { fields = rows.fields; made = rows.made; each = rows.each; few = omega arith }

pub both_rows : {A : Type 0} (row_of : List (List ℕ) → Result A BadColumn) (one other : List ℕ) (m n : ℕ)
    → AreRows row_of one m → AreRows row_of other n → AreRows row_of (one ++ other) (m + n)
both_rows row_of one other m n first second =
    let count = length-append first.fields second.fields in
    let few = first.few in
    let more = second.few in
    record {
      fields = first.fields ++ second.fields;
      made =
          ap (λ text. text ++ other) first.made
          ∙ ap (λ text. flat_map row_text first.fields ++ text) second.made
          ∙ sym (flat_map-append row_text first.fields second.fields);
      each = each_append (IsRow row_of) first.fields second.fields first.each second.each;
      few = omega arith;
    }

-- rows for each number of a range
pub range_rows : {A : Type 0} (row_of : List (List ℕ) → Result A BadColumn) (text : ℕ → List ℕ) (most low count : ℕ)
    → ((number : ℕ) → low ≤ number → number < low + count → AreRows row_of (text number) most)
    → AreRows row_of (flat_map text (range_with_len low count)) (count * most)
range_rows row_of text most low zero rows = no_rows row_of (0 * most)
range_rows row_of text most low (suc count) rows =
    let later = range_rows row_of text most (low + 1) count (λ number from below. rows number (omega arith) (omega arith)) in
    more_rows row_of (text low ++ flat_map text (range_with_len (low + 1) count)) (most + count * most) (suc count * most) (omega arith)
    (both_rows row_of (text low) (flat_map text (range_with_len (low + 1) count)) most (count * most)
    (rows low (omega arith) (omega arith)) later)

reached : {A : Type 0} (row_of : List (List ℕ) → Result A BadColumn) (fields : List (List (List ℕ))) → Each (IsRow row_of) fields
    → Reached default_config st.StartRecord (flat_map row_text fields) fields st.StartRecord []
unfolding Reached
reached row_of [] each = (refl, refl)
reached row_of (row ∷ rows) each =
    ((row, st.StartRecord, flat_map row_text rows), each.0.reads (flat_map row_text rows), refl, reached row_of rows each.1)

unmarked : {A : Type 0} (row_of : List (List ℕ) → Result A BadColumn) (fields : List (List (List ℕ))) → Each (IsRow row_of) fields
    → strip_bom (flat_map row_text fields) ≡ flat_map row_text fields
unfolding strip_bom
unmarked row_of [] each = refl
unmarked row_of (row ∷ rows) each = each.0.unmarked (flat_map row_text rows)

at_the_end : next_record default_config st.StartRecord [] [] [] ≡ None
unfolding next_record
at_the_end = refl

-- the records of the text are those of which it was made
records_are : {A : Type 0} (row_of : List (List ℕ) → Result A BadColumn) (text : List ℕ) (most : ℕ) (rows : AreRows row_of text most)
    → records_of text ≡ rows.fields
records_are row_of text most rows =
    ap (λ bytes. records default_config (strip_bom bytes)) rows.made
    ∙ ap (λ bytes. records default_config bytes) (unmarked row_of rows.fields rows.each)
    ∙ are_all default_config (flat_map row_text rows.fields) rows.fields st.StartRecord [] (reached row_of rows.fields rows.each) at_the_end

all_typed : {A : Type 0} (row_of : List (List ℕ) → Result A BadColumn) (fields : List (List (List ℕ))) → Each (IsRow row_of) fields
    → (typed : List A) × (rows_by row_of fields ≡ Ok typed) × (length typed ≡ length fields)
all_typed row_of [] each = ([], refl, refl)
all_typed row_of (row ∷ rows) each =
    let first = each.0.typed in
    let others = all_typed row_of rows each.1 in
    (first.0 ∷ others.0, rw (first.1, others.1) refl, ap suc others.2)

-- the typed rows of the text, as many at most
pub typed_rows : {A : Type 0} (row_of : List (List ℕ) → Result A BadColumn) (text : List ℕ) (most : ℕ) → AreRows row_of text most
    → (typed : List A) × (rows_in row_of text ≡ Ok typed) × (length typed ≤ most)
typed_rows row_of text most rows =
    let all = all_typed row_of rows.fields rows.each in
    let few = rows.few in
    (all.0, ap (λ fields. rows_by row_of fields) (records_are row_of text most rows) ∙ all.1, omega (arith, all.2))

all_short : {A : Type 0} (row_of : List (List ℕ) → Result A BadColumn) (fields : List (List (List ℕ))) → Each (IsRow row_of) fields
    → length (flat_map row_text fields) ≤ 200 * length fields
all_short row_of [] each = omega arith
all_short row_of (row ∷ rows) each =
    let first = each.0.short in
    let others = all_short row_of rows each.1 in
    let both = length-append (row_text row) (flat_map row_text rows) in
    omega (arith, first, others, both)

-- how long the text is at most
pub text_length : {A : Type 0} (row_of : List (List ℕ) → Result A BadColumn) (text : List ℕ) (most : ℕ) → AreRows row_of text most
    → length text ≤ 200 * most
text_length row_of text most rows =
    let few = rows.few in
    omega (arith, few, ap length rows.made, all_short row_of rows.fields rows.each)
