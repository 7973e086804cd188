-- The record of a line without a quote: how many fields it has, and that it is the first behind a front.
use Rattle.std.proofs.Common.{◌≡◌, ◌≢◌, ◌∙◌, ◌≤◌, ◌<◌, ◌+◌, ◌-◌, ◌++◌, ℕ, List, [], ◌∷◌, length, length-append, Option, Some, None, get_or, take, drop, refl, sym, ap, subst, arith, Bool, true, false}
use Rattle.std.specs.Prelude.{◌==◌, ◌||◌, is_some, slice_get, Result, Ok, Err}
use Rattle.std.specs.Option.{option_eq}
use lib.Dec.{eqb}
use Rattle.std.proofs.lemmas.List.Elements.{All-from_get_or}
use Rattle.std.proofs.lemmas.Option.{get_or_from_slice_get}
use Rattle.std.proofs.Math.Seq.{take-length}
use Rattle.std.proofs.lemmas.Bool.{eqb-true, ne_eqb}
use Rattle.std.proofs.lemmas.List.{take-append-drop, take_more}
use Rattle.csv.specs.Machine.{step, in_field, ends_at_end, line_feed, next_record}
use Rattle.csv.specs.Reading.{default_config, records, records_from, strip_bom}
use Rattle.csv.specs.declared.parser.State.{State}
use Rattle.csv.specs.declared.parser.State.TheVariants as st
use Rattle.omega_model.specs.Columns.{BadColumn, with_fields}
use Rattle.omega_model.specs.Refusals.{bad_row}
use Rattle.omega_model.specs.Rows.{records_of, rows_by}
use Rattle.omega_model.specs.declared.results.Cause.TheVariants.{Fields}
use Rattle.omega_model.specs.declared.results.Status.TheVariants as status
use Rattle.omega_model.specs.declared.rows.Table.{Table}
use Rattle.omega_tables.specs.Cutting.{commas_before_end, ComesBehind, double_quote, mark_byte}
use Rattle.omega_tables.proofs.Cutting.{all_from, records_are, cut_records, unmarked_text, other_byte}

-- the first of these records has so many fields
abbrev pub FirstIs : List (List (List ℕ)) → ℕ → Type 0
FirstIs rows number = (first : List (List ℕ)) × (others : List (List (List ℕ))) × (rows ≡ first ∷ others) × (length first ≡ number)

-- a field is at hand, or begins
abbrev pub Inside : State → Type 0
Inside s = (ends_at_end s ≡ true) × ((c : ℕ) → (c == 34) ≡ false → step default_config s c ≡ in_field default_config c)

inside_field : Inside st.InField
inside_field = (refl, λ c e. refl)

inside_start : Inside st.StartField
inside_start = (refl, λ c e. rw e refl)

-- within a line there is one field more than there are commas
fields_left : (s : State) (fields : List (List ℕ)) (field text : List ℕ) (before commas number : ℕ) → Inside s
    → commas_before_end before text ≡ Some commas → number + before ≡ length fields + 1 + commas
    → FirstIs (all_from default_config s fields field text) number
fields_left s fields field [] before commas number inside is sum =
    let same : before ≡ commas = cc is in
    let one = length-append fields (field ∷ []) in
    rw inside.0 (fields ++ field ∷ [], [], refl, omega (arith, same, one, sum))
fields_left s fields field (c ∷ rest) before commas number inside is sum =
    by (c == 34) (c == 44) ((c == 13) || (c == 10)) refl refl refl
    (fields_left st.StartField (fields ++ field ∷ []) [] rest (before + 1) commas number inside_start)
    (fields_left st.InField fields (field ++ c ∷ []) rest before commas number inside_field) is
  where
    one : length (fields ++ field ∷ []) ≡ length fields + 1
    one = length-append fields (field ∷ [])

    by : (quote comma ends : Bool) → (c == 34) ≡ quote → (c == 44) ≡ comma → ((c == 13) || (c == 10)) ≡ ends
        → (commas_before_end (before + 1) rest ≡ Some commas → number + (before + 1) ≡ length (fields ++ field ∷ []) + 1 + commas
        → FirstIs (all_from default_config st.StartField (fields ++ field ∷ []) [] rest) number)
        → (commas_before_end before rest ≡ Some commas → number + before ≡ length fields + 1 + commas
        → FirstIs (all_from default_config st.InField fields (field ++ c ∷ []) rest) number)
        → commas_before_end before (c ∷ rest) ≡ Some commas
        → FirstIs (all_from default_config s fields field (c ∷ rest)) number
    by true comma ends a b d new same is = cc (rw a at is)
    by false true ends a b d new same is = rw (inside.1 c a, b) (new (rw (a, b) at is) (omega (arith, one, sum)))
    by false false true a b d new same is =
        let none : before ≡ commas = cc (rw (a, b, d) at is) in
        rw (inside.1 c a, b, d) (fields ++ field ∷ [], _, refl, omega (arith, none, one, sum))
    by false false false a b d new same is = rw (inside.1 c a, b, d) (same (rw (a, b, d) at is) sum)

-- a byte that isn't the end of a line begins a record
begun : (c : ℕ) (rest : List ℕ) → (c == 34) ≡ false → ((c == 13) || (c == 10)) ≡ false
    → all_from default_config st.StartRecord [] [] (c ∷ rest) ≡ all_from default_config st.InField [] [] (c ∷ rest)
begun c rest quote ends = rw (ends, quote) refl

-- the first record of a text whose first line has a comma
first_record : (text : List ℕ) (commas : ℕ) → commas_before_end 0 text ≡ Some commas → 0 < commas
    → FirstIs (all_from default_config st.StartRecord [] [] text) (commas + 1)
first_record [] commas is some =
    let none : 0 ≡ commas = cc is in
    absurd (omega (arith, none, some))
first_record (c ∷ rest) commas is some = by (c == 34) (c == 44) ((c == 13) || (c == 10)) refl refl refl is
  where
    line : (c == 34) ≡ false → ((c == 13) || (c == 10)) ≡ false → FirstIs (all_from default_config st.StartRecord [] [] (c ∷ rest)) (commas + 1)
    line quote ends = rw (begun c rest quote ends) (fields_left st.InField [] [] (c ∷ rest) 0 commas (commas + 1) inside_field is (omega arith))

    by : (quote comma ends : Bool) → (c == 34) ≡ quote → (c == 44) ≡ comma → ((c == 13) || (c == 10)) ≡ ends
        → commas_before_end 0 (c ∷ rest) ≡ Some commas → FirstIs (all_from default_config st.StartRecord [] [] (c ∷ rest)) (commas + 1)
    by true comma ends a b d is = cc (rw a at is)
    by false true ends a b d is = line a (rw (eqb-true c 44 b) refl)
    by false false true a b d is =
        let none : 0 ≡ commas = cc (rw (a, b, d) at is) in
        absurd (omega (arith, none, some))
    by false false false a b d is = line a d

-- behind a front comes a line with a comma
pub line_behind : (text front back : List ℕ) (start commas : ℕ) → front ≡ take start text → back ≡ drop start text
    → records_of (front ++ back) ≡ records_of front ++ records default_config back
    → commas_before_end 0 back ≡ Some commas → 0 < commas → ComesBehind text front (commas + 1)
line_behind text front back start commas f b cut is some =
    let first = first_record back commas is some in
    let whole : text ≡ front ++ back = sym (take-append-drop start text) ∙ rw (f, b) refl in (
      first.0,
      first.1,
      ap records_of whole ∙ cut ∙ ap (λ (rows : List (List (List ℕ))). records_of front ++ rows) (records_are default_config back ∙ first.2),
      first.3,
    )

-- nothing stands before a text
pub no_front : (front back : List ℕ) → length front ≡ 0 → false ≡ option_eq eqb (slice_get back 0) (Some mark_byte)
    → records_of (front ++ back) ≡ records_of front ++ records default_config back
unfolding strip_bom records_from next_record
no_front [] back none unmarked = ap (records default_config) (unmarked_text back (other_byte back unmarked))
no_front (byte ∷ front) back none unmarked = absurd (omega (arith, none))

-- what equals a byte is it
is_byte_there : (found : Option ℕ) (byte : ℕ) → option_eq eqb found (Some byte) ≡ true → found ≡ Some byte
is_byte_there None byte is = cc is
is_byte_there (Some other) byte is = ap Some (eqb-true other byte is)

-- whole lines without a quote stand before it
pub lines_front : (front back : List ℕ) → 4 ≤ length front → true ≡ option_eq eqb (slice_get front (length front - 1)) (Some line_feed)
    → ((place : ℕ) → 0 ≤ place → place < length front → ¬ ((get_or front place 0 == double_quote) ≡ true))
    → false ≡ option_eq eqb (slice_get back 0) (Some mark_byte)
    → records_of (front ++ back) ≡ records_of front ++ records default_config back
lines_front front back long last plain unmarked =
    let within : length front - 1 < length front = omega (arith, long) in
    let all : length front ≡ length front - 1 + 1 = omega (arith, long) in
    let byte : get_or front (length front - 1) 0 ≡ line_feed = get_or_from_slice_get front (length front - 1) line_feed 0 (is_byte_there (slice_get front (length front - 1)) line_feed (sym last)) in
    let whole : front ≡ take (length front - 1) front ++ line_feed ∷ [] =
    sym (take-length front) ∙ ap (λ (n : ℕ). take n front) all ∙ take_more front (length front - 1) 0 within
    ∙ ap (λ (c : ℕ). take (length front - 1) front ++ c ∷ []) byte in
    let mark = other_byte back unmarked in
    cut_records front back record {
      line = (take (length front - 1) front, whole);
      unquoted = All-from_get_or (λ byte. byte ≢ double_quote) front 0 (λ place lt e. plain place (omega arith) lt (rw e refl));
      long = long;
      unmarked = mark;
    }
    ∙ ap (λ (text : List ℕ). records_of front ++ records default_config text) (unmarked_text back mark)

-- a record with another number of fields is bad
pub other_fields : {A : Type 0} (number : ℕ) (fields : List (List ℕ)) (row : Result A BadColumn) → length fields ≢ number
    → with_fields number fields row ≡ Err (0, Fields (length fields))
other_fields number fields row other = rw (ne_eqb (length fields) number other) refl

-- the refusal of a record with a wrong number of fields, behind records that are rows
pub refused_behind : {A : Type 0} (row_of : List (List ℕ) → Result A BadColumn) (table : Table) (fields : List (List ℕ)) (others : List (List (List ℕ))) (number : ℕ)
    → row_of fields ≡ Err (0, Fields number) → bad_row table (rows_by row_of (fields ∷ others)) ≡ Some (status.BadRow table 1 0 (Fields number))
refused_behind row_of table fields others number is = rw is refl

-- the same where the record comes behind a front
pub law_behind : {A : Type 0} (row_of : List (List ℕ) → Result A BadColumn) (columns number : ℕ) (fields : List (List ℕ))
    → ((fields : List (List ℕ)) → length fields ≢ columns → row_of fields ≡ Err (0, Fields (length fields)))
    → length fields ≡ number → number ≢ columns → row_of fields ≡ Err (0, Fields number)
law_behind row_of columns number fields law is other = subst (λ (n : ℕ). row_of fields ≡ Err (0, Fields n)) is (law fields (λ e. other (sym is ∙ e)))
