-- Rows whose fields have no mark of the format: a reader of tables takes them as they stand.
use Rattle.std.proofs.Common.{◌≡◌, ◌==◌, ℕ, ◌+◌, ◌/◌, ◌%◌, ◌<◌, ◌^◌, Bool, true, false, List, [], ◌∷◌, ◌++◌, Some, codes, decimal, refl, sym, ap, ◌∙◌, arith, if◌then◌else◌}
use Rattle.std.specs.List.{join_with_byte, list_any}
use Rattle.std.proofs.lemmas.Bool.{ne_eqb}
use Rattle.std.proofs.lemmas.Fmt.{decimal_by_steps}
use Rattle.std.proofs.lemmas.List.{append-nil}
use Rattle.std.proofs.lemmas.List.Folds.{list_any-append}
use Rattle.csv.specs.Machine.{next_record}
use Rattle.csv.specs.Quoting.{needs_byte}
use Rattle.csv.specs.Reading.{default_config}
use Rattle.csv.specs.Writing.{default_writer, field_text, fields_text, is_blank, row_text as quoted_row_text}
use Rattle.csv.specs.declared.parser.State.TheVariants as st
use Rattle.csv.proofs.RoundTrip.{read-write-many}
use Rattle.omega_model.specs.Generated.{capacity_text, row_text, thousandths}

-- a text has no mark of the format
abbrev pub IsPlain : List ℕ → Type 0
IsPlain text = list_any (needs_byte default_writer) text ≡ false

-- no field has one
abbrev pub ArePlain : List (List ℕ) → Type 0
ArePlain [] = Unit {0}
ArePlain (field ∷ fields) = IsPlain field × ArePlain fields

plain_digit : (digit : ℕ) → digit < 10 → needs_byte default_writer (48 + digit) ≡ false
plain_digit digit small =
    let comma : (48 + digit == 44) ≡ false = ne_eqb (48 + digit) 44 (λ e. omega arith) in
    let quote : (48 + digit == 34) ≡ false = ne_eqb (48 + digit) 34 (λ e. omega arith) in
    let return : (48 + digit == 13) ≡ false = ne_eqb (48 + digit) 13 (λ e. omega arith) in
    let line : (48 + digit == 10) ≡ false = ne_eqb (48 + digit) 10 (λ e. omega arith) in
    rw (comma, quote, return, line) refl

plain_one : (digit : ℕ) → digit < 10 → IsPlain ((48 + digit) ∷ [])
plain_one digit small = rw (plain_digit digit small) refl

plain_both : (one other : List ℕ) → IsPlain one → IsPlain other → IsPlain (one ++ other)
plain_both one other first second = list_any-append (needs_byte default_writer) one other ∙ rw (first, second) refl

-- a number has no mark
pub plain_decimal : (number : ℕ) → number < 2 ^ 64 → IsPlain (decimal number)
plain_decimal =
    decimal_by_steps (λ number text. IsPlain text) plain_one
    (λ number text more plain. plain_both text ((48 + number % 10) ∷ []) plain (plain_one (number % 10) (omega arith)))

-- nor have thousandths
pub plain_thousandths : (amount : ℕ) → amount < 100 → IsPlain (thousandths amount)
plain_thousandths amount small =
    plain_both (codes "0.0") ((48 + amount / 10) ∷ (48 + amount % 10) ∷ []) refl
    (plain_both ((48 + amount / 10) ∷ []) ((48 + amount % 10) ∷ []) (plain_one (amount / 10) (omega arith)) (plain_one (amount % 10) (omega arith)))

chosen : (P : List ℕ → Type 0) (half most : Bool) → P (codes "0.5") → P (codes "0.75") → P (codes "1")
    → P (if half then codes "0.5" else (if most then codes "0.75" else codes "1"))
chosen P true most one two three = one
chosen P false true one two three = two
chosen P false false one two three = three

-- what holds of the three capacities holds of every machine's
pub capacity_is : (P : List ℕ → Type 0) (word : ℕ) → P (codes "0.5") → P (codes "0.75") → P (codes "1") → P (capacity_text word)
capacity_is P word = chosen P (word % 3 == 0) (word % 3 == 1)

plain_field : (field : List ℕ) → IsPlain field → field_text default_writer field ≡ field
plain_field field plain = rw plain refl

joined : (field : List ℕ) (others : List (List ℕ)) → IsPlain field → ArePlain others
    → join_with_byte 44 (field ∷ others) ≡ field_text default_writer field ++ fields_text default_writer others
unfolding fields_text
joined field [] plain others_plain = sym (append-nil field) ∙ ap (λ text. text ++ []) (sym (plain_field field plain))
joined field (next ∷ others) plain others_plain =
    ap (λ text. field ++ 44 ∷ text) (joined next others others_plain.0 others_plain.1)
    ∙ ap (λ text. text ++ 44 ∷ (field_text default_writer next ++ fields_text default_writer others)) (sym (plain_field field plain))

quoted : (first second : List ℕ) (others : List (List ℕ)) → ArePlain (first ∷ second ∷ others)
    → row_text (first ∷ second ∷ others) ≡ quoted_row_text default_writer (first ∷ second ∷ others)
unfolding is_blank
quoted first second others plain = ap (λ text. text ++ 10 ∷ []) (joined first (second ∷ others) plain.0 plain.1)

-- the text of a row of two fields or more is read as that row, whatever follows
pub plain_row : (first second : List ℕ) (others : List (List ℕ)) → ArePlain (first ∷ second ∷ others) → (tail : List ℕ)
    → next_record default_config st.StartRecord [] [] (row_text (first ∷ second ∷ others) ++ tail) ≡ Some (first ∷ second ∷ others, st.StartRecord, tail)
plain_row first second others plain tail =
    ap (λ text. next_record default_config st.StartRecord [] [] (text ++ tail)) (quoted first second others plain)
    ∙ read-write-many first second others tail
