-- What a reader of tables makes of the numbers that stand in generated rows.
use Rattle.std.proofs.Common.{◌≡◌, ℕ, zero, suc, ◌+◌, ◌%◌, ◌<◌, ◌≤◌, ◌^◌, Bool, true, List, [], ◌∷◌, ◌++◌, length, Some, Ok, Err, decimal, refl, sym, ap, ◌∙◌, inl, inr, arith, ltb, leb}
use Rattle.std.specs.Prelude.{Result}
use Rattle.std.specs.List.{list_all, range_with_len}
use Rattle.std.specs.Result.{is_ok}
use Rattle.std.specs.Str.{all_ascii_digits}
use Rattle.std.specs.Str.Parse.{digits_value}
use Rattle.std.proofs.lemmas.Bool.{and_parts, cases_lt, le-leb, lt-ltb}
use Rattle.std.proofs.lemmas.Fmt.{decimal_by_steps, decimal_nonempty, digits_decimal, digits_value-decimal, length-decimal-le}
use Rattle.std.proofs.lemmas.Str.Parse.{IsNumeralModel, numerals_by_value, tells_all_ascii_digits}
use Rattle.omega_model.specs.Columns.{amount_up, blank_or_bounded, bounded, in_range}
use Rattle.omega_model.specs.Generated.{thousandths}
use Rattle.omega_model.specs.Numbers.{ten_to, whole}

-- a text begins with a digit
pub record BeginsWithDigit (text : List ℕ) : Type 0 where
  pub digit : ℕ
  pub others : List ℕ
  pub small : digit < 58
  pub is : text ≡ digit ∷ others

-- a number does
pub first_digit : (number : ℕ) → number < 2 ^ 64 → BeginsWithDigit (decimal number)
first_digit =
    decimal_by_steps (λ number text. BeginsWithDigit text)
    (λ number small. record { digit = 48 + number; others = []; small = omega arith; is = refl })
    (λ number text more begins. record {
      digit = begins.digit;
      others = begins.others ++ (48 + number % 10) ∷ [];
      small = begins.small;
      is = ap (λ front. front ++ (48 + number % 10) ∷ []) begins.is;
    })

digits_model : IsNumeralModel (λ text. all_ascii_digits text ≡ true) (digits_value 10)
digits_model = numerals_by_value (λ text. all_ascii_digits text ≡ true) tells_all_ascii_digits

-- a number is read from its digits
pub whole_decimal : (number : ℕ) → number < 2 ^ 64 → whole (decimal number) ≡ Some number
whole_decimal number small =
    let digits : all_ascii_digits (decimal number) ≡ true = digits_decimal digits_model number small in
    let value : digits_value 10 (decimal number) ≡ number = digits_value-decimal digits_model number small in
    let some : ltb 0 (length (decimal number)) ≡ true = lt-ltb 0 (length (decimal number)) (decimal_nonempty number small) in
    let twenty : length (decimal number) ≤ 20 = length-decimal-le 20 number (omega arith) (omega arith) small in
    let short : leb (length (decimal number)) 32 ≡ true = le-leb (length (decimal number)) 32 (omega arith) in
    let fits : ltb number (2 ^ 64) ≡ true = lt-ltb number (2 ^ 64) small in
    rw (some, digits, short, value, fits) refl

-- so is one up to the greatest of its column
pub bounded_decimal : (greatest number : ℕ) → number ≤ greatest → number < 2 ^ 64 → bounded greatest (decimal number) ≡ Ok number
bounded_decimal greatest number less small =
    let test : leb number greatest ≡ true = le-leb number greatest less in
    ap (λ read. in_range greatest read) (whole_decimal number small) ∙ rw test refl

not_blank : (greatest : ℕ) (text : List ℕ) (digit : ℕ) (others : List ℕ) → text ≡ digit ∷ others
    → blank_or_bounded greatest text ≡ bounded greatest text
not_blank greatest text digit others is = rw is refl

-- and in a column that may be blank
pub blank_or_decimal : (greatest number : ℕ) → number ≤ greatest → number < 2 ^ 64 → blank_or_bounded greatest (decimal number) ≡ Ok number
blank_or_decimal greatest number less small =
    let begins = first_digit number small in
    not_blank greatest (decimal number) begins.digit begins.others begins.is ∙ bounded_decimal greatest number less small

all_in_range : (p : ℕ → Bool) (low count : ℕ) → list_all p (range_with_len low count) ≡ true
    → (number : ℕ) → low ≤ number → number < low + count → p number ≡ true
all_in_range p low zero all number from below = absurd (omega arith)
all_in_range p low (suc count) all number from below =
    let parts = and_parts (p low) (list_all p (range_with_len (low + 1) count)) all in
    elim (cases_lt low number) [
      | inl later ↦ all_in_range p (low + 1) count parts.1 number (omega arith) (omega arith)
      | inr first ↦ let same : low ≡ number = omega arith in ap p (sym same) ∙ parts.0
    ]

-- whether so many thousandths are read as an amount
abbrev is_amount : ℕ → Bool
is_amount amount = is_ok (amount_up (thousandths amount))

few_amounts : list_all is_amount (range_with_len 0 26) ≡ true
unfolding ten_to
few_amounts = refl

more_amounts : list_all is_amount (range_with_len 26 25) ≡ true
unfolding ten_to
more_amounts = refl

value_of : {A E : Type 0} (answer : Result A E) → is_ok answer ≡ true → (value : A) × (answer ≡ Ok value)
value_of (Ok value) ok = (value, refl)
value_of (Err why) ok = absurd (cc ok)

-- thousandths are read as an amount
pub thousandths_read : (amount : ℕ) → amount ≤ 50 → (units : ℕ) × (amount_up (thousandths amount) ≡ Ok units)
thousandths_read amount small = value_of (amount_up (thousandths amount)) (
    elim (cases_lt amount 26) [
      | inl few ↦ all_in_range is_amount 0 26 few_amounts amount (omega arith) (omega arith)
      | inr more ↦ all_in_range is_amount 26 25 more_amounts amount more (omega arith)
    ])
