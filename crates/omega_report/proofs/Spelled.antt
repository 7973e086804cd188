-- The bytes that spell a word, and the word that is read in them.
use Rattle.std.proofs.Common.{◌≡◌, ℕ, ◌^◌, ◌<◌, ◌≤◌, ◌==◌, true, false, List, [], ◌∷◌, ◌++◌, length, refl, ap, ◌∙◌, arith, decimal, inl, inr}
use Rattle.std.specs.Prelude.{nat_le, ◌&&◌, not}
use Rattle.std.specs.List.{list_all}
use Rattle.std.specs.Str.Parse.{AllDigits, digits_value}
use Rattle.std.proofs.lemmas.Bool.{and_parts, or_cases, eqb-true, leb-true, ltb-true}
use Rattle.std.proofs.lemmas.Bool.Decides.{nat_tests}
use Rattle.std.proofs.lemmas.Fmt.{decimal_is_IsNumeral}
use Rattle.std.proofs.lemmas.Str.Parse.{digit_from_value}
use Rattle.omega_model.specs.Report.{Line, Word, Name, Number, word_text}
use Rattle.omega_model.specs.ReportForms.{is_plain, is_plain_byte}
use Rattle.omega_model.specs.Work.{is_empty}
use Rattle.omega_report.specs.Spelling.{are_short, is_short}
use Rattle.omega_report.specs.Readings.{is_digit, is_end, is_gap, is_mark, words_read}

-- a byte of a word: it marks, parts and ends nothing
pub record IsSpelled (byte : ℕ) : Type 0 where
  pub mark : is_mark byte ≡ false
  pub gap : is_gap byte ≡ false
  pub ending : is_end byte ≡ false

-- each of these bytes is one of a word
abbrev pub AreSpelled : List ℕ → Type 0
AreSpelled [] = Unit {0}
AreSpelled (byte ∷ bytes) = IsSpelled byte × AreSpelled bytes

-- some bytes spell a word
pub record Spells (bytes : List ℕ) (word : Word) : Type 0 where
  pub spelled : AreSpelled bytes
  pub read : (words : Line) → words_read words bytes ≡ words ++ word ∷ []

-- ---- bytes by their codes

low : (byte : ℕ) → 45 ≤ byte → byte ≤ 57 → IsSpelled byte
low byte above below = record {
  mark = grind (arith, nat_tests);
  gap = grind (arith, nat_tests);
  ending = grind (arith, nat_tests);
}

high : (byte : ℕ) → 97 ≤ byte → IsSpelled byte
high byte above = record {
  mark = grind (arith, nat_tests);
  gap = grind (arith, nat_tests);
  ending = grind (arith, nat_tests);
}

letter : (byte : ℕ) → (nat_le 97 byte && nat_le byte 122) ≡ true → 97 ≤ byte
letter byte plain = leb-true 97 byte (and_parts (nat_le 97 byte) _ plain).0

plain_spelled : (byte : ℕ) → is_plain_byte byte ≡ true → IsSpelled byte
plain_spelled byte plain = elim (or_cases (byte == 45) _ plain) [
  | inl dash ↦ let e = eqb-true byte 45 dash in low byte (omega arith) (omega arith)
  | inr small ↦ high byte (letter byte small)
]

pub no_digit : (byte : ℕ) → is_plain_byte byte ≡ true → is_digit byte ≡ false
no_digit byte plain = elim (or_cases (byte == 45) _ plain) [
  | inl dash ↦ let e = eqb-true byte 45 dash in grind (arith, nat_tests)
  | inr small ↦ let above = letter byte small in grind (arith, nat_tests)
]

-- ---- names

name_spelled : (name : List ℕ) → list_all is_plain_byte name ≡ true → AreSpelled name
name_spelled [] plain = tt
name_spelled (byte ∷ bytes) plain =
    let parts = and_parts (is_plain_byte byte) (list_all is_plain_byte bytes) plain in
    (plain_spelled byte parts.0, name_spelled bytes parts.1)

pub bytes_plain : (name : List ℕ) → is_plain (Name name) ≡ true → list_all is_plain_byte name ≡ true
bytes_plain name plain = (and_parts (not (is_empty name)) (list_all is_plain_byte name) plain).1

name_read : (name : List ℕ) → is_plain (Name name) ≡ true → (words : Line) → words_read words name ≡ words ++ Name name ∷ []
name_read [] plain words = cc
name_read (byte ∷ bytes) plain words =
    let parts = and_parts (is_plain_byte byte) (list_all is_plain_byte bytes) (bytes_plain (byte ∷ bytes) plain) in
    rw (no_digit byte parts.0) refl

-- ---- numbers

digits_spelled : (digits : List ℕ) → AllDigits 10 digits → AreSpelled digits
digits_spelled [] all = tt
digits_spelled (digit ∷ digits) all =
    let range = digit_from_value digit all.0 in (low digit (omega arith) (omega arith), digits_spelled digits all.1)

pub is_read : (digit : ℕ) → 48 ≤ digit → digit ≤ 57 → is_digit digit ≡ true
is_read digit above below = grind (arith, nat_tests)

digits_read : (digits : List ℕ) → 0 < length digits → AllDigits 10 digits
    → (words : Line) → words_read words digits ≡ words ++ Number (digits_value 10 digits) ∷ []
digits_read [] some all words = absurd (omega arith)
digits_read (digit ∷ digits) some all words =
    let range = digit_from_value digit all.0 in rw (is_read digit (omega arith) (omega arith)) refl

-- ---- words

word_spelled : (word : Word) → is_plain word ≡ true → is_short word ≡ true → Spells (word_text word) word
word_spelled (Name []) plain short = cc
word_spelled (Name (byte ∷ bytes)) plain short = record {
  spelled = name_spelled (byte ∷ bytes) (bytes_plain (byte ∷ bytes) plain);
  read = name_read (byte ∷ bytes) plain;
}
word_spelled (Number number) plain short =
    let numeral = decimal_is_IsNumeral number (ltb-true number (2 ^ 64) short) in
    record {
      spelled = digits_spelled (decimal number) numeral.0.1;
      read = λ words. digits_read (decimal number) numeral.0.0 numeral.0.1 words ∙ ap (λ (n : ℕ). words ++ Number n ∷ []) numeral.1;
    }

-- each word of a line is spelled by its bytes
abbrev pub AreWords : Line → Type 0
AreWords [] = Unit {0}
AreWords (word ∷ line) = Spells (word_text word) word × AreWords line

pub line_words : (line : Line) → list_all is_plain line ≡ true → are_short line ≡ true → AreWords line
line_words [] plain short = tt
line_words (word ∷ line) plain short =
    let plains = and_parts (is_plain word) (list_all is_plain line) plain in
    let shorts = and_parts (is_short word) (are_short line) short in
    (word_spelled word plains.0 shorts.0, line_words line plains.1 shorts.1)
