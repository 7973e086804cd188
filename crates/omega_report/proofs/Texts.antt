-- The words of a report by their bytes.
use Rattle.std.proofs.Common.{◌≡◌, ℕ, zero, suc, ◌/◌, ◌%◌, ◌<◌, ◌==◌, Bool, true, false, List, [], ◌∷◌, ◌++◌, map, decimal, refl, ap, arith}
use Rattle.std.specs.Prelude.{◌&&◌, not}
use Rattle.std.specs.Fmt.{digit_glyph, digits, digits_onto}
use Rattle.std.specs.List.{list_all}
use Rattle.std.proofs.lemmas.Bool.{and_parts}
use Rattle.std.proofs.lemmas.Bool.Decides.{nat_tests}
use Rattle.omega_model.proofs.Lists.{by_answer}
use Rattle.omega_model.specs.Report.{Line, Word, Name, Number, line_text, word_text}
use Rattle.omega_model.specs.ReportForms.{are_plain, is_plain, is_plain_byte, text_of}
use Rattle.omega_model.specs.Work.{is_empty}
use Rattle.omega_report.specs.JsonOfText.{are_words, is_word_byte, text_of_words, texts_of}

-- the text of lines is that of their words
pub same_text : (lines : List Line) → text_of lines ≡ text_of_words (texts_of lines)
same_text [] = refl
same_text (line ∷ lines) = ap (λ (rest : List ℕ). line_text line ++ rest) (same_text lines)

both_true : (a b : Bool) → a ≡ true → b ≡ true → (a && b) ≡ true
both_true a b one other = rw (one, other) refl

-- each digit of a number is a byte of a word
glyph_inner : (digit : ℕ) → digit < 10 → is_word_byte (digit_glyph false digit) ≡ true
glyph_inner digit below = grind (arith, nat_tests)

digits_inner : (count number : ℕ) (behind : List ℕ) → list_all is_word_byte behind ≡ true
    → list_all is_word_byte (digits_onto count 10 false number behind) ≡ true
digits_inner zero number behind inner = inner
digits_inner (suc count) number behind inner =
    let grown : list_all is_word_byte (digit_glyph false (number % 10) ∷ behind) ≡ true =
    both_true _ _ (glyph_inner (number % 10) (omega arith)) inner in
    by_answer (number / 10 == 0)
    (λ t. rw t grown)
    (λ f. rw f (digits_inner count (number / 10) (digit_glyph false (number % 10) ∷ behind) grown))

number_inner : (number : ℕ) → list_all is_word_byte (decimal number) ≡ true
unfolding digits
number_inner number = digits_inner 64 number [] refl

byte_inner : (byte : ℕ) → is_plain_byte byte ≡ true → is_word_byte byte ≡ true
byte_inner byte plain = rw plain refl

bytes_inner : (name : List ℕ) → list_all is_plain_byte name ≡ true → list_all is_word_byte name ≡ true
bytes_inner [] plain = refl
bytes_inner (byte ∷ bytes) plain =
    let parts = and_parts (is_plain_byte byte) (list_all is_plain_byte bytes) plain in
    both_true _ _ (byte_inner byte parts.0) (bytes_inner bytes parts.1)

word_inner : (word : Word) → is_plain word ≡ true → list_all is_word_byte (word_text word) ≡ true
word_inner (Name name) plain = bytes_inner name (and_parts (not (is_empty name)) (list_all is_plain_byte name) plain).1
word_inner (Number number) plain = number_inner number

line_inner : (line : Line) → list_all is_plain line ≡ true → list_all (list_all is_word_byte) (map word_text line) ≡ true
line_inner [] plain = refl
line_inner (word ∷ line) plain =
    let parts = and_parts (is_plain word) (list_all is_plain line) plain in
    both_true _ _ (word_inner word parts.0) (line_inner line parts.1)

-- the words of plain lines are words
pub lines_inner : (lines : List Line) → are_plain lines ≡ true → are_words (texts_of lines) ≡ true
lines_inner [] plain = refl
lines_inner (line ∷ lines) plain =
    let parts = and_parts (list_all is_plain line) (are_plain lines) plain in
    both_true _ _ (line_inner line parts.0) (lines_inner lines parts.1)
