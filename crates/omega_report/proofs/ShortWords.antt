-- Lines of plain words and short numbers have the same JSON in either form.
use Rattle.std.proofs.Common.{◌≡◌, ℕ, ◌^◌, ◌<◌, true, false, List, [], ◌∷◌, ◌++◌, map, decimal, refl, ap, ap₂, arith}
use Rattle.std.specs.List.{list_all}
use Rattle.std.specs.Str.Parse.{AllDigits, digits_value}
use Rattle.std.proofs.lemmas.Bool.{and_parts, ltb-true}
use Rattle.std.proofs.lemmas.Fmt.{decimal_is_IsNumeral}
use Rattle.std.proofs.lemmas.Str.Parse.{digit_from_value}
use Rattle.omega_model.specs.Report.{Line, Word, Name, Number, word_text}
use Rattle.omega_model.specs.ReportForms.{are_plain, array_json, in_format, is_plain, is_plain_byte, json_of, line_json, word_json}
use Rattle.omega_model.specs.declared.settings.Format.{Format}
use Rattle.omega_model.specs.declared.settings.Format.TheVariants.{Text, Json}
use Rattle.omega_report.specs.JsonOfText.{in_wide_format, is_short_number, json_of_words, text_json, texts_of, words_json}
use Rattle.omega_report.specs.Readings.{is_digit}
use Rattle.omega_report.specs.Spelling.{are_short, fits, is_no_time, is_short, word_of}
use Rattle.omega_report.specs.declared.line_words.Word.{Word as HeldWord}
use Rattle.omega_report.specs.declared.line_words.Word.TheVariants.{Name as HeldName, Number as HeldNumber, Time as HeldTime}
use Rattle.omega_report.proofs.Spelled.{bytes_plain, is_read, no_digit}

all_read : (digits : List ℕ) → AllDigits 10 digits → list_all is_digit digits ≡ true
all_read [] all = refl
all_read (digit ∷ digits) all =
    let range = digit_from_value digit all.0 in
    let here : is_digit digit ≡ true = is_read digit (omega arith) (omega arith) in
    let rest = all_read digits all.1 in
    rw (here, rest) refl

word_same : (word : Word) → is_plain word ≡ true → is_short word ≡ true → text_json (word_text word) ≡ word_json word
word_same (Name []) plain short = cc
word_same (Name (byte ∷ bytes)) plain short =
    let parts = and_parts (is_plain_byte byte) (list_all is_plain_byte bytes) (bytes_plain (byte ∷ bytes) plain) in
    let none : is_digit byte ≡ false = no_digit byte parts.0 in
    rw none refl
word_same (Number number) plain short =
    let below : number < 2 ^ 64 = ltb-true number (2 ^ 64) short in
    let numeral = decimal_is_IsNumeral number below in
    let digits : list_all is_digit (decimal number) ≡ true = all_read (decimal number) numeral.0.1 in
    let value : digits_value 10 (decimal number) ≡ number = numeral.1 in
    let is : is_short_number (decimal number) ≡ true = rw (digits, value, short) refl in
    rw is refl

line_same : (line : Line) → list_all is_plain line ≡ true → are_short line ≡ true → map text_json (map word_text line) ≡ map word_json line
line_same [] plain short = refl
line_same (word ∷ line) plain short =
    let plains = and_parts (is_plain word) (list_all is_plain line) plain in
    let shorts = and_parts (is_short word) (are_short line) short in
    ap₂ (λ (first : List ℕ) (rest : List (List ℕ)). first ∷ rest) (word_same word plains.0 shorts.0) (line_same line plains.1 shorts.1)

-- so has one line
pub item_same : (line : Line) → list_all is_plain line ≡ true → are_short line ≡ true → words_json (map word_text line) ≡ line_json line
item_same line plain short = ap array_json (line_same line plain short)

lines_same : (lines : List Line) → are_plain lines ≡ true → list_all are_short lines ≡ true → map words_json (texts_of lines) ≡ map line_json lines
lines_same [] plain short = refl
lines_same (line ∷ lines) plain short =
    let plains = and_parts (list_all is_plain line) (are_plain lines) plain in
    let shorts = and_parts (are_short line) (list_all are_short lines) short in
    ap₂ (λ (first : List ℕ) (rest : List (List ℕ)). first ∷ rest) (item_same line plains.0 shorts.0) (lines_same lines plains.1 shorts.1)

pub json_same : (lines : List Line) → are_plain lines ≡ true → list_all are_short lines ≡ true → json_of_words (texts_of lines) ≡ json_of lines
json_same lines plain short = ap (λ (items : List (List ℕ)). array_json items ++ 10 ∷ []) (lines_same lines plain short)

-- in either format
pub wide_same : (format : Format) (lines : List Line) → are_plain lines ≡ true → list_all are_short lines ≡ true → in_wide_format format lines ≡ in_format format lines
wide_same Text lines plain short = refl
wide_same Json lines plain short = json_same lines plain short

-- ---- words as the code holds them

word_short : (word : HeldWord) → fits word ≡ true → is_no_time word ≡ true → is_short (word_of word) ≡ true
word_short (HeldName name) fit none = refl
word_short (HeldNumber number) fit none = fit
word_short (HeldTime time) fit none = cc

-- those that are no times are short
pub all_short : (words : List HeldWord) → list_all fits words ≡ true → list_all is_no_time words ≡ true → are_short (map word_of words) ≡ true
all_short [] fit none = refl
all_short (word ∷ words) fit none =
    let first = and_parts (fits word) (list_all fits words) fit in
    let time = and_parts (is_no_time word) (list_all is_no_time words) none in
    rw (word_short word first.0 time.0, all_short words first.1 time.1) refl
