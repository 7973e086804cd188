-- JSON of lines that stand as text. A number that 64 bits can't hold is a string.
use Rattle.std.specs.Prelude.{ℕ, Bool, List, [], ◌∷◌, ◌++◌, ◌^◌, ◌&&◌, ◌||◌, nat_lt, map, if◌then◌else◌}
use Rattle.std.specs.List.{flat_map, join_with_byte, list_all}
use Rattle.std.specs.Str.Parse.{digits_value}
use Rattle.omega_model.specs.Report.{Line, word_text}
use Rattle.omega_model.specs.ReportForms.{array_json, is_plain_byte, text_of}
use Rattle.omega_model.specs.declared.settings.Format.{Format}
use Rattle.omega_model.specs.declared.settings.Format.TheVariants.{Text, Json}
use Rattle.omega_report.specs.Readings.{is_digit}

-- whether a byte is a small letter, a dash or a digit
abbrev pub is_word_byte : ℕ → Bool
is_word_byte byte = is_plain_byte byte || is_digit byte

-- whether the words of some lines are made of such bytes
abbrev pub are_words : List (List (List ℕ)) → Bool
are_words lines = list_all (list_all (list_all is_word_byte)) lines

-- the bytes of lines by those of their words: one space between two words, and a line feed behind each line
abbrev pub text_of_words : List (List (List ℕ)) → List ℕ
text_of_words lines = flat_map (λ words. join_with_byte 32 words ++ 10 ∷ []) lines

-- whether a word is digits alone, of a number below 2 ^ 64
abbrev pub is_short_number : List ℕ → Bool
is_short_number word = list_all is_digit word && nat_lt (digits_value 10 word) (2 ^ 64)

-- a word as JSON: such a number as it is, any other word between double quotes
abbrev pub text_json : List ℕ → List ℕ
text_json word = if is_short_number word then word else 34 ∷ word ++ 34 ∷ []

-- a line as JSON: the array of its words
abbrev pub words_json : List (List ℕ) → List ℕ
words_json words = array_json (map text_json words)

-- lines as JSON: one array with an item for each line, and a line feed
abbrev pub json_of_words : List (List (List ℕ)) → List ℕ
json_of_words lines = array_json (map words_json lines) ++ 10 ∷ []

-- the bytes of the words of lines
abbrev pub texts_of : List Line → List (List (List ℕ))
texts_of lines = map (map word_text) lines

-- the bytes of lines in a format, with numbers of more than 64 bits as strings in JSON
abbrev pub in_wide_format : Format → List Line → List ℕ
in_wide_format Text lines = text_of lines
in_wide_format Json lines = json_of_words (texts_of lines)
