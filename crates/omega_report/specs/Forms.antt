-- A line in a format.
use Rattle.std.specs.Prelude.{ℕ, List, [], ◌∷◌, map}
use Rattle.std.specs.List.{flat_map}
use Rattle.omega_model.specs.Report.{Line, Word, line_text, word_text}
use Rattle.omega_model.specs.declared.settings.Format.{Format}
use Rattle.omega_model.specs.declared.settings.Format.TheVariants.{Text, Json}
use Rattle.omega_report.specs.JsonOfText.{text_json, words_json}

-- the bytes of a line: as text, or as JSON the array of its words, with numbers of more than 64 bits as strings
abbrev pub line_form : Format → Line → List ℕ
line_form Text line = line_text line
line_form Json line = words_json (map word_text line)

-- what begins a line
abbrev pub opening : Format → List ℕ
opening Text = []
opening Json = 91 ∷ []

-- what ends it
abbrev pub closing : Format → List ℕ
closing Text = 10 ∷ []
closing Json = 93 ∷ []

-- the byte between two words
abbrev pub gap : Format → ℕ
gap Text = 32
gap Json = 44

-- a word by its text
abbrev pub text_form : Format → List ℕ → List ℕ
text_form Text text = text
text_form Json text = text_json text

abbrev pub word_form : Format → Word → List ℕ
word_form format word = text_form format (word_text word)

-- words that each stand behind such a byte
abbrev pub more_form : Format → Line → List ℕ
more_form format line = flat_map (λ word. gap format ∷ word_form format word) line
