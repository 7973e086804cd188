-- The bytes of a report: as text, or as JSON.
use Rattle.std.specs.Prelude.{ℕ, Bool, true, List, [], ◌∷◌, ◌++◌, ◌==◌, ◌&&◌, ◌||◌, not, nat_le, map, decimal}
use Rattle.std.specs.List.{flat_map, join_with_byte, list_all}
use Rattle.omega_model.specs.Report.{Line, Word, Name, Number, line_text}
use Rattle.omega_model.specs.ReportLines.{printed_lines}
use Rattle.omega_model.specs.Work.{is_empty}
use Rattle.omega_model.specs.declared.entries.Entry.{Entry}
use Rattle.omega_model.specs.declared.rows.TraceTables.{TraceTables}
use Rattle.omega_model.specs.declared.settings.Format.{Format}
use Rattle.omega_model.specs.declared.settings.Format.TheVariants.{Text, Json}
use Rattle.omega_model.specs.declared.settings.Settings.{Settings}

-- the bytes of lines as text
abbrev pub text_of : List Line → List ℕ
text_of lines = flat_map line_text lines

-- a word as JSON: a number as it is, a name between double quotes
abbrev pub word_json : Word → List ℕ
word_json (Name name) = 34 ∷ name ++ 34 ∷ []
word_json (Number number) = decimal number

-- a list of JSON texts as one array: parted by one comma, between brackets
abbrev pub array_json : List (List ℕ) → List ℕ
array_json items = 91 ∷ join_with_byte 44 items ++ 93 ∷ []

-- a line as JSON: the array of its words
abbrev pub line_json : Line → List ℕ
line_json line = array_json (map word_json line)

-- the bytes of lines as JSON: one array with an item for each line, and a line feed
abbrev pub json_of : List Line → List ℕ
json_of lines = array_json (map line_json lines) ++ 10 ∷ []

-- the bytes of lines in a format
abbrev pub in_format : Format → List Line → List ℕ
in_format Text lines = text_of lines
in_format Json lines = json_of lines

-- the bytes of the report of a history, in the chosen format
abbrev pub printed_report : Settings → TraceTables → List Entry → List ℕ
printed_report settings trace history = in_format settings.format (printed_lines settings trace history)

-- whether a byte is a small letter or a dash
abbrev pub is_plain_byte : ℕ → Bool
is_plain_byte byte = byte == 45 || (nat_le 97 byte && nat_le byte 122)

-- whether a word is a number, or a name of small letters and dashes: then no form changes it, and the
-- words of a line can be told apart again
abbrev pub is_plain : Word → Bool
is_plain (Name name) = not (is_empty name) && list_all is_plain_byte name
is_plain (Number number) = true

-- whether all words of some lines are plain
abbrev pub are_plain : List Line → Bool
are_plain lines = list_all (λ line. list_all is_plain line) lines
