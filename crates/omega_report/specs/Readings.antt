-- The lines that stand in the bytes of a page, in either form.
use Rattle.std.specs.Prelude.{ℕ, Bool, List, [], ◌∷◌, ◌++◌, ◌==◌, ◌&&◌, ◌||◌, nat_le, fold, if◌then◌else◌}
use Rattle.std.specs.Str.Parse.{digits_value}
use Rattle.omega_model.specs.Report.{Line, Word, Name, Number}

-- what is read so far: the whole lines, the words of the line under way, and the bytes of the word
-- under way
pub record Reading : Type 0 where
  pub lines : List Line
  pub words : Line
  pub bytes : List ℕ

-- these lines are read, and no line is under way
abbrev pub whole_lines : List Line → Reading
whole_lines lines = record { lines = lines; words = []; bytes = [] }

-- nothing is read yet
abbrev pub nothing_read : Reading
nothing_read = whole_lines []

-- whether a byte is a decimal digit
abbrev pub is_digit : ℕ → Bool
is_digit byte = nat_le 48 byte && nat_le byte 57

-- whether a byte only marks where a text or a list begins: a double quote or an opening bracket
abbrev pub is_mark : ℕ → Bool
is_mark byte = byte == 34 || byte == 91

-- whether a byte parts words: a space or a comma
abbrev pub is_gap : ℕ → Bool
is_gap byte = byte == 32 || byte == 44

-- whether a byte ends a line: a line feed or a closing bracket
abbrev pub is_end : ℕ → Bool
is_end byte = byte == 10 || byte == 93

-- the word that some bytes spell: a number where they begin with a digit, else a name
abbrev pub word_read : List ℕ → Word
word_read [] = Name []
word_read (byte ∷ bytes) = if is_digit byte then Number (digits_value 10 (byte ∷ bytes)) else Name (byte ∷ bytes)

-- the words with one more where some bytes are under way
abbrev pub words_read : Line → List ℕ → Line
words_read words [] = words
words_read words (byte ∷ bytes) = words ++ word_read (byte ∷ bytes) ∷ []

-- what is read after one more byte
abbrev pub read_byte : Reading → ℕ → Reading
read_byte so_far byte =
    if is_mark byte then so_far
    else if is_gap byte then record so_far { words = words_read so_far.words so_far.bytes; bytes = [] }
    else if is_end byte then record { lines = so_far.lines ++ words_read so_far.words so_far.bytes ∷ []; words = []; bytes = [] }
    else record so_far { bytes = so_far.bytes ++ byte ∷ [] }

-- the lines that stand in some bytes
unfoldable pub lines_read : List ℕ → List Line
lines_read bytes = (fold read_byte nothing_read bytes).lines
