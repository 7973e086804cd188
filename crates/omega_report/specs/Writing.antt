-- A text that is read byte by byte, and the JSON that is written of it.
use Rattle.std.specs.Prelude.{ℕ, List, [], ◌∷◌, ◌++◌, ◌+◌, ◌*◌, ◌-◌, ◌^◌, ◌==◌, ◌&&◌, Option, Some, None, nat_lt, if◌then◌else◌}
use Rattle.omega_report.specs.JsonOfText.{text_json}
use Rattle.omega_report.specs.Readings.{is_digit}
use Rattle.omega_report.specs.declared.json_of_text.Position.{Position}
use Rattle.omega_report.specs.declared.json_of_text.Position.TheVariants.{Beginning, NewLine, SameLine}

-- the JSON of the words so far, the bytes of the word under way, and where that stands
pub record WritingState : Type 0 where
  pub json : List ℕ
  pub word : List ℕ
  pub position : Position

-- what stands before a word: at the beginning both arrays open, a further line is a further item, and so
-- is a further word
abbrev pub lead : Position → List ℕ
lead Beginning = 91 ∷ 91 ∷ []
lead NewLine = 44 ∷ 91 ∷ []
lead SameLine = 44 ∷ []

-- the JSON with the word under way
abbrev pub with_word : WritingState → List ℕ
with_word writing = (writing.json ++ lead writing.position) ++ text_json writing.word

-- one more byte: a space ends a word, a line feed a line too, and any other is a byte of the word
abbrev pub after_byte : WritingState → ℕ → WritingState
after_byte writing byte =
    if byte == 32 then record { json = with_word writing; word = []; position = SameLine }
    else if byte == 10 then record { json = with_word writing ++ 93 ∷ []; word = []; position = NewLine }
    else record { json = writing.json; word = writing.word ++ byte ∷ []; position = writing.position }

-- what ends the array of lines; where no word was read, it is opened first
abbrev pub ending : Position → List ℕ
ending Beginning = 91 ∷ 93 ∷ 10 ∷ []
ending NewLine = 93 ∷ 10 ∷ []
ending SameLine = 93 ∷ 10 ∷ []

-- a number with one more digit, if the byte is one and 64 bits hold the number
abbrev pub with_digit : ℕ → ℕ → Option ℕ
with_digit value byte =
    if is_digit byte && nat_lt (value * 10 + (byte - 48)) (2 ^ 64) then Some (value * 10 + (byte - 48)) else None
