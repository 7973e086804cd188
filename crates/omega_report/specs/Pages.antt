-- A page of lines, and how its bytes stand before it is finished.
use Rattle.std.specs.Prelude.{◌≡◌, ℕ, Bool, true, List, [], ◌∷◌, ◌++◌, fold, if◌then◌else◌}
use Rattle.std.specs.List.{flat_map, list_all}
use Rattle.omega_model.specs.Report.{Line, line_text}
use Rattle.omega_model.specs.ReportForms.{are_plain, text_of}
use Rattle.omega_model.specs.declared.settings.Format.{Format}
use Rattle.omega_model.specs.declared.settings.Format.TheVariants.{Text, Json}
use Rattle.omega_report.specs.Forms.{line_form}
use Rattle.omega_report.specs.Readings.{lines_read, nothing_read, read_byte, whole_lines}
use Rattle.omega_report.specs.Spelling.{are_short}

-- a page as callers see it: its format, and the lines that stand on it in order
pub record PageState : Type 0 where
  pub format : Format
  pub lines : List Line

-- the bytes that a line adds to a page, where it may be the first one: a JSON array begins with a
-- bracket, and parts its items by commas
abbrev pub added_bytes : Format → Bool → Line → List ℕ
added_bytes Text is_first line = line_text line
added_bytes Json is_first line = (if is_first then 91 else 44) ∷ line_form Json line

-- lines as the items of a JSON array behind others: each after a comma
abbrev pub more_items : List Line → List ℕ
more_items lines = flat_map (λ line. 44 ∷ line_form Json line) lines

-- lines as the items of a JSON array that isn't closed yet
abbrev pub open_json : List Line → List ℕ
open_json [] = []
open_json (line ∷ lines) = 91 ∷ line_form Json line ++ more_items lines

-- what ends a JSON array; where it has no items, it is opened first
abbrev pub end_of_array : Bool → List ℕ
end_of_array is_empty = (if is_empty then 91 ∷ 93 ∷ [] else 93 ∷ []) ++ 10 ∷ []

-- the bytes of lines in a format, before the page is finished
abbrev pub open_form : Format → List Line → List ℕ
open_form Text lines = text_of lines
open_form Json lines = open_json lines

-- what every page keeps: its bytes are those of the lines that are read in them, no line is under way, and the
-- words are plain and the numbers below 2^64
pub record IsPage (format : Format) (bytes : List ℕ) : Type 0 where
  pub form : bytes ≡ open_form format (lines_read bytes)
  pub ended : fold read_byte nothing_read bytes ≡ whole_lines (lines_read bytes)
  pub plain : are_plain (lines_read bytes) ≡ true
  pub short : list_all are_short (lines_read bytes) ≡ true
