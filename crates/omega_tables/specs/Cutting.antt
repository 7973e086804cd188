-- Where a table's text may be cut in two, so that the records of both parts are the records of all.
use Rattle.std.specs.Prelude.{◌≡◌, ◌≢◌, ◌≤◌, ◌+◌, ◌==◌, ◌||◌, ℕ, List, [], ◌∷◌, ◌++◌, length, get_or, Option, Some, None, if◌then◌else◌}
use Rattle.std.specs.List.{All}
use Rattle.csv.specs.Machine.{carriage_return, line_feed}
use Rattle.omega_model.specs.Rows.{records_of}

-- the byte between which and its like a field may have commas and ends of lines
abbrev pub double_quote : ℕ
double_quote = 34

-- the first byte of a byte order mark
abbrev pub mark_byte : ℕ
mark_byte = 0xEF

-- a text is whole lines, and the last of them has its end
abbrev pub EndsLine : List ℕ → Type 0
EndsLine text = (before : List ℕ) × (text ≡ before ++ line_feed ∷ [])

-- a text may be cut between these two: no field goes on behind the cut, since the front ends a line and has no
-- quote; a byte order mark is whole in the front, and none is made by the cut
pub record MayCut (front back : List ℕ) : Type 0 where
  pub line : EndsLine front
  pub unquoted : All (λ byte. byte ≢ double_quote) front
  pub long : 4 ≤ length front
  pub unmarked : get_or back 0 0 ≢ mark_byte

-- how many commas stand before the end of the first line, beside those that were counted before; none are told where a quote does
abbrev pub commas_before_end : ℕ → List ℕ → Option ℕ
commas_before_end before [] = Some before
commas_before_end before (c ∷ rest) =
    if c == double_quote then None else if c == 44 then commas_before_end (before + 1) rest
    else if (c == carriage_return) || (c == line_feed) then Some before else commas_before_end before rest

-- behind the records of the front comes one with so many fields
abbrev pub ComesBehind : List ℕ → List ℕ → ℕ → Type 0
ComesBehind text front number =
    (first : List (List ℕ)) × (others : List (List (List ℕ))) × (records_of text ≡ records_of front ++ first ∷ others) × (length first ≡ number)
