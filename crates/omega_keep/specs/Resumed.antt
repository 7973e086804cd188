-- When kept lines are those of the beginning of a history, up to the end of a round.
use Rattle.std.specs.Prelude.{◌≡◌, ℕ, suc, ◌==◌, ◌||◌, Bool, false, List, [], ◌∷◌, Option, Some, None, IsTrue, length, map, take, slice_get, if◌then◌else◌}
use Rattle.std.specs.Option.{option_map_or}
use Rattle.std.specs.Str.{bytes_eq}
use Rattle.omega_model.specs.Lawful.{begins_round}
use Rattle.omega_model.specs.declared.entries.Entry.{Entry}
use Rattle.omega_keep.specs.KeptLines.{entry_text}

-- the lines of a history
abbrev pub lines_of : List Entry → List (List ℕ)
lines_of history = map entry_text history

-- whether no round of a history is under way once so many entries stand: there is none yet, or all
-- are there, or the next one begins a round
abbrev pub ends_round : List Entry → ℕ → Bool
ends_round history count =
    count == 0 || count == length history || option_map_or begins_round (slice_get history count) false

-- how many of the first kept lines are those of a history's entries in order
abbrev pub in_common : List (List ℕ) → List Entry → ℕ
in_common [] history = 0
in_common (line ∷ lines) [] = 0
in_common (line ∷ lines) (entry ∷ history) = if bytes_eq line (entry_text entry) then suc (in_common lines history) else 0

-- the place at which kept lines are refused for a history, if they are: the first line that isn't the
-- history's there, or, where all of them are, the number of lines, if a round is under way then
abbrev pub refused_for : List Entry → List (List ℕ) → Option ℕ
refused_for history kept =
    if in_common kept history == length kept then (if ends_round history (length kept) then None else Some (length kept))
    else Some (in_common kept history)

-- lines are those of whole rounds of a history, from the first one on
pub record AreWholeRounds (history : List Entry) (lines : List (List ℕ)) : Type 0 where
  pub count : ℕ
  pub ends : IsTrue (ends_round history count)
  pub told : lines ≡ take count (lines_of history)
