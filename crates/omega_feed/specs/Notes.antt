-- Where numbers are likely to stand in a list.
use Rattle.std.specs.Prelude.{ℕ, ◌*◌, ◌-◌, ◌/◌, ◌%◌, ◌^◌, List, get_or, length}

-- how many notes there are at most
abbrev pub most_notes : ℕ
most_notes = 131072

-- a number below 2^32 that two numbers seldom have in common
abbrev pub spread : ℕ → ℕ
spread number = number * 11400714819323198485 % 2 ^ 64 / 2 ^ 32

-- which of so many notes is that of a number
abbrev pub note_of : ℕ → ℕ → ℕ
note_of count number = spread number * count / 2 ^ 32

-- the place that a number's note has, where the notes have these; the greatest number where there is no note
abbrev pub guessed : List ℕ → ℕ → ℕ
guessed places number = get_or places (note_of (length places) number) (2 ^ 64 - 1)
