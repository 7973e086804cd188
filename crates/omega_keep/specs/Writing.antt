-- How the line of an entry is put together.
use Rattle.std.specs.Prelude.{ℕ, List, [], ◌∷◌, ◌++◌}
use Rattle.std.specs.List.{flat_map}
use Rattle.omega_model.specs.Report.{Line, word_text}

-- words that each stand after a space
abbrev pub more_text : Line → List ℕ
more_text words = flat_map (λ word. 32 ∷ word_text word) words

-- words parted by one space, as they are written: the first word, and the others after a space each
abbrev pub spaced : Line → List ℕ
spaced [] = []
spaced (word ∷ words) = word_text word ++ more_text words
