-- The table of the program's words: its commands, and its options with their values.
use Rattle.std.specs.Prelude.{ℕ, Bool, true, ◌&&◌, nat_le, List, [], ◌∷◌, find, is_some, Option, Some, None, codes, if◌then◌else◌}
use Rattle.std.specs.List.{list_any}
use Rattle.std.specs.Option.{option_and_then}
use Rattle.std.specs.Str.{bytes_eq}
use Rattle.omega_model.specs.Numbers.{whole}

-- the values of an option: the path of a folder or a file, which may be any text; a whole number from the
-- first bound up to the second; or one of these names
pub data Values : Type 0 where
  a_path : Values
  a_number : ℕ → ℕ → Values
  one_of : List (List ℕ) → Values

-- an option: its name, without the hyphens, and its values
pub record Choice : Type 0 where
  pub name : List ℕ
  pub values : Values

-- the commands, and the options that each of them has
pub record WordTable : Type 0 where
  pub commands : List (List ℕ)
  pub choices : List Choice

-- the option of this name, with these values
abbrev pub choice : List ℕ → Values → Choice
choice name values = record { name = name; values = values }

-- the whole table
abbrev pub whole_table : WordTable
whole_table = record {
  commands = codes "replay" ∷ codes "run" ∷ codes "generate" ∷ codes "simulate" ∷ codes "resume" ∷ codes "audit" ∷ [];
  choices = choice (codes "tables") a_path
      ∷ choice (codes "seed") (a_number 0 18446744073709551615)
      ∷ choice (codes "batch") (a_number 1 30)
      ∷ choice (codes "rule") (one_of (codes "fine" ∷ codes "coarse" ∷ []))
      ∷ choice (codes "mode") (one_of (codes "incremental" ∷ codes "gang" ∷ []))
      ∷ choice (codes "preempt") (one_of (codes "none" ∷ codes "service" ∷ codes "all" ∷ []))
      ∷ choice (codes "extra") (one_of (codes "max" ∷ codes "cap" ∷ codes "relative" ∷ []))
      ∷ choice (codes "cap") (a_number 0 100)
      ∷ choice (codes "tries") (a_number 1 100)
      ∷ choice (codes "give-up") (a_number 1 1000)
      ∷ choice (codes "window") (a_number 1 1099511627776)
      ∷ choice (codes "format") (one_of (codes "text" ∷ codes "json" ∷ []))
      ∷ choice (codes "machines") (a_number 0 4096)
      ∷ choice (codes "jobs") (a_number 0 20000)
      ∷ choice (codes "t-job") (a_number 0 1000000000)
      ∷ choice (codes "t-task") (a_number 0 1000000000)
      ∷ choice (codes "service-t-job") (a_number 0 1000000000)
      ∷ choice (codes "service-t-task") (a_number 0 1000000000)
      ∷ choice (codes "kept") a_path
      ∷ choice (codes "clock") (one_of (codes "rounds" ∷ codes "free" ∷ []))
      ∷ choice (codes "times") (one_of (codes "no" ∷ codes "yes" ∷ []))
      ∷ choice (codes "ends") (one_of (codes "trace" ∷ codes "own" ∷ []))
      ∷ [];
}

-- whether a text is one of these
abbrev pub is_among : List (List ℕ) → List ℕ → Bool
is_among names text = list_any (λ name. bytes_eq name text) names

-- the whole number that a text writes, where it isn't below the first bound nor above the second
abbrev pub number_from : ℕ → ℕ → List ℕ → Option ℕ
number_from low high text =
    option_and_then (λ number. if nat_le low number && nat_le number high then Some number else None) (whole text)

-- whether a text is one of the values
abbrev pub is_value : Values → List ℕ → Bool
is_value a_path text = true
is_value (a_number low high) text = is_some (number_from low high text)
is_value (one_of names) text = is_among names text

-- the word of an option: two hyphens and its name
abbrev pub dashed : List ℕ → List ℕ
dashed name = 45 ∷ 45 ∷ name

-- the option of a word
abbrev pub choice_at : WordTable → List ℕ → Option Choice
choice_at table word = find (λ option. bytes_eq (dashed option.name) word) table.choices
