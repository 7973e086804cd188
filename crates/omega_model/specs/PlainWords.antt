-- Plain words: a command, and behind it options of a table, each at most once and each followed by its value.
use Rattle.std.specs.Prelude.{ℕ, Bool, false, true, not, ◌&&◌, ◌==◌, List, [], ◌∷◌, Option, Some, None, codes, if◌then◌else◌}
use Rattle.std.specs.Option.{option_map_or}
use Rattle.std.specs.Str.{bytes_eq}
use Rattle.omega_model.specs.Options.{Values, a_path, WordTable, is_among, is_value, choice_at, dashed}

-- whether a text isn't empty and has no hyphen in front
abbrev pub begins_plainly : List ℕ → Bool
begins_plainly [] = false
begins_plainly (byte ∷ rest) = not (byte == 45)

-- whether a text is one of the values, and can be told from an option's word
abbrev pub is_plain_value : Values → List ℕ → Bool
is_plain_value a_path text = begins_plainly text
is_plain_value values text = is_value values text

-- whether a word is that of an option, and the text is one of its values
abbrev pub pair_is_plain : WordTable → List ℕ → List ℕ → Bool
pair_is_plain table word text =
    option_map_or (λ option. is_plain_value option.values text) (choice_at table word) false

-- whether these are options and their values, by turns, and no option is among the words before or comes twice
abbrev pub options_are_plain : WordTable → List (List ℕ) → List (List ℕ) → Bool
options_are_plain table before [] = true
options_are_plain table before (word ∷ []) = false
options_are_plain table before (word ∷ text ∷ rest) =
    not (is_among before word)
    && (pair_is_plain table word text && options_are_plain table (word ∷ before) rest)

-- whether words are plain
abbrev pub is_plain : WordTable → List (List ℕ) → Bool
is_plain table [] = false
is_plain table (command ∷ rest) = is_among table.commands command && options_are_plain table [] rest

-- the text that follows an option's word
abbrev pub text_after : List ℕ → List (List ℕ) → Option (List ℕ)
text_after word [] = None
text_after word (other ∷ []) = None
text_after word (other ∷ text ∷ rest) = if bytes_eq other word then Some text else text_after word rest

-- the text that plain words give an option, by its name, or the command
abbrev pub text_given : List (List ℕ) → List ℕ → Option (List ℕ)
text_given [] name = None
text_given (command ∷ rest) name =
    if bytes_eq (codes "command") name then Some command else text_after (dashed name) rest
