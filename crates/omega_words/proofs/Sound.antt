-- What the proofs ask of a table, and its values by their words.
use Rattle.std.proofs.Common.{◌&&◌, ◌∷◌, [], ◌==◌, Bool, true, false, not, List, Option, codes, ℕ}
use Rattle.std.specs.List.{list_all, list_any}
use Rattle.std.specs.Option.{option_map_or}
use Rattle.std.specs.Str.{bytes_eq}
use Rattle.omega_model.specs.Options.{Values, WordTable, one_of, is_among, is_value, choice_at, dashed}
use Rattle.omega_model.specs.PlainWords.{begins_plainly}

-- a name that clap reads back from its word
abbrev pub is_name : List ℕ → Bool
is_name [] = false
is_name (byte ∷ rest) =
    not (list_any (λ x. x == 61) (byte ∷ rest)) && not (bytes_eq (codes "command") (byte ∷ rest))

abbrev pub names_begin_plainly : Values → Bool
names_begin_plainly (one_of names) = list_all begins_plainly names
names_begin_plainly _ = true

abbrev pub is_sound : WordTable → Bool
is_sound t =
    list_all begins_plainly t.commands && list_all (λ o. is_name o.name && names_begin_plainly o.values) t.choices

-- the text is a value of the option of this word
abbrev pub has_value : WordTable → List ℕ → List ℕ → Bool
has_value t word text = option_map_or (λ o. is_value o.values text) (choice_at t word) false

abbrev pub has_values : WordTable → (List ℕ → Option (List ℕ)) → Bool
has_values t texts = option_map_or (is_among t.commands) (texts (codes "command")) false
    && list_all (λ o. option_map_or (has_value t (dashed o.name)) (texts o.name) true) t.choices
