-- The command that `clap` is given, the words that it takes, and the settings of its matches.
use Rattle.std.specs.Prelude.{◌≡◌, ℕ, Bool, true, false, ◌&&◌, List, [], ◌∷◌, map, Option, Some, codes}
use Rattle.std.specs.List.{list_all}
use Rattle.std.specs.Option.{option_map_or}
use Rattle.clap.specs.Faults.{fault_of}
use Rattle.clap.specs.Words.{App, Rule, new_app, new_rule, takes, matches_of, first_of}
use Rattle.omega_model.specs.Options.{Choice, WordTable, is_among, is_value}
use Rattle.omega_model.specs.WordSettings.{settings_by, folder_by, kept_by}
use Rattle.omega_model.specs.declared.settings.Settings.{Settings}

-- the one positional word, which is required
abbrev pub command_rule : Rule
command_rule = record (new_rule (codes "command")) { required = true }

-- an option, which takes one value
abbrev pub option_rule : List ℕ → Rule
option_rule name = record (new_rule name) { long = Some name }

abbrev pub option_rules : List Choice → List Rule
option_rules = map (λ option. option_rule option.name)

-- a command without words: the program's name isn't among them, and there is no `--help`
abbrev pub bare_app : App
bare_app =
    let a = new_app (codes "omega") in record a { top = record a.top { no_binary_name = true; disable_help_flag = true } }

-- the command with these options
abbrev pub app_of_choices : List Choice → App
app_of_choices choices = record bare_app { top = record bare_app.top { rules = command_rule ∷ option_rules choices } }

-- the command of a table
abbrev pub app : WordTable → App
app table = app_of_choices table.choices

-- the text that the matches of words have for an option, by its name, or for the command
abbrev pub text_in : WordTable → List (List ℕ) → List ℕ → Option (List ℕ)
text_in table words name = first_of name (matches_of (app table) words)

-- whether each option's text is one of its values, where it has a text
abbrev pub are_values : List Choice → (List ℕ → Option (List ℕ)) → Bool
are_values choices texts = list_all (λ option. option_map_or (is_value option.values) (texts option.name) true) choices

-- whether the texts are such as the table has them: one of its commands, and values of its options
abbrev pub are_of_table : WordTable → (List ℕ → Option (List ℕ)) → Bool
are_of_table table texts =
    option_map_or (is_among table.commands) (texts (codes "command")) false && are_values table.choices texts

-- whether words are taken: `clap` takes them, and the texts of its matches are such as the table has them
abbrev pub is_taken : WordTable → List (List ℕ) → Bool
is_taken table words = takes (app table) words && are_of_table table (text_in table words)

-- `clap` finds no fault in the words
abbrev pub AreAccepted : WordTable → List (List ℕ) → Type 0
AreAccepted table words = fault_of (app table) words ≡ []

-- the settings, the folder and the path of the kept lines, by the matches
abbrev pub settings_in : WordTable → List (List ℕ) → Settings
settings_in table words = settings_by (text_in table words)

abbrev pub folder_in : WordTable → List (List ℕ) → List ℕ
folder_in table words = folder_by (text_in table words)

abbrev pub kept_in : WordTable → List (List ℕ) → List ℕ
kept_in table words = kept_by (text_in table words)
