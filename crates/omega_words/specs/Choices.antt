-- The table of options as the code has it, and the texts of matches.
use Rattle.std.specs.Prelude.{ℕ, Bool, List, map, Option, Some, None, unwrap_or, if◌then◌else◌}
use Rattle.std.specs.Option.{option_and_then}
use Rattle.clap.specs.Words.{Row, first_of, found_of, rows_of}
use Rattle.clap.specs.declared.parser.matches.ArgMatches.{ArgMatches}
use Rattle.omega_model.specs.Options.{Choice, Values, a_path, a_number, one_of, number_from}
use Rattle.omega_words.specs.declared.choices.Choice.{Choice as CodeChoice}
use Rattle.omega_words.specs.declared.choices.Values.{Values as CodeValues}
use Rattle.omega_words.specs.declared.choices.Values.TheVariants.{Path, Number, OneOf}

-- the values that the code has, as those of the definition
abbrev pub values_of : CodeValues → Values
values_of Path = a_path
values_of (Number span) = a_number span.low span.high
values_of (OneOf names) = one_of (map (λ name. name.now) names.now)

-- the option that the code has, as one of the definition
abbrev pub choice_of : CodeChoice → Choice
choice_of choice = record { name = choice.name.now; values = values_of choice.values }

-- the text that rows of matches have for a name
abbrev pub texts_of : List Row → List ℕ → Option (List ℕ)
texts_of rows name = first_of name rows

-- the text that what `clap` found has for a name
abbrev pub texts_in : ArgMatches → List ℕ → Option (List ℕ)
texts_in matches = texts_of (rows_of (found_of matches))

-- the number of a text that isn't below the first bound nor above the second, else the default
abbrev pub number_or : ℕ → ℕ → ℕ → Option (List ℕ) → ℕ
number_or low high default text = unwrap_or (option_and_then (number_from low high) text) default

-- a value where a test passes
abbrev pub where_it : {X : Type 0} → Bool → X → Option X
where_it passes value = if passes then Some value else None
