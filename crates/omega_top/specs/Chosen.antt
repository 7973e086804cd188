-- What the words of the command line choose for a run.
use Rattle.std.specs.Prelude.{◌≡◌, ◌⊎◌, ℕ, true, List, Option}
use Rattle.omega_io.specs.Edge.{Enters}
use Rattle.omega_model.specs.PlainWords.{is_plain}
use Rattle.omega_model.specs.WordSettings.{folder_of, settings_of}
use Rattle.omega_model.specs.declared.settings.Command.TheVariants.{Audit, Resume}
use Rattle.omega_model.specs.declared.settings.Settings.{Settings}
use Rattle.omega_top.specs.Commands.{makes_tables}
use Rattle.omega_words.specs.Built.{built_words}
use Rattle.omega_words.specs.Taken.{AreAccepted, are_of_table, folder_in, is_taken, settings_in, text_in}

-- the words are such as the program has them: `clap` takes them with texts of the table, or they are plain
abbrev pub AreTaken : List (List ℕ) → Type 0
AreTaken words = (is_taken built_words words ≡ true) ⊎ (is_plain built_words words ≡ true)

-- the settings are those of the words: `clap` finds no fault in these, and the texts of its matches are such
-- as the table has them and give the settings; on plain words these are what the words write
pub record AreChosenBy (words : List (List ℕ)) (settings : Settings) : Type 0 where
  pub accepted : AreAccepted built_words words
  pub values : are_of_table built_words (text_in built_words words) ≡ true
  pub matched : settings ≡ settings_in built_words words
  pub plain : is_plain built_words words ≡ true → settings ≡ settings_of words

-- the folder of the words is the one entered last, where a folder is told; on plain words it is the one that
-- the words write
pub record EntersChosen (words : List (List ℕ)) (before now : Option (Option (List ℕ))) : Type 0 where
  pub matched : Enters (folder_in built_words words) before now
  pub plain : is_plain built_words words ≡ true → Enters (folder_of words) before now

-- the words are those of a run that makes its tables
abbrev pub MakesTables : List (List ℕ) → Type 0
MakesTables words = makes_tables (settings_in built_words words).command ≡ true

-- the words are those of an audit
abbrev pub Audits : List (List ℕ) → Type 0
Audits words = (settings_in built_words words).command ≡ Audit

-- the words are those of a run that goes on from what is kept
abbrev pub Resumes : List (List ℕ) → Type 0
Resumes words = (settings_in built_words words).command ≡ Resume
