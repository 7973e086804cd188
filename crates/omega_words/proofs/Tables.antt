-- The table that the program takes: each option is the one that its word names, and plain words are taken.
use Rattle.std.proofs.Common.{◌≡◌, ◌&&◌, ◌∙◌, List, Option, true, false, ap, ap₂, refl, sym, true≢false, codes}
use Rattle.std.specs.Option.{option_map_or}
use Rattle.clap.specs.Words.{Row, Text, matches_of, takes}
use Rattle.omega_model.specs.Options.{Choice, is_among}
use Rattle.omega_model.specs.PlainWords.{is_plain, text_given}
use Rattle.omega_words.specs.Built.{built_words}
use Rattle.omega_words.specs.Choices.{texts_of}
use Rattle.omega_words.specs.Taken.{app, app_of_choices, are_of_table, are_values, is_taken, text_in}
use Rattle.omega_words.proofs.Built.{both}
use Rattle.omega_words.proofs.Sound.{has_values, is_sound}
use Rattle.omega_words.proofs.Taken.{plain_takes}
use Rattle.omega_words.proofs.Texts.{plain_has_values, text_is}

pub built_is_sound : is_sound built_words ≡ true
unfolding built_words
built_is_sound = refl

-- each option of the table is the one that its word names
by_words : (texts : Text → Option Text) → has_values built_words texts ≡ are_of_table built_words texts
unfolding built_words
by_words texts = refl

values_are : (texts : Text → Option Text) → are_of_table built_words texts ≡ (option_map_or (is_among built_words.commands) (texts (codes "command")) false && are_values built_words.choices texts)
unfolding built_words
values_are texts = refl

pub plain_is_taken : (words : List Text) → is_plain built_words words ≡ true → is_taken built_words words ≡ true
plain_is_taken words plain =
    ap₂ ◌&&◌ (plain_takes built_words built_is_sound words plain)
    (sym (by_words (text_in built_words words)) ∙ plain_has_values built_words built_is_sound words plain)

-- on plain words the matches have what the words give
pub texts_are : (words : List Text) → is_plain built_words words ≡ true → ◌≡◌ {A = Text → Option Text} (text_in built_words words) (text_given words)
texts_are words plain = λ i name. text_is built_words built_is_sound words plain name i

-- the code's choices are those of the table, and the rows are the matches of the words
module _ (words : List Text) (choices : List Choice) (rows : List Row) (same : choices ≡ built_words.choices) (are : rows ≡ matches_of (app_of_choices choices) words) where
  pub rows_are : rows ≡ matches_of (app built_words) words
  rows_are = are ∙ ap (λ (os : List Choice). matches_of (app_of_choices os) words) same

  values_as : are_of_table built_words (text_in built_words words) ≡ (option_map_or (is_among built_words.commands) (texts_of rows (codes "command")) false && are_values choices (texts_of rows))
  values_as =
      ap (λ (rs : List Row). are_of_table built_words (texts_of rs)) (sym rows_are) ∙ values_are (texts_of rows)
      ∙ ap (λ (os : List Choice). option_map_or (is_among built_words.commands) (texts_of rows (codes "command")) false && are_values os (texts_of rows)) (sym same)

  pub values_hold : option_map_or (is_among built_words.commands) (texts_of rows (codes "command")) false ≡ true → are_values choices (texts_of rows) ≡ true
      → are_of_table built_words (text_in built_words words) ≡ true
  values_hold known pass = values_as ∙ ap₂ ◌&&◌ known pass

  pub not_taken : (option_map_or (is_among built_words.commands) (texts_of rows (codes "command")) false && are_values choices (texts_of rows)) ≡ false → is_taken built_words words ≡ true → ⊥
  not_taken fails taken = true≢false (sym (both (takes (app built_words) words) _ taken).1 ∙ values_as ∙ fails)

pub takes_are : (words : List Text) (choices : List Choice) → choices ≡ built_words.choices → is_taken built_words words ≡ true → takes (app_of_choices choices) words ≡ true
takes_are words choices same taken = ap (λ (os : List Choice). takes (app_of_choices os) words) same ∙ (both (takes (app built_words) words) _ taken).0
