use Rattle.std.proofs.Common.{◌≡◌, subst, ◌∙◌, ◌&&◌, List, ap, sym, map, true, false}
use Rattle.clap.specs.Words.{fault_of}
use Rattle.omega_model.specs.Options.{Choice}
use Rattle.omega_model.specs.WordSettings.{folder_by, kept_by, settings_by}
use Rattle.omega_words.specs.Taken.{app_of_choices, are_values}
use Rattle.clap.specs.Words.{Row, Text, found_of, rows_of}
use Rattle.omega_words.specs.Choices.{choice_of, texts_of}
use Rattle.omega_model.specs.declared.settings.Command.{Command}
use Rattle.omega_words.proofs.Built.{and_false}
use Rattle.omega_words.proofs.Tables.{not_taken, plain_is_taken, rows_are, takes_are, texts_are, values_hold}
use Rattle.omega_words.proofs.Where.{failed, passed}
use Rattle.omega_model.specs.Ranges.{IsInRange}
use Rattle.omega_model.proofs.WordRanges.{settings_in_range}
use Rattle.omega_words.proofs.read_words.Goals as goal

pub returns-in-Err-clause-never_on_plain : goal.returns-in-Err-clause-never_on_plain
returns-in-Err-clause-never_on_plain c =
    let words : List Text = map (λ s. s.now) c.args.words.now in
    λ plain. c.in-Err.ensures.usage (takes_are words (map choice_of c.table-choices.result) c.table-choices.ensures (plain_is_taken words plain))

pub returns-then-not-choices_pass-clause-usage : goal.returns-then-not-choices_pass-clause-usage
returns-then-not-choices_pass-clause-usage c =
    let words : List Text = map (λ s. s.now) c.args.words.now in
    let fails : are_values (map choice_of c.table-choices.result) (texts_of (rows_of (found_of c.in-Ok.matches))) ≡ false = sym c.if-not-choices_pass.ensures in
    λ taken. absurd (not_taken words (map choice_of c.table-choices.result) _ c.table-choices.ensures c.in-Ok.ensures.rows (and_false _ _ fails) taken)

pub returns-then-not-choices_pass-clause-never_on_plain : goal.returns-then-not-choices_pass-clause-never_on_plain
returns-then-not-choices_pass-clause-never_on_plain c = λ plain. returns-then-not-choices_pass-clause-usage c (plain_is_taken (map (λ s. s.now) c.args.words.now) plain)

pub returns-in_default-clause-usage : goal.returns-in_default-clause-usage
returns-in_default-clause-usage c =
    let words : List Text = map (λ s. s.now) c.args.words.now in
    let unknown = failed _ _ c.in_default.ensures in
    λ taken. absurd (not_taken words (map choice_of c.table-choices.result) _ c.table-choices.ensures c.in-Ok.ensures.rows
    (ap (λ b. b && are_values (map choice_of c.table-choices.result) (texts_of (rows_of (found_of c.in-Ok.matches)))) unknown) taken)

pub returns-in_default-clause-never_on_plain : goal.returns-in_default-clause-never_on_plain
returns-in_default-clause-never_on_plain c = λ plain. returns-in_default-clause-usage c (plain_is_taken (map (λ s. s.now) c.args.words.now) plain)

pub returns-clause-values : goal.returns-clause-values
returns-clause-values c =
    let words : List Text = map (λ s. s.now) c.args.words.now in
    let known = passed _ _ _ c.in-Some.ensures in
    let pass : are_values (map choice_of c.table-choices.result) (texts_of (rows_of (found_of c.in-Ok.matches))) ≡ true = sym c.if-not-choices_pass.ensures in
    values_hold words (map choice_of c.table-choices.result) _ c.table-choices.ensures c.in-Ok.ensures.rows known.0 pass

pub returns-clause-plain : goal.returns-clause-plain
returns-clause-plain c =
    let words : List Text = map (λ s. s.now) c.args.words.now in
    let known = passed _ _ _ c.in-Some.ensures in
    let rows : List Row = rows_of (found_of c.in-Ok.matches) in
    let are = rows_are words (map choice_of c.table-choices.result) rows c.table-choices.ensures c.in-Ok.ensures.rows in
    λ plain. c.settings_of-settings.ensures ∙ ap (λ (k : Command). record (settings_by (texts_of rows)) { command = k }) known.1
    ∙ ap (λ (rs : List Row). settings_by (texts_of rs)) are ∙ ap settings_by (texts_are words plain)

pub returns-clause-plain_folder : goal.returns-clause-plain_folder
returns-clause-plain_folder c =
    let words : List Text = map (λ s. s.now) c.args.words.now in
    let rows : List Row = rows_of (found_of c.in-Ok.matches) in
    let are = rows_are words (map choice_of c.table-choices.result) rows c.table-choices.ensures c.in-Ok.ensures.rows in
    λ plain. c.in_ok-folder.ensures.value ∙ c.folder_of.ensures ∙ ap (λ (rs : List Row). folder_by (texts_of rs)) are ∙ ap folder_by (texts_are words plain)

pub returns-clause-accepted : goal.returns-clause-accepted
returns-clause-accepted c =
    let words : List Text = map (λ s. s.now) c.args.words.now in
    ap (λ (os : List Choice). fault_of (app_of_choices os) words) (sym c.table-choices.ensures) ∙ c.in-Ok.ensures.accepted

pub returns-clause-in_range : goal.returns-clause-in_range
returns-clause-in_range c =
    let known = passed _ _ _ c.in-Some.ensures in
    let rows : List Row = rows_of (found_of c.in-Ok.matches) in
    let is = c.settings_of-settings.ensures ∙ ap (λ (k : Command). record (settings_by (texts_of rows)) { command = k }) known.1 in
    subst IsInRange (sym is) (settings_in_range (texts_of rows))

pub returns-clause-plain_kept : goal.returns-clause-plain_kept
returns-clause-plain_kept c =
    let words : List Text = map (λ s. s.now) c.args.words.now in
    let rows : List Row = rows_of (found_of c.in-Ok.matches) in
    let are = rows_are words (map choice_of c.table-choices.result) rows c.table-choices.ensures c.in-Ok.ensures.rows in
    λ plain. c.in_ok-kept.ensures.value ∙ c.kept_of.ensures ∙ ap (λ (rs : List Row). kept_by (texts_of rs)) are ∙ ap kept_by (texts_are words plain)
