-- Plain words are taken, with the matches that they write.
use Rattle.std.proofs.Common.{◌≡◌, ◌&&◌, ◌||◌, ℕ, List, [], ◌∷◌, ◌++◌, Bool, cond, true, false, not, refl, codes, ◌==◌, ap, sym, ◌∙◌, map, fold, true≢false}
use Rattle.std.specs.List.{list_all, list_any}
use Rattle.std.specs.Str.{bytes_eq}
use Rattle.clap.specs.Words.{App, Row, Rule, Text, matches_of, takes}
use Rattle.clap.specs.Walk.{Walk, rows_after, has_row, finished, nothing_held, walk, walk_from, walked, with_default}
use Rattle.clap.specs.Faults.{is_free_app, is_simple_and_free}
use Rattle.clap.specs.Takes.{built_takes, default_passes, is_given, is_valid, level_passes, settle_passes, turn_passes, walk_passes}
use Rattle.clap.specs.Simple.{names_of}
use Rattle.clap.proofs.TakesLemmas.{leaf_takes}
use Rattle.omega_model.specs.Options.{Choice, WordTable, is_among}
use Rattle.omega_model.specs.PlainWords.{begins_plainly, is_plain}
use Rattle.omega_words.specs.Taken.{app}
use Rattle.omega_words.proofs.Sound.{is_name, is_sound}
use Rattle.omega_words.proofs.Built.{app_built, app_is_simple, both, is_not, command_settles, option_built, row_for, rules_built, with_rules}
use Rattle.omega_words.proofs.Walked.{Ends, begins_listed, no_long, no_short, no_dashes, options_end, rows_given, shape_built, standing}

-- ---- the first word

pub not_command : (name : Text) → is_name name ≡ true → bytes_eq (codes "command") name ≡ false
not_command [] e = absurd (true≢false (sym e))
not_command (x ∷ xs) e = is_not _ (both (not (list_any (λ y. y == 61) (x ∷ xs))) _ e).1

first_step : (t : WordTable) (b : ℕ) (v : Text) → (b == 45) ≡ false → walked (rules_built t) [] (walk_from nothing_held) (b ∷ v) ≡ standing [] (codes "command") (b ∷ v)
unfolding walked
first_step t b v e = rw (no_dashes b v e, no_long b v e, no_short b v e) refl

first_turn : (t : WordTable) (b : ℕ) (v : Text) → (b == 45) ≡ false → turn_passes (shape_built t) [] (walk_from nothing_held) (b ∷ v) ≡ true
first_turn t b v e = rw (no_dashes b v e, no_long b v e, no_short b v e) refl

-- the rows of plain words
abbrev pub rows_of_words : List Text → List Row
rows_of_words [] = []
rows_of_words (command ∷ rest) = row_for (codes "command") command ∷ rows_given rest

pub words_end : (t : WordTable) → is_sound t ≡ true → (words : List Text) → is_plain t words ≡ true → Ends (shape_built t) (walk_from nothing_held) words (rows_of_words words)
unfolding walk_passes
words_end t sound [] e = absurd (true≢false (sym e))
words_end t sound ([] ∷ rest) e =
    let begins = begins_listed t.commands [] (both (list_all begins_plainly t.commands) _ sound).0 (both (is_among t.commands []) _ e).0 in
    absurd (true≢false (sym begins))
words_end t sound ((b ∷ v) ∷ rest) e =
    let p = both (is_among t.commands (b ∷ v)) _ e in
    let q = both (list_all begins_plainly t.commands) _ sound in
    let plain = is_not _ (begins_listed t.commands (b ∷ v) q.0 p.0) in
    let ends = options_end t q.1 rest [] [] (codes "command") (b ∷ v) (command_settles t) refl (λ name good none. (refl, not_command name good)) p.1 in
    let first = first_step t b v plain in
    record {
      rows = ends.rows;
      id = ends.id;
      text = ends.text;
      stands = ap (λ (w : Walk). fold (walked (rules_built t) []) w rest) first ∙ ends.stands;
      settles = ends.settles;
      none = ends.none;
      is = ends.is;
      passes = rw (first_turn t b v plain, first) ends.passes;
    }

-- ---- after the walk

same_both : {X : Type 0} (b : Bool) (x : X) → cond b x x ≡ x
same_both true x = refl
same_both false x = refl

no_defaults : (rows : List Row) (os : List Choice) → fold with_default rows (map (λ o. option_built o.name) os) ≡ rows
no_defaults rows [] = refl
no_defaults rows (o ∷ os) = ap (λ (rs : List Row). fold with_default rs (map (λ p. option_built p.name) os)) (same_both (has_row o.name rows) rows) ∙ no_defaults rows os

none_left : (t : WordTable) (rows : List Row) → fold with_default rows (rules_built t) ≡ rows
none_left t rows = ap (λ (rs : List Row). fold with_default rs (map (λ p. option_built p.name) t.choices)) (same_both (has_row (codes "command") rows) rows) ∙ no_defaults rows t.choices

defaults_pass : (os : List Choice) → list_all default_passes (map (λ o. option_built o.name) os) ≡ true
defaults_pass [] = refl
defaults_pass (o ∷ os) = defaults_pass os

all_free : (os : List Choice) → list_all (λ (a : Rule). a.is_free) (map (λ o. option_built o.name) os) ≡ true
all_free [] = refl
all_free (o ∷ os) = all_free os

none_required : (rows : List Row) (os : List Choice) → list_all (λ (a : Rule). not a.required || is_given a.id rows) (map (λ o. option_built o.name) os) ≡ true
none_required rows [] = refl
none_required rows (o ∷ os) = none_required rows os

-- the rows at the end
pub end_rows : (t : WordTable) (words : List Text) (all : List Row) → Ends (shape_built t) (walk_from nothing_held) words all
    → finished (rules_built t) (walk (rules_built t) [] nothing_held words).held ≡ all
end_rows t words all ends =
    ap (λ (w : Walk). finished (rules_built t) w.held) ends.stands
    ∙ rw (ends.settles.found, ends.settles.uses ends.text ends.rows ends.none) (none_left t (ends.rows ++ row_for ends.id ends.text ∷ []))
    ∙ ends.is

pub matches_are : (t : WordTable) → is_sound t ≡ true → (words : List Text) → is_plain t words ≡ true → matches_of (app t) words ≡ rows_of_words words
matches_are t sound words e =
    ap (λ (b : App). rows_after b.top.rules (names_of b) words) (app_built t) ∙ end_rows t words _ (words_end t sound words e)

valid_end : (t : WordTable) (command : Text) (rest : List Row) → is_valid (shape_built t) (row_for (codes "command") command ∷ rest) false ≡ true
valid_end t command rest = rw (all_free t.choices, none_required (row_for (codes "command") command ∷ rest) t.choices) refl

level : (t : WordTable) → is_sound t ≡ true → (words : List Text) → is_plain t words ≡ true → level_passes (shape_built t) [] nothing_held words false ≡ true
level t sound [] e = absurd (true≢false (sym e))
level t sound (command ∷ rest) e =
    let ends = words_end t sound (command ∷ rest) e in
    let valid = valid_end t command (rows_given rest) in
    let settles : settle_passes (rules_built t) false (walk (rules_built t) [] nothing_held (command ∷ rest)).held ≡ true =
    ap (λ (w : Walk). settle_passes (rules_built t) false w.held) ends.stands ∙ rw (ends.settles.found, ends.settles.passes ends.text ends.rows ends.none) refl in
    all_of_four _ _ _ _ ends.passes settles (defaults_pass t.choices)
    (ap (λ (rows : List Row). is_valid (shape_built t) rows false) (end_rows t (command ∷ rest) _ ends) ∙ valid)
  where
    all_of_four : (a b c d : Bool) → a ≡ true → b ≡ true → c ≡ true → d ≡ true → (a && (b && (c && d))) ≡ true
    all_of_four a b c d p q r s = rw (p, q, r, s) refl

pub plain_takes : (t : WordTable) → is_sound t ≡ true → (words : List Text) → is_plain t words ≡ true → takes (app t) words ≡ true
plain_takes t sound words e =
    rw (app_is_simple t) (ap (λ (b : App). built_takes b nothing_held words) (app_built t) ∙ leaf_takes (with_rules (rules_built t)) nothing_held words refl (level t sound words e))

-- no argument has a rule on another, so the kinds of error are stated too
pub app_is_free : (t : WordTable) → is_simple_and_free (app t) ≡ true
app_is_free t = rw (app_is_simple t) (ap is_free_app (app_built t) ∙ rw (all_free t.choices) refl)
