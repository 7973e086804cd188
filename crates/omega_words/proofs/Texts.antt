-- What the matches of plain words give for each name.
use Rattle.std.proofs.Common.{◌≡◌, ◌&&◌, List, [], ◌∷◌, Bool, true, false, not, refl, codes, Some, None, Option, ap, sym, subst, ◌∙◌, true≢false, drop}
use Rattle.std.specs.List.{list_all}
use Rattle.std.specs.Option.{option_map_or}
use Rattle.std.specs.Str.{bytes_eq}
use Rattle.clap.specs.Words.{Text, first_of}
use Rattle.omega_model.specs.Options.{Choice, Values, WordTable, a_path, a_number, one_of, is_among, is_value, dashed, choice_at}
use Rattle.omega_model.specs.PlainWords.{begins_plainly, is_plain_value, pair_is_plain, options_are_plain, is_plain, text_after, text_given}
use Rattle.omega_words.specs.Taken.{text_in}
use Rattle.omega_words.proofs.Sound.{is_name, names_begin_plainly, is_sound, has_value, has_values}
use Rattle.omega_words.proofs.Built.{both, row_for, same_text}
use Rattle.omega_words.proofs.Walked.{choices_are_sound, pair_of, rows_given}
use Rattle.omega_words.proofs.Taken.{matches_are, not_command, rows_of_words}

-- the rows give each option's text
text_of_rows : (t : WordTable) → choices_are_sound t ≡ true → (rest before : List Text) (name : Text) → options_are_plain t before rest ≡ true
    → first_of name (rows_given rest) ≡ text_after (dashed name) rest
text_of_rows t sound [] before name e = refl
text_of_rows t sound (word ∷ []) before name e = refl
text_of_rows t sound (word ∷ text ∷ rest) before name e =
    let p = both (not (is_among before word)) _ e in
    let q = both (pair_is_plain t word text) _ p.1 in
    let pair = pair_of t.choices word text sound q.0 in
    subst (λ w. first_of name (row_for (drop 2 w) text ∷ rows_given rest) ≡ text_after (dashed name) (w ∷ text ∷ rest)) (sym pair.is)
    (go pair.name (bytes_eq pair.name name) refl (text_of_rows t sound rest (word ∷ before) name q.1))
  where
    go : (n : Text) (b : Bool) → bytes_eq n name ≡ b → first_of name (rows_given rest) ≡ text_after (dashed name) rest
        → first_of name (row_for n text ∷ rows_given rest) ≡ text_after (dashed name) (dashed n ∷ text ∷ rest)
    go n true same left = rw same refl
    go n false other left = rw other left

pub text_is : (t : WordTable) → is_sound t ≡ true → (words : List Text) → is_plain t words ≡ true → (name : Text) → text_in t words name ≡ text_given words name
text_is t sound [] e name = absurd (true≢false (sym e))
text_is t sound (command ∷ rest) e name =
    ap (first_of name) (matches_are t sound (command ∷ rest) e)
    ∙ go (bytes_eq (codes "command") name) refl (text_of_rows t (both (list_all begins_plainly t.commands) _ sound).1 rest [] name (both (is_among t.commands command) _ e).1)
  where
    go : (b : Bool) → bytes_eq (codes "command") name ≡ b → first_of name (rows_given rest) ≡ text_after (dashed name) rest
        → first_of name (rows_of_words (command ∷ rest)) ≡ text_given (command ∷ rest) name
    go true same left = rw same refl
    go false other left = rw other left

plain_value : (vs : Values) (text : Text) → is_plain_value vs text ≡ true → is_value vs text ≡ true
plain_value a_path text e = refl
plain_value (a_number low high) text e = e
plain_value (one_of names) text e = e

plain_has_value : (text : Text) (o : Option Choice) → option_map_or (λ (p : Choice). is_plain_value p.values text) o false ≡ true → option_map_or (λ (p : Choice). is_value p.values text) o false ≡ true
plain_has_value text None e = e
plain_has_value text (Some o) e = plain_value o.values text e

-- each option's text is one of its values
value_after : (t : WordTable) (word : Text) (rest before : List Text) → options_are_plain t before rest ≡ true → option_map_or (has_value t word) (text_after word rest) true ≡ true
value_after t word [] before e = refl
value_after t word (w ∷ []) before e = refl
value_after t word (w ∷ text ∷ rest) before e =
    let p = both (not (is_among before w)) _ e in
    let q = both (pair_is_plain t w text) _ p.1 in
    go (bytes_eq w word) refl (plain_has_value text (choice_at t w) q.0) (value_after t word rest (w ∷ before) q.1)
  where
    go : (b : Bool) → bytes_eq w word ≡ b → has_value t w text ≡ true → option_map_or (has_value t word) (text_after word rest) true ≡ true
        → option_map_or (has_value t word) (text_after word (w ∷ text ∷ rest)) true ≡ true
    go true same good left = rw same (subst (λ x. has_value t x text ≡ true) (same_text w word same) good)
    go false other good left = rw other left

has_values_given : (t : WordTable) (command : Text) (rest : List Text) → is_among t.commands command ≡ true → choices_are_sound t ≡ true → options_are_plain t [] rest ≡ true
    → has_values t (text_given (command ∷ rest)) ≡ true
has_values_given t command rest known sound e = rw known (each t.choices sound)
  where
    apart : (b : Bool) (name : Text) → bytes_eq (codes "command") name ≡ b → b ≡ false → option_map_or (has_value t (dashed name)) (text_given (command ∷ rest) name) true ≡ true
    apart b name is none = rw (is ∙ none) (value_after t (dashed name) rest [] e)

    each : (os : List Choice) → list_all (λ o. is_name o.name && names_begin_plainly o.values) os ≡ true
        → list_all (λ (o : Choice). option_map_or (has_value t (dashed o.name)) (text_given (command ∷ rest) o.name) true) os ≡ true
    each [] sound = refl
    each (o ∷ os) sound =
        let p = both (is_name o.name && names_begin_plainly o.values) _ sound in
        rw (apart (bytes_eq (codes "command") o.name) o.name refl (not_command o.name (both (is_name o.name) _ p.0).0)) (each os p.1)

-- the texts of plain words are such as the table has them
pub plain_has_values : (t : WordTable) → is_sound t ≡ true → (words : List Text) → is_plain t words ≡ true → has_values t (text_in t words) ≡ true
plain_has_values t sound [] e = absurd (true≢false (sym e))
plain_has_values t sound (command ∷ rest) e =
    let p = both (is_among t.commands command) _ e in
    let given = has_values_given t command rest p.0 (both (list_all begins_plainly t.commands) _ sound).1 p.1 in
    ap (has_values t) (λ i name. text_is t sound (command ∷ rest) e name i) ∙ given
