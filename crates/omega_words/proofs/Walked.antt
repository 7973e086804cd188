-- clap's walk over plain words.
use Rattle.std.proofs.Common.{◌≡◌, ◌&&◌, ◌||◌, ℕ, List, [], ◌∷◌, ◌++◌, Bool, cond, true, false, not, refl, ◌==◌, Some, None, ap, sym, subst, ◌∙◌, fold, find, true≢false, append-nil, append_assoc, drop, arith, is_some, Option, if◌then◌else◌, nat_lt, nat_le, ◌^◌, length}
use Rattle.std.specs.List.{list_all, list_any}
use Rattle.std.specs.Option.{option_and_then, option_map_or}
use Rattle.omega_model.specs.Numbers.{is_digits, longest_number, whole}
use Rattle.std.specs.Str.Parse.{digits_value}
use Rattle.std.specs.Str.{all_ascii_digits, bytes_eq}
use Rattle.std.specs.Char.{is_ascii_digit}
use Rattle.std.proofs.lemmas.List.Folds.{list_any-append}
use Rattle.clap.specs.Words.{Row, Rule, Text}
use Rattle.clap.specs.Lexer.{long_of, short_of}
use Rattle.clap.specs.Walk.{Walk, option, idle, has_row, walked}
use Rattle.clap.specs.Takes.{turn_passes, walk_passes}
use Rattle.clap.specs.Simple.{Shape}
use Rattle.omega_model.specs.Options.{Choice, Values, WordTable, a_path, a_number, one_of, is_among, is_value, dashed}
use Rattle.omega_model.specs.PlainWords.{begins_plainly, is_plain_value, pair_is_plain, options_are_plain}
use Rattle.omega_words.proofs.Sound.{is_name, names_begin_plainly}
use Rattle.omega_words.proofs.Built.{IsOption, Settles, both, neither, is_not, option_of, option_settles, row_for, rules_built, same_text, text_itself, with_rules}

-- ---- a text that begins with no hyphen

pub no_long : (b : ℕ) (v : Text) → (b == 45) ≡ false → long_of (b ∷ v) ≡ None
no_long b v e = rw e refl

pub no_short : (b : ℕ) (v : Text) → (b == 45) ≡ false → short_of (b ∷ v) ≡ None
no_short b v e = rw e refl

pub no_dashes : (b : ℕ) (v : Text) → (b == 45) ≡ false → bytes_eq (b ∷ v) (45 ∷ 45 ∷ []) ≡ false
no_dashes b v e = rw e refl

-- ---- two words of the walk

-- the walk after an option and its value: `rows` are settled, and `text` is the pending value of `id`
abbrev pub standing : List Row → Text → Text → Walk
standing rows id text = record {
  held = record { rows = rows; pending = Some (id, text ∷ []); skip = 0 };
  waiting = idle;
  position = 2;
  is_trailing = false;
  stopped = None;
}

-- the option's word settles what was pending, and the option waits
abbrev pub asking : List Row → Text → Walk
asking rows id = record {
  held = record { rows = rows; pending = Some (id, []); skip = 0 };
  waiting = option id;
  position = 2;
  is_trailing = false;
  stopped = None;
}

pub option_step : (c : List Rule) (rows : List Row) (id text name : Text) → IsOption c name → (s : Settles c id) → has_row id rows ≡ false
    → walked c [] (standing rows id text) (dashed name) ≡ asking (rows ++ row_for id text ∷ []) name
unfolding walked
option_step c rows id text name o s none = rw (o.other, o.read, o.long, s.found, s.uses text rows none) refl

pub option_turn : (s : Shape) (rows : List Row) (id text name : Text) → s.args_override_self ≡ false → IsOption s.rules name → (r : Settles s.rules id) → has_row id rows ≡ false
    → turn_passes s [] (standing rows id text) (dashed name) ≡ true
option_turn s rows id text name once o r none = rw (o.other, o.read, o.long, r.found, once, r.passes text rows none) refl

pub value_step : (c : List Rule) (rows : List Row) (name : Text) (b : ℕ) (v : Text) → IsOption c name → (b == 45) ≡ false
    → walked c [] (asking rows name) (b ∷ v) ≡ standing rows name (b ∷ v)
unfolding walked
value_step c rows name b v o e = rw (no_dashes b v e, no_long b v e, no_short b v e, o.mine, text_itself name) refl

pub value_turn : (s : Shape) (rows : List Row) (name : Text) (b : ℕ) (v : Text) → IsOption s.rules name → (b == 45) ≡ false
    → turn_passes s [] (asking rows name) (b ∷ v) ≡ true
value_turn s rows name b v o e = rw (no_dashes b v e, no_long b v e, no_short b v e) refl

or_right : (a b : Bool) → b ≡ true → (a || b) ≡ true
or_right true b e = refl
or_right false b e = e

or_left : (a b : Bool) → a ≡ true → (a || b) ≡ true
or_left true b e = refl
or_left false b e = absurd (true≢false (sym e))

-- ---- what plain words say of an option and its value

pub begins_listed : (names : List Text) (text : Text) → list_all begins_plainly names ≡ true → is_among names text ≡ true → begins_plainly text ≡ true
begins_listed [] text all e = absurd (true≢false (sym e))
begins_listed (name ∷ names) text all e = go (bytes_eq name text) refl e (λ h. begins_listed names text (both (begins_plainly name) _ all).1 h)
  where
    go : (b : Bool) → bytes_eq name text ≡ b → (b || is_among names text) ≡ true → (is_among names text ≡ true → begins_plainly text ≡ true) → begins_plainly text ≡ true
    go true same e rest = subst (λ x. begins_plainly x ≡ true) (same_text name text same) (both (begins_plainly name) _ all).0
    go false other e rest = rest e

digit_begins : (b : ℕ) → is_ascii_digit b ≡ true → not (b == 45) ≡ true
digit_begins b e = grind (arith, e)

is_read : (keep : ℕ → Option ℕ) (p : Bool) (number : ℕ) → is_some (option_and_then keep (if p then Some number else None)) ≡ true → p ≡ true
is_read keep true number e = refl
is_read keep false number e = absurd (true≢false (sym e))

-- a text that gives a number has digits alone
digits_of : (keep : ℕ → Option ℕ) (text : Text) → is_some (option_and_then keep (whole text)) ≡ true → all_ascii_digits text ≡ true
digits_of keep text e =
    let p = is_read keep (is_digits text && nat_le (length text) longest_number && nat_lt (digits_value 10 text) (2 ^ 64)) (digits_value 10 text) e in
    let q = both (is_digits text && nat_le (length text) longest_number) _ p in
    (both (nat_lt 0 (length text)) (all_ascii_digits text) (both (is_digits text) _ q.0).0).1

begins_whole : (low high : ℕ) (text : Text) → is_value (a_number low high) text ≡ true → begins_plainly text ≡ true
begins_whole low high [] e = absurd (true≢false (sym e))
begins_whole low high (b ∷ rest) e =
    digit_begins b (both (is_ascii_digit b) _ (digits_of (λ n. if nat_le low n && nat_le n high then Some n else None) (b ∷ rest) e)).0

value_begins : (vs : Values) (text : Text) → names_begin_plainly vs ≡ true → is_plain_value vs text ≡ true → begins_plainly text ≡ true
value_begins a_path text sound e = e
value_begins (a_number low high) text sound e = begins_whole low high text e
value_begins (one_of names) text sound e = begins_listed names text sound e

pub record Pair (os : List Choice) (word text : Text) : Type 0 where
  pub name : Text
  pub is : word ≡ dashed name
  pub has : list_any (λ o. bytes_eq o.name name) os ≡ true
  pub names : is_name name ≡ true
  pub begins : begins_plainly text ≡ true

later : (o : Choice) (os : List Choice) (word text : Text) → Pair os word text → Pair (o ∷ os) word text
later o os word text p = record {
  name = p.name;
  is = p.is;
  has = or_right (bytes_eq o.name p.name) _ p.has;
  names = p.names;
  begins = p.begins;
}

pub pair_of : (os : List Choice) (word text : Text) → list_all (λ o. is_name o.name && names_begin_plainly o.values) os ≡ true
    → option_map_or (λ o. is_plain_value o.values text) (find (λ o. bytes_eq (dashed o.name) word) os) false ≡ true → Pair os word text
pair_of [] word text sound e = absurd (true≢false (sym e))
pair_of (o ∷ os) word text sound e = go (bytes_eq (dashed o.name) word) refl e (λ h. later o os word text (pair_of os word text (both (is_name o.name && names_begin_plainly o.values) _ sound).1 h))
  where
    mine : (is_name o.name ≡ true) × (names_begin_plainly o.values ≡ true)
    mine = both _ _ (both (is_name o.name && names_begin_plainly o.values) _ sound).0

    go : (b : Bool) → bytes_eq (dashed o.name) word ≡ b
        → option_map_or (λ (p : Choice). is_plain_value p.values text) (cond b (Some o) (find (λ (p : Choice). bytes_eq (dashed p.name) word) os)) false ≡ true
        → (option_map_or (λ (p : Choice). is_plain_value p.values text) (find (λ (p : Choice). bytes_eq (dashed p.name) word) os) false ≡ true → Pair (o ∷ os) word text)
        → Pair (o ∷ os) word text
    go true same e rest = record {
      name = o.name;
      is = sym (same_text (dashed o.name) word same);
      has = or_left (bytes_eq o.name o.name) _ (text_itself o.name);
      names = mine.0;
      begins = value_begins o.values text mine.1 e;
    }
    go false other e rest = rest e

-- ---- the whole walk

-- the rows of options and their values
abbrev pub rows_given : List Text → List Row
rows_given [] = []
rows_given (word ∷ []) = []
rows_given (word ∷ text ∷ rest) = row_for (drop 2 word) text ∷ rows_given rest

-- an option that is not among those before has no row, and is not what is pending
abbrev pub Fresh : List Text → List Row → Text → Type 0
Fresh before rows id = (name : Text) → is_name name ≡ true → is_among before (dashed name) ≡ false → (has_row name rows ≡ false) × (bytes_eq id name ≡ false)

no_row_yet : (name id text : Text) (rows : List Row) → has_row name rows ≡ false → bytes_eq id name ≡ false → has_row name (rows ++ row_for id text ∷ []) ≡ false
no_row_yet name id text rows none other = list_any-append (λ (r : Row). bytes_eq r.id name) rows (row_for id text ∷ []) ∙ rw (none, other) refl

fresh_after : (before : List Text) (rows : List Row) (id text name : Text) → Fresh before rows id
    → Fresh (dashed name ∷ before) (rows ++ row_for id text ∷ []) name
fresh_after before rows id text name fresh other good away =
    let p = neither (bytes_eq (dashed name) (dashed other)) _ away in
    let q = fresh other good p.1 in
    (no_row_yet other id text rows q.0 q.1, p.0)

-- where the walk over the words ends: each word passes, and each option has its row
pub record Ends (s : Shape) (from : Walk) (words : List Text) (all : List Row) : Type 0 where
  pub rows : List Row
  pub id : Text
  pub text : Text
  pub stands : fold (walked s.rules []) from words ≡ standing rows id text
  pub settles : Settles s.rules id
  pub none : has_row id rows ≡ false
  pub is : rows ++ row_for id text ∷ [] ≡ all
  pub passes : walk_passes s [] from words ≡ true

abbrev pub shape_built : WordTable → Shape
shape_built t = (with_rules (rules_built t)).top

-- an option and its value before words that pass
pair_before : (t : WordTable) (rows : List Row) (id text name : Text) (b : ℕ) (v : Text) (rest : List Text) (all : List Row) → IsOption (rules_built t) name
    → Settles (rules_built t) id → has_row id rows ≡ false → (b == 45) ≡ false
    → Ends (shape_built t) (standing (rows ++ row_for id text ∷ []) name (b ∷ v)) rest all
    → Ends (shape_built t) (standing rows id text) (dashed name ∷ (b ∷ v) ∷ rest) all
unfolding walk_passes
pair_before t rows id text name b v rest all o s none plain ends =
    let c = rules_built t in
    let asked = option_step c rows id text name o s none in
    let answered = value_step c (rows ++ row_for id text ∷ []) name b v o plain in
    record {
      rows = ends.rows;
      id = ends.id;
      text = ends.text;
      stands = ap (λ (w : Walk). fold (walked c []) (walked c [] w (b ∷ v)) rest) asked ∙ ap (λ (w : Walk). fold (walked c []) w rest) answered ∙ ends.stands;
      settles = ends.settles;
      none = ends.none;
      is = ends.is;
      passes = rw (option_turn (shape_built t) rows id text name refl o s none, asked, value_turn (shape_built t) (rows ++ row_for id text ∷ []) name b v o plain, answered) ends.passes;
    }

abbrev pub choices_are_sound : WordTable → Bool
choices_are_sound t = list_all (λ o. is_name o.name && names_begin_plainly o.values) t.choices

pub options_end : (t : WordTable) → choices_are_sound t ≡ true → (rest before : List Text) (rows : List Row) (id text : Text) → Settles (rules_built t) id → has_row id rows ≡ false
    → Fresh before rows id → options_are_plain t before rest ≡ true
    → Ends (shape_built t) (standing rows id text) rest ((rows ++ row_for id text ∷ []) ++ rows_given rest)
unfolding walk_passes
options_end t sound [] before rows id text s none fresh e = record {
  rows = rows;
  id = id;
  text = text;
  stands = refl;
  settles = s;
  none = none;
  is = sym (append-nil (rows ++ row_for id text ∷ []));
  passes = refl;
}
options_end t sound (word ∷ []) before rows id text s none fresh e = absurd (true≢false (sym e))
options_end t sound (word ∷ [] ∷ rest) before rows id text s none fresh e =
    let p = both (not (is_among before word)) _ e in
    let q = both (pair_is_plain t word []) _ p.1 in
    let pair = pair_of t.choices word [] sound q.0 in
    absurd (true≢false (sym pair.begins))
options_end t sound (word ∷ (b ∷ v) ∷ rest) before rows id text s none fresh e =
    let p = both (not (is_among before word)) _ e in
    let q = both (pair_is_plain t word (b ∷ v)) _ p.1 in
    let pair = pair_of t.choices word (b ∷ v) sound q.0 in
    let o = option_of t pair.name pair.has pair.names in
    let away : is_among before (dashed pair.name) ≡ false = subst (λ w. is_among before w ≡ false) pair.is (is_not _ p.0) in
    let new = fresh pair.name pair.names away in
    let now : List Row = rows ++ row_for id text ∷ [] in
    let after : options_are_plain t (dashed pair.name ∷ before) rest ≡ true = subst (λ w. options_are_plain t (w ∷ before) rest ≡ true) pair.is q.1 in
    let ends = options_end t sound rest (dashed pair.name ∷ before) now pair.name (b ∷ v) (option_settles t pair.name o)
    (no_row_yet pair.name id text rows new.0 new.1) (fresh_after before rows id text pair.name fresh) after in
    subst (λ w. Ends (shape_built t) (standing rows id text) (w ∷ (b ∷ v) ∷ rest) (now ++ (row_for (drop 2 w) (b ∷ v) ∷ rows_given rest))) (sym pair.is)
    (pair_before t rows id text pair.name b v rest _ o s none (is_not _ pair.begins)
    (subst (Ends (shape_built t) (standing now pair.name (b ∷ v)) rest) (append_assoc now (row_for pair.name (b ∷ v) ∷ []) (rows_given rest)) ends))
