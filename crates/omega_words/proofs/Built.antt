-- The command of a table as clap builds it, and what it has for each option.
use Rattle.std.proofs.Common.{◌≡◌, ◌&&◌, ◌||◌, ℕ, List, [], ◌∷◌, ◌++◌, Bool, true, false, not, refl, codes, ◌==◌, Some, None, ap, sym, ◌∙◌, map, true≢false, append-nil, take, is_some, arith, suc, ◌+◌}
use Rattle.std.specs.List.{list_all, list_any, position_or_len, before_first, count_by}
use Rattle.std.specs.Str.{bytes_eq}
use Rattle.std.proofs.lemmas.Slice.Eq.{bytes_eq-Decides}
use Rattle.clap.specs.Words.{App, Row, Rule, Text, is_simple}
use Rattle.clap.specs.Lexer.{long_of}
use Rattle.clap.specs.Walk.{arg_by_id, arg_by_long, at_row, has_row, used, is_early_multiple, more_values}
use Rattle.clap.specs.Takes.{use_passes}
use Rattle.clap.specs.Simple.{is_buildable, is_ready, is_ready_leaf, filled, filled_from, with_index, built}
use Rattle.clap.specs.declared.parser.matches.ValueSource.TheVariants.{CommandLine}
use Rattle.clap.specs.Values.{reading_of}
use Rattle.clap.specs.declared.builder.value_parser.ValueParser.TheVariants as vp
use Rattle.omega_model.specs.Options.{Choice, WordTable, dashed}
use Rattle.omega_words.specs.Taken.{app, bare_app, command_rule, option_rule, option_rules}
use Rattle.omega_words.proofs.Sound.{is_name}

-- ---- booleans

pub both : (a b : Bool) → (a && b) ≡ true → (a ≡ true) × (b ≡ true)
both true b e = (refl, e)
both false b e = absurd (true≢false (sym e))

pub neither : (a b : Bool) → (a || b) ≡ false → (a ≡ false) × (b ≡ false)
neither true b e = absurd (true≢false e)
neither false b e = (refl, e)

pub is_not : (a : Bool) → not a ≡ true → a ≡ false
is_not true e = absurd (true≢false (sym e))
is_not false e = refl

pub same_text : (a b : Text) → bytes_eq a b ≡ true → a ≡ b
same_text a b e = (bytes_eq-Decides a b).0 e

pub text_itself : (a : Text) → bytes_eq a a ≡ true
text_itself a = (bytes_eq-Decides a a).1 refl

-- ---- the command as clap builds it

abbrev pub command_built : Rule
command_built = with_index 1 (filled command_rule)

abbrev pub option_built : Text → Rule
option_built name = filled (option_rule name)

abbrev pub rules_built : WordTable → List Rule
rules_built t = command_built ∷ map (λ o. option_built o.name) t.choices

abbrev pub with_rules : List Rule → App
with_rules rules = record { top = record (built bare_app).top { rules = rules }; subs = [] }

options_filled : (i : ℕ) (os : List Choice) → filled_from i (option_rules os) ≡ map (λ o. option_built o.name) os
options_filled i [] = refl
options_filled i (o ∷ os) = ap (λ (rs : List Rule). option_built o.name ∷ rs) (options_filled i os)

pub app_built : (t : WordTable) → built (app t) ≡ with_rules (rules_built t)
app_built t = ap (λ (rs : List Rule). with_rules (command_built ∷ rs)) (options_filled 2 t.choices)

simple_before : (os : List Choice) → list_all (λ (a : Rule). a.is_simple) (option_rules os) ≡ true
simple_before [] = refl
simple_before (o ∷ os) = simple_before os

simple_after : (os : List Choice) → list_all (λ (a : Rule). a.is_simple) (map (λ o. option_built o.name) os) ≡ true
simple_after [] = refl
simple_after (o ∷ os) = simple_after os

in_order : (n : ℕ) (os : List Choice) → list_any (is_early_multiple n) (map (λ o. option_built o.name) os) ≡ false
in_order n [] = refl
in_order n (o ∷ os) = in_order n os

pub app_is_simple : (t : WordTable) → is_simple (app t) ≡ true
app_is_simple t =
    ap (λ (b : App). is_buildable (app t) && (is_ready b.top && list_all is_ready_leaf b.subs)) (app_built t)
    ∙ rw (simple_before t.choices, simple_after t.choices, in_order (count_by (λ (a : Rule). is_some a.index) (rules_built t)) t.choices) refl

-- ---- the rule of an option

finds_long : (name : Text) (os : List Choice) → list_any (λ o. bytes_eq o.name name) os ≡ true
    → arg_by_long (map (λ o. option_built o.name) os) name ≡ Some (option_built name)
finds_long name [] e = absurd (true≢false (sym e))
finds_long name (o ∷ os) e = go (bytes_eq o.name name) refl e (λ h. finds_long name os h)
  where
    go : (b : Bool) → bytes_eq o.name name ≡ b → (b || list_any (λ (p : Choice). bytes_eq p.name name) os) ≡ true
        → (list_any (λ (p : Choice). bytes_eq p.name name) os ≡ true → arg_by_long (map (λ (p : Choice). option_built p.name) os) name ≡ Some (option_built name))
        → arg_by_long (map (λ p. option_built p.name) (o ∷ os)) name ≡ Some (option_built name)
    go true same e rest = rw same (ap (λ n. Some (option_built n)) (same_text o.name name same))
    go false other e rest = rw other (rest e)

finds_id : (name : Text) (os : List Choice) → list_any (λ o. bytes_eq o.name name) os ≡ true
    → arg_by_id (map (λ o. option_built o.name) os) name ≡ Some (option_built name)
finds_id name [] e = absurd (true≢false (sym e))
finds_id name (o ∷ os) e = go (bytes_eq o.name name) refl e (λ h. finds_id name os h)
  where
    go : (b : Bool) → bytes_eq o.name name ≡ b → (b || list_any (λ (p : Choice). bytes_eq p.name name) os) ≡ true
        → (list_any (λ (p : Choice). bytes_eq p.name name) os ≡ true → arg_by_id (map (λ (p : Choice). option_built p.name) os) name ≡ Some (option_built name))
        → arg_by_id (map (λ p. option_built p.name) (o ∷ os)) name ≡ Some (option_built name)
    go true same e rest = rw same (ap (λ n. Some (option_built n)) (same_text o.name name same))
    go false other e rest = rw other (rest e)

-- ---- a name is read back from its word

no_byte_cut : (xs : Text) → list_any (λ x. x == 61) xs ≡ false → before_first (λ x. x == 61) xs ≡ xs
no_byte_cut [] e = refl
no_byte_cut (x ∷ xs) e =
    let p = neither (x == 61) _ e in
    let more : 1 + position_or_len (λ y. y == 61) xs ≡ suc (position_or_len (λ y. y == 61) xs) = omega arith in
    rw p.0 (ap (λ k. take k (x ∷ xs)) more ∙ ap (λ ys. x ∷ ys) (no_byte_cut xs p.1))

-- what an option's word comes to
pub record IsOption (c : List Rule) (name : Text) : Type 0 where
  pub read : long_of (dashed name) ≡ Some (name, None)
  pub other : bytes_eq (dashed name) (45 ∷ 45 ∷ []) ≡ false
  pub apart : bytes_eq (codes "command") name ≡ false
  pub long : arg_by_long c name ≡ Some (option_built name)
  pub mine : arg_by_id c name ≡ Some (option_built name)

pub option_of : (t : WordTable) (name : Text) → list_any (λ o. bytes_eq o.name name) t.choices ≡ true → is_name name ≡ true → IsOption (rules_built t) name
option_of t [] has e = absurd (true≢false (sym e))
option_of t (x ∷ xs) has e =
    let p = both (not (list_any (λ y. y == 61) (x ∷ xs))) _ e in
    let none : list_any (λ y. y == 61) (x ∷ xs) ≡ false = is_not _ p.0 in
    let away : bytes_eq (codes "command") (x ∷ xs) ≡ false = is_not _ p.1 in
    record {
      read = rw (no_byte_cut (x ∷ xs) none, none) refl;
      other = refl;
      apart = away;
      long = finds_long (x ∷ xs) t.choices has;
      mine = rw away (finds_id (x ∷ xs) t.choices has);
    }

-- ---- rows

abbrev pub row_for : Text → Text → Row
row_for id text = record { id = id; values = text ∷ []; count = None; source = Some CommandLine; reading = reading_of vp.String }

pub at_absent : (id : Text) (change : Row → List Row) (missing rows : List Row) → has_row id rows ≡ false → at_row id change missing rows ≡ rows ++ missing
at_absent id change missing [] e = refl
at_absent id change missing (r ∷ rows) e =
    let p = neither (bytes_eq r.id id) _ e in
    rw p.0 (ap (λ rs. r ∷ rs) (at_absent id change missing rows p.1))

-- a use of the rule with one text adds its row, where there is none
pub record Settles (c : List Rule) (id : Text) : Type 0 where
  pub rule : Rule
  pub found : arg_by_id c id ≡ Some rule
  pub passes : (v : Text) (rows : List Row) → has_row id rows ≡ false → use_passes false rule (v ∷ []) rows ≡ true
  pub uses : (v : Text) (rows : List Row) → has_row id rows ≡ false → used rule (v ∷ []) rows ≡ rows ++ row_for id v ∷ []

pub command_settles : (t : WordTable) → Settles (rules_built t) (codes "command")
command_settles t = record {
  rule = command_built;
  found = refl;
  passes = λ v rows e. rw e refl;
  uses = λ v rows e. rw (at_absent (codes "command") (λ _. []) [] rows e, append-nil rows) (at_absent (codes "command") (more_values CommandLine (v ∷ [])) _ rows e);
}

pub option_settles : (t : WordTable) (name : Text) → IsOption (rules_built t) name → Settles (rules_built t) name
option_settles t name o = record {
  rule = option_built name;
  found = o.mine;
  passes = λ v rows e. rw e refl;
  uses = λ v rows e. rw (at_absent name (λ _. []) [] rows e, append-nil rows) (at_absent name (more_values CommandLine (v ∷ [])) _ rows e);
}

pub and_false : (a b : Bool) → b ≡ false → (a && b) ≡ false
and_false true b e = e
and_false false b e = refl
