-- The records of a text that is cut in two are those of its front, and behind them those of its back.
use Rattle.std.proofs.Common.{◌≡◌, ◌≢◌, ◌∙◌, ◌≤◌, ◌<◌, ◌+◌, ◌++◌, ℕ, List, [], ◌∷◌, length, Option, Some, None, get_or, take, drop, refl, sym, ap, subst, arith, Bool, true, false}
use Rattle.std.specs.Prelude.{◌==◌, ⊤, if◌then◌else◌, is_some, slice_get, MatchOption}
use Rattle.std.specs.Option.{option_eq}
use lib.Dec.{eqb}
use Rattle.std.specs.List.{All}
use Rattle.std.proofs.lemmas.Bool.{eqb-true, ne_eqb}
use Rattle.std.proofs.lemmas.List.Elements.{All-head, All-tail, All-drop, All-from_get_or}
use Rattle.std.proofs.lemmas.List.{get_or-drop, length-drop, take-append-drop, take_more}
use Rattle.csv.specs.Machine.{Read, next_record, step, in_field, start_field, start_record, is_end, ends_at_end, fields_after, field_after, line_feed}
use Rattle.csv.specs.Reading.{Reached, AreRecords, default_config, records, strip_bom, is_bom}
use Rattle.csv.specs.declared.parser.Config.{Config}
use Rattle.csv.specs.declared.parser.Action.{Action}
use Rattle.csv.specs.declared.parser.State.{State}
use Rattle.csv.specs.declared.parser.State.TheVariants as st
use Rattle.omega_model.specs.Rows.{records_of}
use Rattle.omega_model.proofs.Records.{are_all}
use Rattle.omega_tables.specs.Cutting.{MayCut, EndsLine, double_quote, mark_byte}

-- all records of a text from a state on, with the fields of the first and the field at hand
abbrev pub all_from : Config → State → List (List ℕ) → List ℕ → List ℕ → List (List (List ℕ))
all_from cfg s fields field [] = if ends_at_end s then (fields ++ (field ∷ [])) ∷ [] else []
all_from cfg s fields field (c ∷ rest) =
    if is_end (step cfg s c).1 then fields_after (step cfg s c).1 fields field ∷ all_from cfg (step cfg s c).0 [] [] rest
    else all_from cfg (step cfg s c).0 (fields_after (step cfg s c).1 fields field) (field_after (step cfg s c).1 c field) rest

-- these rows are the next record, where there is one, and all behind it
abbrev pub Continues : Config → Option Read → List (List (List ℕ)) → Type 0
Continues cfg None rows = rows ≡ []
Continues cfg (Some read) rows = (others : List (List (List ℕ))) × (rows ≡ read.0 ∷ others) × AreRecords cfg read.1 read.2 others

are_records : (cfg : Config) (s : State) (xs : List ℕ) (rows : List (List (List ℕ))) (next : Option Read)
    → next_record cfg s [] [] xs ≡ next → Continues cfg next rows → AreRecords cfg s xs rows
unfolding Reached
are_records cfg s xs rows None e h = rw h (s, xs, (refl, refl), e)
are_records cfg s xs rows (Some read) e h = rw h.1 (h.2.0, h.2.1, (read, e, refl, h.2.2), h.2.3)

continues : (cfg : Config) (s : State) (fields : List (List ℕ)) (field xs : List ℕ)
    → Continues cfg (next_record cfg s fields field xs) (all_from cfg s fields field xs)
unfolding next_record Reached
continues cfg s fields field [] = by (ends_at_end s) refl
  where
    by : (b : Bool) → ends_at_end s ≡ b → Continues cfg (next_record cfg s fields field []) (all_from cfg s fields field [])
    by true e = rw e ([], refl, (st.StartRecord, [], (refl, refl), refl))
    by false e = rw e refl
continues cfg s fields field (c ∷ rest) = by (is_end (step cfg s c).1) refl (continues cfg (step cfg s c).0 [] [] rest)
    (continues cfg (step cfg s c).0 (fields_after (step cfg s c).1 fields field) (field_after (step cfg s c).1 c field) rest)
  where
    by : (b : Bool) → is_end (step cfg s c).1 ≡ b
        → Continues cfg (next_record cfg (step cfg s c).0 [] [] rest) (all_from cfg (step cfg s c).0 [] [] rest)
        → Continues cfg (next_record cfg (step cfg s c).0 (fields_after (step cfg s c).1 fields field) (field_after (step cfg s c).1 c field) rest)
        (all_from cfg (step cfg s c).0 (fields_after (step cfg s c).1 fields field) (field_after (step cfg s c).1 c field) rest)
        → Continues cfg (next_record cfg s fields field (c ∷ rest)) (all_from cfg s fields field (c ∷ rest))
    by true e new same = rw e (all_from cfg (step cfg s c).0 [] [] rest, refl, are_records cfg (step cfg s c).0 rest _ _ refl new)
    by false e new same = rw e same

-- they are what `records` lists
pub records_are : (cfg : Config) (xs : List ℕ) → records cfg xs ≡ all_from cfg st.StartRecord [] [] xs
records_are cfg xs =
    let all = are_records cfg st.StartRecord xs (all_from cfg st.StartRecord [] [] xs) _ refl (continues cfg st.StartRecord [] [] xs) in
    are_all cfg xs (all_from cfg st.StartRecord [] [] xs) all.0 all.1 all.2 all.3

-- the state after a text
abbrev pub state_after : State → List ℕ → State
state_after s [] = s
state_after s (c ∷ rest) = state_after (step default_config s c).0 rest

-- between records nothing is at hand
abbrev pub Fresh : State → List (List ℕ) → List ℕ → Type 0
Fresh st.StartRecord fields field = (fields ≡ []) × (field ≡ [])
Fresh st.AfterCr fields field = (fields ≡ []) × (field ≡ [])
Fresh st.InComment fields field = (fields ≡ []) × (field ≡ [])
Fresh st.StartField fields field = ⊤
Fresh st.InField fields field = ⊤
Fresh st.InQuoted fields field = ⊤
Fresh st.AfterQuote fields field = ⊤
Fresh st.InEscape fields field = ⊤

fresh_new : (s : State) → Fresh s [] []
fresh_new st.StartRecord = (refl, refl)
fresh_new st.AfterCr = (refl, refl)
fresh_new st.InComment = (refl, refl)
fresh_new st.StartField = tt
fresh_new st.InField = tt
fresh_new st.InQuoted = tt
fresh_new st.AfterQuote = tt
fresh_new st.InEscape = tt

-- a byte that ends no record leaves nothing at hand where it leads between records
abbrev pub StaysFresh : State × Action → List (List ℕ) → List ℕ → ℕ → Type 0
StaysFresh next fields field c = is_end next.1 ≡ false → Fresh next.0 (fields_after next.1 fields field) (field_after next.1 c field)

in_field_fresh : (fields : List (List ℕ)) (field : List ℕ) (c : ℕ) → StaysFresh (in_field default_config c) fields field c
in_field_fresh fields field c = by (c == 44) (c == 13) (c == 10) refl refl refl
  where
    by : (comma return feed : Bool) → (c == 44) ≡ comma → (c == 13) ≡ return → (c == 10) ≡ feed → StaysFresh (in_field default_config c) fields field c
    by true return feed a b d = rw a (λ e. tt)
    by false true feed a b d = rw (a, b) (λ e. cc e)
    by false false true a b d = rw (a, b, d) (λ e. cc e)
    by false false false a b d = rw (a, b, d) (λ e. tt)

start_field_fresh : (fields : List (List ℕ)) (field : List ℕ) (c : ℕ) → StaysFresh (start_field default_config c) fields field c
start_field_fresh fields field c = by (c == 34) refl
  where
    by : (quote : Bool) → (c == 34) ≡ quote → StaysFresh (start_field default_config c) fields field c
    by true a = rw a (λ e. tt)
    by false a = rw a (in_field_fresh fields field c)

start_record_fresh : (c : ℕ) → StaysFresh (start_record default_config c) [] [] c
start_record_fresh c = by (c == 13) (c == 10) refl refl
  where
    by : (return feed : Bool) → (c == 13) ≡ return → (c == 10) ≡ feed → StaysFresh (start_record default_config c) [] [] c
    by true feed a b = rw a (λ e. (refl, refl))
    by false true a b = rw (a, b) (λ e. (refl, refl))
    by false false a b = rw (a, b) (rw (a, b) at (start_field_fresh [] [] c))

quoted_fresh : (fields : List (List ℕ)) (field : List ℕ) (c : ℕ) → StaysFresh (step default_config st.InQuoted c) fields field c
quoted_fresh fields field c = by (c == 34) refl
  where
    by : (quote : Bool) → (c == 34) ≡ quote → StaysFresh (step default_config st.InQuoted c) fields field c
    by true a = rw a (λ e. tt)
    by false a = rw a (λ e. tt)

behind_quote_fresh : (fields : List (List ℕ)) (field : List ℕ) (c : ℕ) → StaysFresh (step default_config st.AfterQuote c) fields field c
behind_quote_fresh fields field c = by (c == 34) refl
  where
    by : (quote : Bool) → (c == 34) ≡ quote → StaysFresh (step default_config st.AfterQuote c) fields field c
    by true a = rw a (λ e. tt)
    by false a = rw a (in_field_fresh fields field c)

comment_fresh : (c : ℕ) → StaysFresh (step default_config st.InComment c) [] [] c
comment_fresh c = by (c == 10) refl
  where
    by : (feed : Bool) → (c == 10) ≡ feed → StaysFresh (step default_config st.InComment c) [] [] c
    by true a = rw a (λ e. (refl, refl))
    by false a = rw a (λ e. (refl, refl))

behind_return_fresh : (c : ℕ) → StaysFresh (step default_config st.AfterCr c) [] [] c
behind_return_fresh c = by (c == 10) refl
  where
    by : (feed : Bool) → (c == 10) ≡ feed → StaysFresh (step default_config st.AfterCr c) [] [] c
    by true a = rw a (λ e. (refl, refl))
    by false a = rw a (rw a at (start_record_fresh c))

stays_fresh : (s : State) (fields : List (List ℕ)) (field : List ℕ) (c : ℕ) → Fresh s fields field → StaysFresh (step default_config s c) fields field c
stays_fresh st.StartRecord fields field c fresh = rw (fresh.0, fresh.1) (start_record_fresh c)
stays_fresh st.StartField fields field c fresh = start_field_fresh fields field c
stays_fresh st.InField fields field c fresh = in_field_fresh fields field c
stays_fresh st.InQuoted fields field c fresh = quoted_fresh fields field c
stays_fresh st.AfterQuote fields field c fresh = behind_quote_fresh fields field c
stays_fresh st.InEscape fields field c fresh = λ e. tt
stays_fresh st.InComment fields field c fresh = rw (fresh.0, fresh.1) (comment_fresh c)
stays_fresh st.AfterCr fields field c fresh = rw (fresh.0, fresh.1) (behind_return_fresh c)

-- where a text leads to the state of a new record, the records of what follows stand behind its own
cut_from : (s : State) (fields : List (List ℕ)) (field xs ys : List ℕ) → Fresh s fields field → state_after s xs ≡ st.StartRecord
    → all_from default_config s fields field (xs ++ ys) ≡ all_from default_config s fields field xs ++ all_from default_config st.StartRecord [] [] ys
cut_from s fields field [] ys fresh ends =
    let new = subst (λ (at : State). Fresh at fields field) ends fresh in
    rw (ends, new.0, new.1) refl
cut_from s fields field (c ∷ xs) ys fresh ends = by (is_end (step default_config s c).1) refl
    (cut_from (step default_config s c).0 [] [] xs ys (fresh_new (step default_config s c).0) ends)
    (cut_from (step default_config s c).0 (fields_after (step default_config s c).1 fields field) (field_after (step default_config s c).1 c field) xs ys)
  where
    by : (b : Bool) → is_end (step default_config s c).1 ≡ b
        → all_from default_config (step default_config s c).0 [] [] (xs ++ ys)
        ≡ all_from default_config (step default_config s c).0 [] [] xs ++ all_from default_config st.StartRecord [] [] ys
        → (Fresh (step default_config s c).0 (fields_after (step default_config s c).1 fields field) (field_after (step default_config s c).1 c field)
        → state_after (step default_config s c).0 xs ≡ st.StartRecord
        → all_from default_config (step default_config s c).0 (fields_after (step default_config s c).1 fields field) (field_after (step default_config s c).1 c field) (xs ++ ys)
        ≡ all_from default_config (step default_config s c).0 (fields_after (step default_config s c).1 fields field) (field_after (step default_config s c).1 c field) xs
        ++ all_from default_config st.StartRecord [] [] ys)
        → all_from default_config s fields field ((c ∷ xs) ++ ys) ≡ all_from default_config s fields field (c ∷ xs) ++ all_from default_config st.StartRecord [] [] ys
    by true e new same = rw e (ap (λ (rows : List (List (List ℕ))). fields_after (step default_config s c).1 fields field ∷ rows) new)
    by false e new same = rw e (same (stays_fresh s fields field c fresh e) ends)

-- outside of quotes
abbrev pub Unquoted : State → Type 0
Unquoted st.StartRecord = ⊤
Unquoted st.StartField = ⊤
Unquoted st.InField = ⊤
Unquoted st.AfterCr = ⊤
Unquoted st.InQuoted = ⊥
Unquoted st.AfterQuote = ⊥
Unquoted st.InEscape = ⊥
Unquoted st.InComment = ⊥

in_field_unquoted : (c : ℕ) → Unquoted (in_field default_config c).0
in_field_unquoted c = by (c == 44) (c == 13) (c == 10) refl refl refl
  where
    by : (comma return feed : Bool) → (c == 44) ≡ comma → (c == 13) ≡ return → (c == 10) ≡ feed → Unquoted (in_field default_config c).0
    by true return feed a b d = rw a tt
    by false true feed a b d = rw (a, b) tt
    by false false true a b d = rw (a, b, d) tt
    by false false false a b d = rw (a, b, d) tt

start_record_unquoted : (c : ℕ) → (c == 34) ≡ false → Unquoted (start_record default_config c).0
start_record_unquoted c plain = by (c == 13) (c == 10) refl refl
  where
    by : (return feed : Bool) → (c == 13) ≡ return → (c == 10) ≡ feed → Unquoted (start_record default_config c).0
    by true feed a b = rw a tt
    by false true a b = rw (a, b) tt
    by false false a b = rw (a, b, plain) (rw (a, b) at (in_field_unquoted c))

behind_return_unquoted : (c : ℕ) → (c == 34) ≡ false → Unquoted (step default_config st.AfterCr c).0
behind_return_unquoted c plain = by (c == 10) refl
  where
    by : (feed : Bool) → (c == 10) ≡ feed → Unquoted (step default_config st.AfterCr c).0
    by true a = rw a tt
    by false a = rw a (rw a at (start_record_unquoted c plain))

stays_unquoted : (s : State) (c : ℕ) → (c == 34) ≡ false → Unquoted s → Unquoted (step default_config s c).0
stays_unquoted st.StartRecord c plain h = start_record_unquoted c plain
stays_unquoted st.StartField c plain h = rw plain (in_field_unquoted c)
stays_unquoted st.InField c plain h = in_field_unquoted c
stays_unquoted st.AfterCr c plain h = behind_return_unquoted c plain
stays_unquoted st.InQuoted c plain h = absurd h
stays_unquoted st.AfterQuote c plain h = absurd h
stays_unquoted st.InEscape c plain h = absurd h
stays_unquoted st.InComment c plain h = absurd h

line_ends : (s : State) → Unquoted s → (step default_config s line_feed).0 ≡ st.StartRecord
line_ends st.StartRecord h = refl
line_ends st.StartField h = refl
line_ends st.InField h = refl
line_ends st.AfterCr h = refl
line_ends st.InQuoted h = absurd h
line_ends st.AfterQuote h = absurd h
line_ends st.InEscape h = absurd h
line_ends st.InComment h = absurd h

-- whole lines without quotes lead to the state of a new record
lines_end : (s : State) (before : List ℕ) → Unquoted s → All (λ byte. byte ≢ double_quote) (before ++ line_feed ∷ []) → state_after s (before ++ line_feed ∷ []) ≡ st.StartRecord
lines_end s [] h plain = line_ends s h
lines_end s (c ∷ before) h plain =
    lines_end (step default_config s c).0 before (stays_unquoted s c (ne_eqb c 34 (All-head (λ byte. byte ≢ double_quote) c (before ++ line_feed ∷ []) plain)) h)
    (All-tail (λ byte. byte ≢ double_quote) c (before ++ line_feed ∷ []) plain)

-- records of whole lines without quotes, and of what follows
lines_then : (front back : List ℕ) → EndsLine front → All (λ byte. byte ≢ double_quote) front
    → records default_config (front ++ back) ≡ records default_config front ++ records default_config back
lines_then front back line plain =
    let plain_lines = subst (All (λ byte. byte ≢ double_quote)) line.1 plain in
    let ends : state_after st.StartRecord front ≡ st.StartRecord = rw line.1 (lines_end st.StartRecord line.0 tt plain_lines) in
    rw (records_are default_config (front ++ back), records_are default_config front, records_are default_config back)
    (cut_from st.StartRecord [] [] front back (refl, refl) ends)

-- no byte order mark begins with another byte
pub unmarked_text : (text : List ℕ) → get_or text 0 0 ≢ mark_byte → strip_bom text ≡ text
unfolding strip_bom
unmarked_text [] h = refl
unmarked_text (a ∷ []) h = refl
unmarked_text (a ∷ b ∷ []) h = refl
unmarked_text (a ∷ b ∷ c ∷ rest) h = rw (ne_eqb a 0xEF h) refl

-- what is left of whole lines without their first three bytes is whole lines
line_behind : (a b c d : ℕ) (rest : List ℕ) → EndsLine (a ∷ b ∷ c ∷ d ∷ rest) → EndsLine (d ∷ rest)
line_behind a b c d rest ([], e) = cc e
line_behind a b c d rest (x ∷ [], e) = cc e
line_behind a b c d rest (x ∷ y ∷ [], e) = cc e
line_behind a b c d rest (x ∷ y ∷ z ∷ more, e) = (more, ap (λ (text : List ℕ). drop 3 text) e)

-- the records of a text that may be cut are those of its front, and behind them those of its back
pub cut_records : (front back : List ℕ) → MayCut front back → records_of (front ++ back) ≡ records_of front ++ records_of back
unfolding strip_bom
cut_records front back may = by front may.line may.unquoted may.long
  where
    by : (text : List ℕ) → EndsLine text → All (λ byte. byte ≢ double_quote) text → 4 ≤ length text → records_of (text ++ back) ≡ records_of text ++ records_of back
    by [] line quoteless long = absurd (omega (arith, long))
    by (a ∷ []) line quoteless long = absurd (omega (arith, long))
    by (a ∷ b ∷ []) line quoteless long = absurd (omega (arith, long))
    by (a ∷ b ∷ c ∷ []) line quoteless long = absurd (omega (arith, long))
    by (a ∷ b ∷ c ∷ d ∷ rest) line quoteless long = rw (unmarked_text back may.unmarked) (marked (is_bom a b c) refl)
      where
        marked : (mark : Bool) → is_bom a b c ≡ mark
            → records default_config (strip_bom ((a ∷ b ∷ c ∷ d ∷ rest) ++ back)) ≡ records default_config (strip_bom (a ∷ b ∷ c ∷ d ∷ rest)) ++ records default_config back
        marked true e = rw e (lines_then (d ∷ rest) back (line_behind a b c d rest line) (All-drop (λ byte. byte ≢ double_quote) 3 (a ∷ b ∷ c ∷ d ∷ rest) quoteless))
        marked false e = rw e (lines_then (a ∷ b ∷ c ∷ d ∷ rest) back line quoteless)

-- the same of a text that is both
pub whole_records : (text front back : List ℕ) → text ≡ front ++ back → MayCut front back → records_of text ≡ records_of front ++ records_of back
whole_records text front back whole may = rw whole (cut_records front back may)

-- what holds where a search finds nothing
pub none_found : {none : Type 0} (some : ℕ → Type 0) (found : Option ℕ) → false ≡ is_some found → MatchOption found none some → none
none_found some None e h = h
none_found some (Some place) e h = cc e

pub other_byte : (text : List ℕ) → false ≡ option_eq eqb (slice_get text 0) (Some mark_byte) → get_or text 0 0 ≢ mark_byte
other_byte [] h = λ e. cc e
other_byte (a ∷ rest) h = λ e. cc (rw e at h)

-- behind a line feed a text may be cut, where there is no quote in the front and no mark at the cut
pub may_cut : (text second front back : List ℕ) (half found : ℕ) → second ≡ drop half text → found < length second → (get_or second found 0 == line_feed) ≡ true
    → front ≡ take (half + found + 1) text → back ≡ drop (half + found + 1) text → 4 ≤ length front
    → ((place : ℕ) → 0 ≤ place → place < length front → ¬ ((get_or front place 0 == double_quote) ≡ true))
    → false ≡ option_eq eqb (slice_get back 0) (Some mark_byte) → (text ≡ front ++ back) × MayCut front back
may_cut text second front back half found s below feed f b long plain mark =
    let size = length-drop half text in
    let same = ap (λ (bytes : List ℕ). length bytes) s in
    let within : half + found < length text = omega (arith, size, same, below) in
    let byte : get_or text (half + found) 0 ≡ line_feed = sym (get_or-drop half text found 0) ∙ ap (λ (bytes : List ℕ). get_or bytes found 0) (sym s) ∙ eqb-true (get_or second found 0) line_feed feed in (
      sym (take-append-drop (half + found + 1) text) ∙ rw (f, b) refl,
      record {
        line = (take (half + found) text, f ∙ take_more text (half + found) 0 within ∙ ap (λ (c : ℕ). take (half + found) text ++ c ∷ []) byte);
        unquoted = All-from_get_or (λ byte. byte ≢ double_quote) front 0 (λ place lt e. plain place (omega arith) lt (rw e refl));
        long = long;
        unmarked = other_byte back mark;
      },
    )
