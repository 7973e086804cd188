-- Kept lines beside a history that grows.
use Rattle.std.proofs.Common.{◌≡◌, ◌≤◌, ◌<◌, ◌+◌, ℕ, zero, suc, true, false, List, [], ◌∷◌, ◌++◌, length, take, drop, Option, Some, None, refl, sym, ap, ap₂, subst, arith, ◌∙◌}
use Rattle.std.specs.Prelude.{slice_get, ◌⊎◌, ◌==◌, ◌||◌, if◌then◌else◌}
use Rattle.std.specs.Str.{bytes_eq}
use Rattle.std.proofs.lemmas.Bool.{eq-eqb, ne_eqb}
use Rattle.std.proofs.Math.ListN.{drop_of_length-le}
use Rattle.std.proofs.lemmas.List.{drop_all, length-drop, length-map, length-take-le, take-append-drop}
use Rattle.std.proofs.lemmas.Slice.Eq.{bytes_eq-Decides}
use Rattle.omega_model.proofs.Lists.{by_answer}
use Rattle.omega_model.specs.declared.entries.Entry.{Entry}
use Rattle.omega_keep.specs.Keeping.{Adds}
use Rattle.omega_keep.specs.KeptLines.{entry_text}
use Rattle.omega_model.specs.Lawful.{begins_round}
use Rattle.omega_keep.specs.Resumed.{ends_round, in_common, lines_of, refused_for}
use Rattle.omega_rounds.specs.Resuming.{Agree, RefusesRound, StopsAt, lines_behind}
use Rattle.omega_rounds.specs.declared.kept.ResumeRefusal.{ResumeRefusal}
use Rattle.omega_rounds.specs.declared.kept.ResumeRefusal.TheVariants.{BadKept, KeepFault, NoMemory}

-- the next of some items is the first of the rest
pub drop_next : {X : Type 0} (xs : List X) (n : ℕ) (x : X) → slice_get xs n ≡ Some x → drop n xs ≡ x ∷ drop (suc n) xs
drop_next [] n x is = absurd (cc)
drop_next (y ∷ xs) zero x is = let same : y ≡ x = cc in ap (λ z. z ∷ xs) same
drop_next (y ∷ xs) (suc n) x is = drop_next xs n x is

-- of two numbers one is no greater, or the other is less
pub cases_le : (m n : ℕ) → (m ≤ n) ⊎ (n < m)
cases_le m n = grind (arith)

-- the item at a place within a list
pub item_within : {X : Type 0} (xs : List X) (place : ℕ) → place < length xs → (x : X) × (slice_get xs place ≡ Some x)
item_within [] place within = absurd (omega (arith, within))
item_within (x ∷ xs) zero within = (x, refl)
item_within (x ∷ xs) (suc place) within = item_within xs place (omega (arith, within))

-- it stands there in a longer list
pub get_front : {X : Type 0} (xs ys : List X) (place : ℕ) (x : X) → slice_get xs place ≡ Some x → slice_get (xs ++ ys) place ≡ Some x
get_front [] ys place x is = absurd (cc)
get_front (y ∷ xs) ys zero x is = is
get_front (y ∷ xs) ys (suc place) x is = get_front xs ys place x is

-- of no entries none is kept
pub none_kept : (kept : List (List ℕ)) → in_common kept [] ≡ 0
none_kept [] = refl
none_kept (line ∷ lines) = refl

-- no more lines are the same than there are of either
pub common_within : (kept : List (List ℕ)) (history : List Entry) → in_common kept history ≤ length kept
common_within [] history = omega arith
common_within (line ∷ lines) [] = omega arith
common_within (line ∷ lines) (entry ∷ history) =
    let rest = common_within lines history in
    by_answer (bytes_eq line (entry_text entry)) (λ t. rw t (omega (arith, rest))) (λ f. rw f (omega arith))

-- where a line of a history isn't kept, or none is there, later ones change nothing
pub common_front : (kept : List (List ℕ)) (history later : List Entry) → in_common kept history < length history
    → in_common kept (history ++ later) ≡ in_common kept history
common_front [] [] later less = absurd (omega (arith, less))
common_front [] (entry ∷ history) later less = refl
common_front (line ∷ lines) [] later less = absurd (omega (arith, less))
common_front (line ∷ lines) (entry ∷ history) later less =
    elim (bytes_eq line (entry_text entry)) as (λ b. (if b then suc (in_common lines history) else 0) < suc (length history)
    → (if b then suc (in_common lines (history ++ later)) else 0) ≡ (if b then suc (in_common lines history) else 0)) [
      | true ↦ λ less. ap (λ (n : ℕ). suc n) (common_front lines history later (omega (arith, less)))
      | false ↦ λ less. refl
    ] less

-- nor where all kept lines are those of a history
pub common_ended : (kept : List (List ℕ)) (history later : List Entry) → in_common kept history ≡ length kept
    → in_common kept (history ++ later) ≡ length kept
common_ended [] history later all = refl
common_ended (line ∷ lines) [] later all = absurd (omega (arith, all))
common_ended (line ∷ lines) (entry ∷ history) later all =
    elim (bytes_eq line (entry_text entry)) as (λ b. (if b then suc (in_common lines history) else 0) ≡ suc (length lines)
    → (if b then suc (in_common lines (history ++ later)) else 0) ≡ suc (length lines)) [
      | true ↦ λ all. ap (λ (n : ℕ). suc n) (common_ended lines history later (omega (arith, all)))
      | false ↦ λ all. absurd (omega (arith, all))
    ] all

-- behind as many as are the same one goes on with the rest of both
common_split : (from : ℕ) (kept : List (List ℕ)) (history : List Entry) → in_common kept (take from history) ≡ from
    → in_common kept history ≡ from + in_common (drop from kept) (drop from history)
common_split zero kept history same = omega arith
common_split (suc from) [] history same = absurd (omega (arith, same))
common_split (suc from) (line ∷ lines) [] same = absurd (omega (arith, same))
common_split (suc from) (line ∷ lines) (entry ∷ history) same =
    elim (bytes_eq line (entry_text entry)) as (λ b. (if b then suc (in_common lines (take from history)) else 0) ≡ suc from
    → (if b then suc (in_common lines history) else 0) ≡ suc from + in_common (drop from lines) (drop from history)) [
      | true ↦ λ same. let rest = common_split from lines history (omega (arith, same)) in omega (arith, rest)
      | false ↦ λ same. absurd (omega (arith, same))
    ] same

-- behind as many as are the same none is kept
pub common_out : (place : ℕ) (kept : List (List ℕ)) (history : List Entry) → in_common kept (take place history) ≡ place → length kept ≤ place
    → in_common kept history ≡ place
common_out place kept history same past =
    let split = common_split place kept history same in
    let none : in_common (drop place kept) (drop place history) ≡ 0 = ap (λ (lines : List (List ℕ)). in_common lines (drop place history)) (drop_all place kept past) in
    omega (arith, split, none)

-- or the next one isn't the same
pub common_stop : (place : ℕ) (kept : List (List ℕ)) (history : List Entry) (line : List ℕ) (entry : Entry) → in_common kept (take place history) ≡ place
    → slice_get kept place ≡ Some line → slice_get history place ≡ Some entry → bytes_eq line (entry_text entry) ≡ false → in_common kept history ≡ place
common_stop place kept history line entry same kept_is is other =
    let split = common_split place kept history same in
    let none : in_common (line ∷ drop (suc place) kept) (entry ∷ drop (suc place) history) ≡ 0 = rw other refl in
    let rest : in_common (drop place kept) (drop place history) ≡ 0 =
    ap₂ in_common (drop_next kept place line kept_is) (drop_next history place entry is) ∙ none in
    omega (arith, split, rest)

-- or it is
pub common_step : (place : ℕ) (kept : List (List ℕ)) (history : List Entry) (line : List ℕ) (entry : Entry) → in_common kept (take place history) ≡ place
    → slice_get kept place ≡ Some line → slice_get history place ≡ Some entry → bytes_eq line (entry_text entry) ≡ true
    → in_common kept (take (suc place) history) ≡ suc place
common_step zero [] history line entry same kept_is is own = absurd (cc)
common_step zero (line ∷ lines) [] other entry same kept_is is own = absurd (cc)
common_step zero (line ∷ lines) (entry ∷ history) other another same kept_is is own =
    let this_line : line ≡ other = cc in
    let this_entry : entry ≡ another = cc in
    let here : bytes_eq line (entry_text entry) ≡ true = ap₂ (λ (l : List ℕ) (e : Entry). bytes_eq l (entry_text e)) this_line this_entry ∙ own in
    rw here (ap (λ (n : ℕ). suc n) (none_kept lines))
common_step (suc place) [] history line entry same kept_is is own = absurd (omega (arith, same))
common_step (suc place) (line ∷ lines) [] other entry same kept_is is own = absurd (omega (arith, same))
common_step (suc place) (line ∷ lines) (entry ∷ history) other another same kept_is is own =
    elim (bytes_eq line (entry_text entry)) as (λ b. (if b then suc (in_common lines (take place history)) else 0) ≡ suc place
    → (if b then suc (in_common lines (take (suc place) history)) else 0) ≡ suc (suc place)) [
      | true ↦ λ same. ap (λ (n : ℕ). suc n) (common_step place lines history other another (omega (arith, same)) kept_is is own)
      | false ↦ λ same. absurd (omega (arith, same))
    ] same

-- where all kept lines are those of a history, they are its first ones
pub common_told : (kept : List (List ℕ)) (history : List Entry) → in_common kept history ≡ length kept → kept ≡ take (length kept) (lines_of history)
common_told [] history all = refl
common_told (line ∷ lines) [] all = absurd (omega (arith, all))
common_told (line ∷ lines) (entry ∷ history) all =
    by_answer (bytes_eq line (entry_text entry))
    (λ t.
    let more : in_common lines history ≡ length lines =
    subst (λ b. (if b then suc (in_common lines history) else 0) ≡ suc (length lines) → in_common lines history ≡ length lines) (sym t) (λ e. omega (arith, e)) all in
    ap₂ (λ (one : List ℕ) (rest : List (List ℕ)). one ∷ rest) ((bytes_eq-Decides line (entry_text entry)).0 t) (common_told lines history more))
    (λ f.
    let none : 0 ≡ suc (length lines) =
    subst (λ b. (if b then suc (in_common lines history) else 0) ≡ suc (length lines) → 0 ≡ suc (length lines)) (sym f) (λ e. e) all in
    absurd (omega (arith, none)))

-- the round of no entry begins in the middle of a history
pub ends_middle : (history : List Entry) (count : ℕ) (entry : Entry) → 0 < count → count < length history → slice_get history count ≡ Some entry
    → begins_round entry ≡ false → ends_round history count ≡ false
ends_middle history count entry some within is none =
    rw (ne_eqb count 0 (λ e. let z : count ≡ 0 = e in absurd (omega (arith, z, some))), ne_eqb count (length history) (λ e. let z : count ≡ length history = e in absurd (omega (arith, z, within))), is, none) refl

-- a round ends where the next one begins
pub ends_before : (history : List Entry) (count : ℕ) (entry : Entry) → slice_get history count ≡ Some entry
    → begins_round entry ≡ true → ends_round history count ≡ true
ends_before history count entry is begins =
    by_answer (count == 0 || count == length history) (λ t. rw t refl) (λ f. rw (f, is, begins) refl)

-- and where all entries are there
pub ends_all : (history : List Entry) (count : ℕ) → count ≡ length history → ends_round history count ≡ true
ends_all history count all =
    by_answer (count == 0) (λ t. rw t refl) (λ f. rw (f, eq-eqb count (length history) all) refl)

-- kept lines are refused at the first that isn't the history's
pub refused_at : (history : List Entry) (kept : List (List ℕ)) (place : ℕ) → in_common kept history ≡ place → place < length kept
    → refused_for history kept ≡ Some place
refused_at history kept place is less =
    rw (ne_eqb (in_common kept history) (length kept) (λ e. let z : in_common kept history ≡ length kept = e in absurd (omega (arith, z, is, less)))) (ap (λ (n : ℕ). Some n) is)

-- and behind the last where a round is under way there
pub refused_middle : (history : List Entry) (kept : List (List ℕ)) → in_common kept history ≡ length kept → ends_round history (length kept) ≡ false
    → refused_for history kept ≡ Some (length kept)
refused_middle history kept all none =
    let same : (in_common kept history == length kept) ≡ true = eq-eqb (in_common kept history) (length kept) all in
    rw (same, none) refl

-- and not where a round ends there
pub refused_none : (history : List Entry) (kept : List (List ℕ)) → in_common kept history ≡ length kept → ends_round history (length kept) ≡ true
    → refused_for history kept ≡ None
refused_none history kept all ends =
    let same : (in_common kept history == length kept) ≡ true = eq-eqb (in_common kept history) (length kept) all in
    rw (same, ends) refl

-- ---- a round that is taken

-- nothing stands behind the kept lines of a history that is no longer
pub none_behind : (kept : List (List ℕ)) (history : List Entry) → length history ≤ length kept → lines_behind kept history ≡ []
none_behind kept history short =
    let count : length (lines_of history) ≡ length history = length-map history entry_text in
    drop_of_length-le (lines_of history) {i = length kept} (omega (arith, short, count))

module _ (from : ℕ) (kept : List (List ℕ)) (history : List Entry) (within : from ≤ length history) (agree : Agree kept (take from history)) where
  front_length : length (take from history) ≡ from
  front_length = length-take-le from history within

  -- where lines are kept from a place on, all before it are the same
  same_before : from < length kept → in_common kept (take from history) ≡ from
  same_before more = let count = front_length in omega (arith, agree, count, more)

  -- so the round's lines go on with those that are kept from there on
  same_with : from < length kept → in_common kept history ≡ from + in_common (drop from kept) (drop from history)
  same_with more = common_split from kept history (same_before more)

  rest_length : length (drop from history) + from ≡ length history
  rest_length = let count = length-drop from history in omega (arith, count, within)

  checked_all : from < length kept → in_common (drop from kept) (drop from history) ≡ length (drop from history) → in_common kept history ≡ length history
  checked_all more all = let split = same_with more in let count = rest_length in omega (arith, split, all, count)

  pub checked_ends : from < length kept → in_common (drop from kept) (drop from history) ≡ length (drop from history) → length history ≤ length kept
  checked_ends more all =
      let same = checked_all more all in let most = common_within kept history in omega (arith, same, most)

  pub checked_agree : from < length kept → in_common (drop from kept) (drop from history) ≡ length (drop from history) → Agree kept history
  checked_agree more all =
      let same = checked_all more all in let most = checked_ends more all in omega (arith, same, most)

  -- nothing is added where the round's lines are kept
  pub checked_adds : from < length kept → in_common (drop from kept) (drop from history) ≡ length (drop from history)
      → (first keeps : Option (List (List ℕ))) → Adds (lines_behind kept (take from history)) first keeps → Adds (lines_behind kept history) first keeps
  checked_adds more all first keeps adds =
      let count = front_length in
      let none : lines_behind kept (take from history) ≡ lines_behind kept history =
      none_behind kept (take from history) (omega (arith, count, more)) ∙ sym (none_behind kept history (checked_ends more all)) in
      subst (λ (l : List (List ℕ)). Adds l first keeps) none adds

  pub stops_round : (refusal : ResumeRefusal) → from < length kept → StopsAt (drop from kept) from (drop from history) refusal → RefusesRound kept from history refusal
  stops_round (BadKept place) more stops =
      let split = same_with more in
      let count = rest_length in (more, (stops.0 ∙ sym split, omega (arith, stops.0, stops.1, count)))
  stops_round KeepFault more stops = absurd stops
  stops_round NoMemory more stops = tt

  -- where no line is kept from there on, all kept ones are before
  kept_before : length kept ≤ from → in_common kept (take from history) ≡ length kept
  kept_before past = let count = front_length in omega (arith, agree, count, past)

  parts : take from history ++ drop from history ≡ history
  parts = take-append-drop from history

  pub appended_agree : length kept ≤ from → Agree kept history
  appended_agree past =
      let same : in_common kept history ≡ length kept =
      subst (λ (h : List Entry). in_common kept h ≡ length kept) parts (common_ended kept (take from history) (drop from history) (kept_before past)) in
      omega (arith, same, past, within)
