-- Where tasks end of themselves, the times of a run by the free clock are small.
use Rattle.std.proofs.Common.{◌≡◌, ◌≤◌, ◌<◌, ◌+◌, ◌-◌, ℕ, Bool, false, cond, not, List, [], ◌∷◌, ◌++◌, Option, Some, None, length, refl, ap, subst, arith, length-append}
use Rattle.std.specs.Prelude.{◌==◌, slice_get}
use Rattle.std.specs.List.{filter, filter_map, fold, last_or, AllByRecursion as Each}
use Rattle.omega_board.proofs.Places.{each_get}
use Rattle.omega_laws.proofs.Suited.{OfValue}
use Rattle.omega_laws.specs.VirtualTime.{Timed}
use Rattle.omega_model.proofs.InOrder.{key_same, same_key-sym}
use Rattle.omega_model.proofs.Lists.{by_answer, each_append, each_filter, each_of_all}
use Rattle.omega_model.specs.Feed.{feed, time_of}
use Rattle.omega_model.specs.Fields.{TaskFields}
use Rattle.omega_model.specs.Keys.{first_mentions, same_key}
use Rattle.omega_model.specs.Wanted.{ends}
use Rattle.omega_model.specs.declared.cells.TaskKey.{TaskKey}
use Rattle.omega_model.specs.declared.entries.Entry.{Entry}
use Rattle.omega_model.specs.declared.rows.Row.{Row}
use Rattle.omega_model.specs.declared.rows.Row.TheVariants.{Machine, Attr as AttrEvent, Task as TaskEvent}
use Rattle.omega_model.specs.declared.rows.TraceTables.{TraceTables}
use Rattle.omega_model.specs.declared.settings.Ends.{Ends}
use Rattle.omega_model.specs.declared.settings.Ends.TheVariants.{Own, Trace}
use Rattle.omega_sim.specs.InBounds.{IsInBounds}
use Rattle.omega_sim.proofs.Shorter.{feed_few}
use Rattle.omega_free_laws.specs.Lives.{DueEnd, Pieces, counting_behind, counts, cut_at, did_place, ended, first_own_end, lives_of, pieces_after, pieces_of, with_own_row}
use Rattle.omega_free_laws.specs.LivesLaws.{IsDueEnd, lives_left, lives_left_of, task_of_row, tasks_of}
use Rattle.omega_free_laws.specs.Readings.{by_lives}
use Rattle.omega_free_laws.proofs.DueEnds.{lives_bound, own_end_is}
use Rattle.omega_free.specs.EndsLeft.{left_by}
use Rattle.omega_free.specs.FreeRuns.{reading_by}
use Rattle.omega_free.proofs.FreeSums.{IsTame, latest, rows_tame}

-- ---- no more rows count than there are

counting_fewer : (history : List Entry) (before rows : List Row) → length (counting_behind history before rows) ≤ length rows
counting_fewer history before [] = omega arith
counting_fewer history before (row ∷ rows) =
    let rest = counting_fewer history (before ++ row ∷ []) rows in
    by_answer (counts history before row) (λ t. rw t (omega (arith, rest))) (λ f. rw f (omega (arith, rest)))

-- ---- a row ends one piece at most

cut_longer : (pieces : Pieces) (time : ℕ) (since : Option ℕ) → length (cut_at pieces time since).lives ≤ length pieces.lives + 1
cut_longer pieces time None = omega arith
cut_longer pieces time (Some since) = let one = length-append pieces.lives ((time - since) ∷ []) in omega (arith, one)

own_longer : (pieces : Pieces) (row : TaskFields) → length (with_own_row pieces row).lives ≤ length pieces.lives + 1
own_longer pieces row =
    by_answer (row.code == 0)
    (λ t. rw t (omega arith))
    (λ f. by_answer (row.code == 1)
    (λ t. rw (f, t) (omega arith))
    (λ g. by_answer (ends row.code)
    (λ t. rw (f, g, t) (cut_longer pieces row.time pieces.since))
    (λ h. rw (f, g, h) (omega arith))))

task_longer : (key : TaskKey) (pieces : Pieces) (row : TaskFields)
    → length (pieces_after key pieces (TaskEvent row)).lives ≤ length pieces.lives + cond (same_key row.key key) 1 0
task_longer key pieces row =
    by_answer (same_key row.key key)
    (λ t. rw t (own_longer pieces row))
    (λ f. rw f (omega arith))

-- how often a name stands among these
named_times : TaskKey → List TaskKey → ℕ
named_times key [] = 0
named_times key (other ∷ keys) = cond (same_key key other) 1 0 + named_times key keys

-- how many lives these tasks have
lives_in_all : (TaskKey → Pieces) → List TaskKey → ℕ
lives_in_all pieces [] = 0
lives_in_all pieces (key ∷ keys) = length (pieces key).lives + lives_in_all pieces keys

task_adds : (pieces : TaskKey → Pieces) (row : TaskFields) (keys : List TaskKey)
    → lives_in_all (λ key. pieces_after key (pieces key) (TaskEvent row)) keys ≤ lives_in_all pieces keys + named_times row.key keys
unfolding lives_in_all named_times
task_adds pieces row [] = omega arith
task_adds pieces row (key ∷ keys) =
    let one = task_longer key (pieces key) row in
    let rest = task_adds pieces row keys in
    omega (arith, one, rest)

others_add : (pieces : TaskKey → Pieces) (row : Row) (keys : List TaskKey) → ((key : TaskKey) (some : Pieces) → pieces_after key some row ≡ some)
    → lives_in_all (λ key. pieces_after key (pieces key) row) keys ≤ lives_in_all pieces keys
unfolding lives_in_all
others_add pieces row [] same = omega arith
others_add pieces row (key ∷ keys) same =
    let one = ap (λ (it : Pieces). length it.lives) (same key (pieces key)) in
    let rest = others_add pieces row keys same in
    omega (arith, one, rest)

row_adds : (pieces : TaskKey → Pieces) (row : Row) (keys : List TaskKey) → ((key : TaskKey) → named_times key keys ≤ 1)
    → lives_in_all (λ key. pieces_after key (pieces key) row) keys ≤ lives_in_all pieces keys + 1
row_adds pieces (Machine row) keys once = let none = others_add pieces (Machine row) keys (λ key some. refl) in omega (arith, none)
row_adds pieces (AttrEvent row) keys once = let none = others_add pieces (AttrEvent row) keys (λ key some. refl) in omega (arith, none)
row_adds pieces (TaskEvent row) keys once =
    let one = task_adds pieces row keys in
    let named = once row.key in
    omega (arith, one, named)

rows_add : (pieces : TaskKey → Pieces) (rows : List Row) (keys : List TaskKey) → ((key : TaskKey) → named_times key keys ≤ 1)
    → lives_in_all (λ key. fold (pieces_after key) (pieces key) rows) keys ≤ lives_in_all pieces keys + length rows
rows_add pieces [] keys once = omega arith
rows_add pieces (row ∷ rows) keys once =
    let one = row_adds pieces row keys once in
    let rest = rows_add (λ key. pieces_after key (pieces key) row) rows keys once in
    omega (arith, one, rest)

-- ---- each task is named once

filter_names : (test : TaskKey → Bool) (key : TaskKey) (keys : List TaskKey) → named_times key (filter test keys) ≤ named_times key keys
unfolding named_times
filter_names test key [] = omega arith
filter_names test key (other ∷ keys) =
    let rest = filter_names test key keys in
    by_answer (test other) (λ t. rw t (omega (arith, rest))) (λ f. rw f (omega (arith, rest)))

filter_unnames : (key : TaskKey) (keys : List TaskKey) → named_times key (filter (λ other. not (same_key other key)) keys) ≡ 0
unfolding named_times
filter_unnames key [] = refl
filter_unnames key (other ∷ keys) =
    by_answer (same_key other key)
    (λ t. rw t (filter_unnames key keys))
    (λ f.
    let differs : same_key key other ≡ false = same_key-sym other key f in
    let rest = filter_unnames key keys in
    rw f (rw differs (omega (arith, rest))))

once_named : (key : TaskKey) (keys : List TaskKey) → named_times key (first_mentions keys) ≤ 1
unfolding named_times
once_named key [] = omega arith
once_named key (other ∷ keys) =
    by_answer (same_key key other)
    (λ t.
    let same : key ≡ other = key_same key other t in
    let none : named_times key (filter (λ (it : TaskKey). not (same_key it other)) (first_mentions keys)) ≡ 0 =
    subst (λ (name : TaskKey). named_times key (filter (λ (it : TaskKey). not (same_key it name)) (first_mentions keys)) ≡ 0) same
    (filter_unnames key (first_mentions keys)) in
    rw t (omega (arith, none)))
    (λ f.
    let rest = once_named key keys in
    let fewer = filter_names (λ (it : TaskKey). not (same_key it other)) key (first_mentions keys) in
    rw f (omega (arith, rest, fewer)))

-- ---- so there are no more lives than rows

none_at_first : (keys : List TaskKey) → lives_in_all (λ key. record { since = None; lives = [] }) keys ≡ 0
unfolding lives_in_all
none_at_first [] = refl
none_at_first (key ∷ keys) = let rest = none_at_first keys in omega (arith, rest)

left_in_all : (trace : TraceTables) (history : List Entry) (keys : List TaskKey)
    → lives_left_of trace history keys ≤ lives_in_all (λ key. pieces_of key (feed trace)) keys
unfolding lives_in_all
left_in_all trace history [] = omega arith
left_in_all trace history (key ∷ keys) = let rest = left_in_all trace history keys in omega (arith, rest)

lives_few : (trace : TraceTables) → lives_left trace [] ≤ length (feed trace)
lives_few trace =
    let left = left_in_all trace [] (tasks_of trace) in
    let all = rows_add (λ key. record { since = None; lives = [] }) (feed trace) (tasks_of trace)
    (λ key. once_named key (filter_map task_of_row (feed trace))) in
    let none = none_at_first (tasks_of trace) in
    omega (arith, left, all, none)

-- ---- each life is short

abbrev AreShort : Pieces → Type 0
AreShort pieces = Each (λ life. life < latest) pieces.lives

cut_short : (pieces : Pieces) (time : ℕ) (since : Option ℕ) → time < latest → AreShort pieces → AreShort (cut_at pieces time since)
cut_short pieces time None early short = short
cut_short pieces time (Some since) early short =
    each_append (λ life. life < latest) pieces.lives ((time - since) ∷ []) short (let it : time - since < latest = omega (arith, early) in it, tt)

own_short : (pieces : Pieces) (row : TaskFields) → row.time < latest → AreShort pieces → AreShort (with_own_row pieces row)
own_short pieces row early short =
    by_answer (row.code == 0)
    (λ t. rw t short)
    (λ f. by_answer (row.code == 1)
    (λ t. rw (f, t) short)
    (λ g. by_answer (ends row.code)
    (λ t. rw (f, g, t) (cut_short pieces row.time pieces.since early short))
    (λ h. rw (f, g, h) short)))

row_short : (key : TaskKey) (pieces : Pieces) (row : Row) → time_of row < latest → AreShort pieces → AreShort (pieces_after key pieces row)
row_short key pieces (Machine row) early short = short
row_short key pieces (AttrEvent row) early short = short
row_short key pieces (TaskEvent row) early short =
    by_answer (same_key row.key key) (λ t. rw t (own_short pieces row early short)) (λ f. rw f short)

rows_short : (key : TaskKey) (pieces : Pieces) (rows : List Row) → Each (λ row. time_of row < latest) rows → AreShort pieces
    → AreShort (fold (pieces_after key) pieces rows)
rows_short key pieces [] early short = short
rows_short key pieces (row ∷ rows) early short = rows_short key (pieces_after key pieces row) rows early.1 (row_short key pieces row early.0 short)

lives_short : (trace : TraceTables) → IsInBounds trace → (key : TaskKey) → Each (λ life. life < latest) (lives_of trace key)
lives_short trace bounds key =
    rows_short key (record { since = None; lives = [] }) (feed trace) (each_of_all (λ row. time_of row < latest) (feed trace) bounds.times) tt

-- ---- and comes after a commit

last_holds : {X : Type 0} (P : X → Type 0) (other : Option X) (xs : List X) → OfValue P other → Each P xs → OfValue P (last_or other xs)
last_holds P other [] of_other each = of_other
last_holds P other (x ∷ xs) of_other each = last_holds P (Some x) xs each.0 each.1

ends_soon : (trace : TraceTables) → IsInBounds trace → (history : List Entry) (times : List Timed) (end : DueEnd) (top : ℕ)
    → first_own_end trace history times ≡ Some end → Each (λ (timed : Timed). timed.time ≤ top) times → end.time ≤ top + latest
ends_soon trace bounds history times end top is each =
    let due : IsDueEnd trace history times end = own_end_is trace history times end is in
    let commits : OfValue (λ (timed : Timed). timed.time ≤ top) (Some due.timed) =
    subst (OfValue (λ (timed : Timed). timed.time ≤ top)) due.placed
    (last_holds (λ (timed : Timed). timed.time ≤ top) None (filter (λ timed. did_place due.task.key (slice_get history timed.place)) times) tt
    (each_filter (λ (timed : Timed). timed.time ≤ top) (λ timed. did_place due.task.key (slice_get history timed.place)) times each)) in
    let placed : due.timed.time ≤ top = commits in
    let short : due.life < latest =
    each_get (λ life. life < latest) (lives_of trace due.task.key) (ended history due.task.key) due.life (lives_short trace bounds due.task.key) due.lives in
    let at = due.time in
    omega (arith, placed, short, at)

-- where tasks end of themselves, times are small
pub lives_tame : (trace : TraceTables) → IsInBounds trace → IsTame (by_lives trace) (lives_left trace)
lives_tame trace bounds = record {
  bounds = bounds;
  counted = λ rows history. counting_fewer history [] rows;
  ends = lives_bound trace;
  few = let all = lives_few trace in let short = feed_few trace bounds.limits in omega (arith, all, short);
  soon = ends_soon trace bounds;
}

-- so they are however tasks end
pub tame_by : (ends : Ends) (trace : TraceTables) → IsInBounds trace → IsTame (reading_by ends trace) (left_by ends trace)
tame_by Trace trace bounds = rows_tame trace bounds
tame_by Own trace bounds = lives_tame trace bounds
