-- The end that is due first, and how many ends are left.
use Rattle.std.proofs.Common.{◌≡◌, ◌≤◌, ◌<◌, ◌+◌, ℕ, zero, suc, Bool, true, false, cond, List, [], ◌∷◌, ◌++◌, Option, Some, None, length, take, inl, inr, refl, sym, ap, subst, ◌∙◌, arith, add-zero}
use Rattle.std.specs.Prelude.{nat_lt, slice_get}
use Rattle.std.specs.List.{filter_map, fold, AllByRecursion as Each}
use Rattle.std.proofs.lemmas.Bool.{or_parts}
use Rattle.std.proofs.lemmas.Bool.Decides.{leb_tells}
use Rattle.std.proofs.lemmas.List.Sums.{sum_by-append, sum_by-cons}
use Rattle.std.proofs.lemmas.Option.{same_Some, none-some, slice_get_within}
use Rattle.omega_board.proofs.Standing.{among_first}
use Rattle.omega_laws.proofs.Suited.{OfValue, each_mapped}
use Rattle.omega_model.proofs.InOrder.{Rise, key_differs, key_itself, key_same, same_key-sym}
use Rattle.omega_model.proofs.Lists.{by_answer, each_both, each_map}
use Rattle.omega_model.proofs.RowEnds.{state_rises}
use Rattle.omega_model.specs.Cell.{task_at}
use Rattle.omega_model.specs.ExtraTasks.{first_extra}
use Rattle.omega_model.specs.Feed.{feed}
use Rattle.omega_model.specs.Keys.{is_among, key_lt, same_key}
use Rattle.omega_model.specs.State.{state}
use Rattle.omega_model.specs.declared.cells.Task.{Task}
use Rattle.omega_model.specs.declared.cells.TaskKey.{TaskKey}
use Rattle.omega_model.specs.declared.entries.Entry.{Entry}
use Rattle.omega_model.specs.declared.entries.Entry.TheVariants.{End}
use Rattle.omega_model.specs.declared.rows.Row.{Row}
use Rattle.omega_model.specs.declared.rows.Row.TheVariants.{Machine, Attr as AttrEvent, Task as TaskEvent}
use Rattle.omega_model.specs.declared.rows.TraceTables.{TraceTables}
use Rattle.omega_laws.specs.VirtualTime.{Timed}
use Rattle.omega_free_laws.specs.StepsLeft.{BoundsEnds, none_left}
use Rattle.omega_free_laws.specs.Lives.{Pieces, DueEnd, pieces_after, end_at, end_of_task, ended, first_end, is_end_of, lives_of, first_own_end, placing, sooner_end}
use Rattle.omega_free_laws.specs.LivesLaws.{EndsOnce, IsDueEnd, lives_left, lives_left_of, task_of_row, tasks_of}
use Rattle.omega_free_laws.specs.Readings.{by_lives, by_rows}

-- ---- the first of some ends

pub first_end_holds : (P : DueEnd → Type 0) (ends : List DueEnd) (end : DueEnd) → Each P ends → first_end ends ≡ Some end → P end
first_end_holds P [] end each is = absurd (cc)
first_end_holds P (one ∷ others) end each is =
    subst P (same_Some (sooner_end one (first_end others)) end is) (chosen (first_end others) (λ other some. first_end_holds P others other each.1 some)) where
      chosen : (found : Option DueEnd) → ((other : DueEnd) → found ≡ Some other → P other) → P (sooner_end one found)
      chosen None later = each.0
      chosen (Some other) later = by_answer (nat_lt other.time one.time) (λ t. rw t (later other refl)) (λ f. rw f each.0)

pub none_end : (ends : List DueEnd) → first_end ends ≡ None → ends ≡ []
none_end [] is = refl
none_end (one ∷ others) is = absurd (cc)

pub first_end_least : (ends : List DueEnd) (end : DueEnd) → first_end ends ≡ Some end → Each (λ (other : DueEnd). end.time ≤ other.time) ends
first_end_least [] end is = absurd (cc)
first_end_least (one ∷ others) end is =
    subst (λ (it : DueEnd). Each (λ (other : DueEnd). it.time ≤ other.time) (one ∷ others)) (same_Some (sooner_end one (first_end others)) end is)
    (chosen (first_end others) refl (λ other some. first_end_least others other some)) where
      chosen : (found : Option DueEnd) → first_end others ≡ found
          → ((other : DueEnd) → first_end others ≡ Some other → Each (λ (it : DueEnd). other.time ≤ it.time) others)
          → Each (λ (other : DueEnd). (sooner_end one found).time ≤ other.time) (one ∷ others)
      chosen None is_found later =
          let here : one.time ≤ one.time = omega arith in
          subst (λ (rest : List DueEnd). Each (λ (other : DueEnd). one.time ≤ other.time) (one ∷ rest)) (sym (none_end others is_found)) (here, tt)
      chosen (Some other) is_found later =
          elim (leb_tells (suc other.time) one.time) [
            | inl less ↦
                let below : other.time ≤ one.time = let it = less.1 in omega (arith, it) in
                let same : sooner_end one (Some other) ≡ other = rw less.0 refl in
                subst (λ (it : DueEnd). Each (λ (that : DueEnd). it.time ≤ that.time) (one ∷ others)) (sym same) (below, later other is_found)
            | inr more ↦
                let above : one.time ≤ other.time = let it = more.1 in omega (arith, it) in
                let here : one.time ≤ one.time = omega arith in
                let same : sooner_end one (Some other) ≡ one = rw more.0 refl in
                subst (λ (it : DueEnd). Each (λ (that : DueEnd). it.time ≤ that.time) (one ∷ others)) (sym same) (
                  here,
                  each_map (λ (it : DueEnd). other.time ≤ it.time) (λ (it : DueEnd). one.time ≤ it.time)
                      (λ it low. omega (arith, above, low)) others (later other is_found),
                )
          ]

-- ---- running tasks are found by their names

found_later : (key : TaskKey) (first task : Task) (tasks : List Task) → same_key first.key key ≡ false → task_at tasks key ≡ Some task
    → task_at (first ∷ tasks) key ≡ Some task
found_later key first task tasks other found = rw other found

pub each_found : (tasks : List Task) → Rise tasks → Each (λ (task : Task). task_at tasks task.key ≡ Some task) tasks
each_found [] rise = tt
each_found (first ∷ tasks) rise = (
  rw (key_itself first.key) refl,
  each_both (λ (task : Task). key_lt first.key task.key ≡ true) (λ (task : Task). task_at tasks task.key ≡ Some task) (λ (task : Task). task_at (first ∷ tasks) task.key ≡ Some task)
      (λ task less found. found_later task.key first task tasks (key_differs first.key task.key less) found)
      tasks rise.0 (each_found tasks rise.1),
)

pub each_runs : (history : List Entry) → Each (λ (task : Task). task_at (state history).tasks task.key ≡ Some task) (state history).tasks
each_runs history = each_found (state history).tasks (state_rises history)

-- ---- what a due end is

module _ (trace : TraceTables) (history : List Entry) (times : List Timed) where
  due_at : (task : Task) → task_at (state history).tasks task.key ≡ Some task → task.key.index < first_extra
      → (timed : Option Timed) (life : Option ℕ) → placing history times task.key ≡ timed → slice_get (lives_of trace task.key) (ended history task.key) ≡ life
      → OfValue (IsDueEnd trace history times) (end_at task timed life)
  due_at task runs low None life placed lives = tt
  due_at task runs low (Some timed) None placed lives = tt
  due_at task runs low (Some timed) (Some life) placed lives = record {
    task = task;
    runs = runs;
    low = low;
    timed = timed;
    placed = placed;
    life = life;
    lives = lives;
    key = refl;
    machine = refl;
    time = refl;
  }

  due_of_task : (task : Task) → task_at (state history).tasks task.key ≡ Some task → OfValue (IsDueEnd trace history times) (end_of_task trace history times task)
  due_of_task task runs =
      elim (leb_tells (suc task.key.index) first_extra) [
        | inl less ↦ rw less.0 (due_at task runs less.1 (placing history times task.key) (slice_get (lives_of trace task.key) (ended history task.key)) refl refl)
        | inr more ↦ rw more.0 tt
      ]

  -- it is the end of a running task, at its placing's time plus its life
  pub own_end_is : (end : DueEnd) → first_own_end trace history times ≡ Some end → IsDueEnd trace history times end
  own_end_is end is =
      first_end_holds (IsDueEnd trace history times) (filter_map (end_of_task trace history times) (state history).tasks) end
      (each_mapped (λ (task : Task). task_at (state history).tasks task.key ≡ Some task) (IsDueEnd trace history times) (end_of_task trace history times)
      due_of_task (state history).tasks (each_runs history)) is

-- ---- how many ends are left

ended_more : (key : TaskKey) (before : List Entry) (entry : Entry)
    → ended (before ++ entry ∷ []) key ≡ ended before key + cond (is_end_of key entry) 1 0
ended_more key before entry =
    let split : ended (before ++ entry ∷ []) key ≡ ended before key + ended (entry ∷ []) key =
    sum_by-append (λ (e : Entry). cond (is_end_of key e) 1 0) before (entry ∷ []) in
    let last : ended (entry ∷ []) key ≡ cond (is_end_of key entry) 1 0 + ended [] key =
    sum_by-cons (λ (e : Entry). cond (is_end_of key e) 1 0) entry [] in
    let none : ended [] key ≡ 0 = refl in
    omega (arith, split, last, none)

pub ended_same : (key : TaskKey) (before : List Entry) (entry : Entry) → is_end_of key entry ≡ false → ended (before ++ entry ∷ []) key ≡ ended before key
ended_same key before entry none = ended_more key before entry ∙ ap (λ (b : Bool). ended before key + cond b 1 0) none ∙ add-zero (ended before key)

ended_grows : (key : TaskKey) (before : List Entry) (entry : Entry) → ended before key ≤ ended (before ++ entry ∷ []) key
ended_grows key before entry = let more = ended_more key before entry in omega (arith, more)

pub ended_own : (key : TaskKey) (before : List Entry) (machine : ℕ) → ended (before ++ End key machine ∷ []) key ≡ ended before key + 1
ended_own key before machine =
    ended_more key before (End key machine) ∙ ap (λ (b : Bool). ended before key + cond b 1 0) (key_itself key)

left_no_more : (trace : TraceTables) (history : List Entry) (entry : Entry) (keys : List TaskKey)
    → lives_left_of trace (history ++ entry ∷ []) keys ≤ lives_left_of trace history keys
left_no_more trace history entry [] = omega arith
left_no_more trace history entry (key ∷ keys) =
    let grows = ended_grows key history entry in
    let rest = left_no_more trace history entry keys in
    omega (arith, grows, rest)

left_one_less : (trace : TraceTables) (history : List Entry) (key : TaskKey) (machine : ℕ) (keys : List TaskKey) → is_among key keys ≡ true
    → ended history key < length (lives_of trace key)
    → lives_left_of trace (history ++ End key machine ∷ []) keys < lives_left_of trace history keys
left_one_less trace history key machine [] among some = absurd (cc)
left_one_less trace history key machine (other ∷ keys) among some =
    by_answer (same_key key other)
    (λ t.
    let same : key ≡ other = key_same key other t in
    let own : ended (history ++ End key machine ∷ []) other ≡ ended history other + 1 =
    subst (λ (it : TaskKey). ended (history ++ End key machine ∷ []) it ≡ ended history it + 1) same (ended_own key history machine) in
    let here : ended history other < length (lives_of trace other) = subst (λ (it : TaskKey). ended history it < length (lives_of trace it)) same some in
    let rest = left_no_more trace history (End key machine) keys in
    omega (arith, own, here, rest))
    (λ f.
    let later : is_among key keys ≡ true = rw f at among in
    let less = left_one_less trace history key machine keys later some in
    let grows = ended_grows other history (End key machine) in
    omega (arith, less, grows))

-- a task that no row names has no life
pieces_stay : (key : TaskKey) (pieces : Pieces) (rows : List Row) → is_among key (filter_map task_of_row rows) ≡ false → fold (pieces_after key) pieces rows ≡ pieces
pieces_stay key pieces [] none = refl
pieces_stay key pieces (Machine row ∷ rows) none = pieces_stay key pieces rows none
pieces_stay key pieces (AttrEvent row ∷ rows) none = pieces_stay key pieces rows none
pieces_stay key pieces (TaskEvent row ∷ rows) none =
    let parts = or_parts (same_key key row.key) (is_among key (filter_map task_of_row rows)) none in
    let other : same_key row.key key ≡ false = same_key-sym key row.key parts.0 in
    rw other (pieces_stay key pieces rows parts.1)

lives_named : (trace : TraceTables) (key : TaskKey) (number life : ℕ) → slice_get (lives_of trace key) number ≡ Some life → is_among key (tasks_of trace) ≡ true
lives_named trace key number life is =
    by_answer (is_among key (filter_map task_of_row (feed trace)))
    (λ t. among_first key (filter_map task_of_row (feed trace)) ∙ t)
    (λ f.
    let none : lives_of trace key ≡ [] = ap (λ (c : Pieces). c.lives) (pieces_stay key (record { since = None; lives = [] }) (feed trace) f) in
    let within = slice_get_within (lives_of trace key) number life is in
    let count : length (lives_of trace key) ≡ 0 = ap length none in
    absurd (omega (arith, within, count)))

-- where tasks end by rows, none is left
pub rows_bound : (trace : TraceTables) → BoundsEnds (by_rows trace) none_left
rows_bound trace = record {
  no_more = λ history entry. omega arith;
  one_less = λ history times end is. absurd (cc);
}

-- where they end of themselves, the pieces that have a life and haven't ended: each ends at most once
pub lives_bound : (trace : TraceTables) → BoundsEnds (by_lives trace) (lives_left trace)
lives_bound trace = record {
  no_more = λ history entry. left_no_more trace history entry (tasks_of trace);
  one_less = λ history times end is.
      let due = own_end_is trace history times end is in
      let within = slice_get_within (lives_of trace due.task.key) (ended history due.task.key) due.life due.lives in
      subst (λ (key : TaskKey). lives_left trace (history ++ End key end.machine ∷ []) < lives_left trace history) (sym due.key)
      (left_one_less trace history due.task.key end.machine (tasks_of trace) (lives_named trace due.task.key (ended history due.task.key) due.life due.lives) within);
}

-- a task's ends are of different pieces
ended_front : (key : TaskKey) (entry : Entry) (rest : List Entry) → ended (entry ∷ rest) key ≡ cond (is_end_of key entry) 1 0 + ended rest key
ended_front key entry rest = sum_by-cons (λ (e : Entry). cond (is_end_of key e) 1 0) entry rest

pub ends_once : (history : List Entry) → EndsOnce history
ends_once [] place later key machine is less = absurd (none-some (End key machine) is)
ends_once (entry ∷ history) zero zero key machine is less = absurd (omega (arith, less))
ends_once (entry ∷ history) zero (suc later) key machine is less =
    let same : entry ≡ End key machine = same_Some entry (End key machine) is in
    let ends : is_end_of key entry ≡ true = ap (is_end_of key) same ∙ key_itself key in
    let front : ended (entry ∷ take later history) key ≡ 1 + ended (take later history) key = rw ends at (ended_front key entry (take later history)) in
    let none : ended (take 0 (entry ∷ history)) key ≡ 0 = refl in
    omega (arith, front, none)
ends_once (entry ∷ history) (suc place) zero key machine is less = absurd (omega (arith, less))
ends_once (entry ∷ history) (suc place) (suc later) key machine is less =
    let rest = ends_once history place later key machine is (omega (arith, less)) in
    let one = ended_front key entry (take place history) in
    let other = ended_front key entry (take later history) in
    omega (arith, rest, one, other)
