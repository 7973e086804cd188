-- What a scheduler is asked to place in a round wishes for no task twice, where no task of the trace has
-- the index of an extra.
use Rattle.std.proofs.Common.{◌≡◌, ℕ, Bool, true, false, not, ◌&&◌, List, [], ◌∷◌, ◌++◌, map, sym, subst, ◌≤◌, ◌<◌, arith}
use Rattle.std.specs.List.{All, cons_option, filter, filter_map, fold, list_any, IsDistinct, AllByRecursion as Each}
use Rattle.std.proofs.lemmas.List.{map-append}
use Rattle.std.proofs.lemmas.List.Elements.{All-from_recursion, recursion_from_All}
use Rattle.std.proofs.lemmas.Map.Keys.{IsDistinct-cons, IsDistinct-head, IsDistinct-tail}
use Rattle.omega_model.proofs.ExtraWishes.{AreExtrasOf, IsExtraOf, extras_are, index_differs}
use Rattle.omega_model.proofs.InOrder.{key_trans, key_differs}
use Rattle.omega_model.proofs.Lists.{by_answer, each_map, each_append, each_filter, each_passes}
use Rattle.omega_model.specs.Cell.{Cell}
use Rattle.omega_model.specs.ExtraTasks.{HasLowIndex, first_extra, wishes_for_extras}
use Rattle.omega_model.specs.Feed.{feed}
use Rattle.omega_model.specs.Fields.{TaskFields}
use Rattle.omega_model.specs.Keys.{same_key, key_lt}
use Rattle.omega_model.specs.Requests.{jobs_in_order, request_of, requests, is_waiting, wishes_of, works_on}
use Rattle.omega_model.specs.Wishes.{wish_of}
use Rattle.omega_model.specs.State.{state}
use Rattle.omega_model.specs.Wanted.{WantedTask, is_named, submits, ends, updates, wanted, wanted_after, wanted_after_task, with_wanted}
use Rattle.omega_model.specs.declared.cells.Spec.{Spec}
use Rattle.omega_model.specs.declared.cells.TaskKey.{TaskKey}
use Rattle.omega_model.specs.declared.entries.Entry.{Entry}
use Rattle.omega_model.specs.declared.rows.Row.{Row}
use Rattle.omega_model.specs.declared.rows.Row.TheVariants.{Machine, Attr, Task}
use Rattle.omega_model.specs.declared.rows.TraceTables.{TraceTables}
use Rattle.omega_model.specs.declared.settings.Settings.{Settings}
use Rattle.omega_model.specs.declared.wishes.Request.{Request}
use Rattle.omega_model.specs.declared.wishes.Wish.{Wish}
use Rattle.omega_desk.specs.Walks.{HasDistinctWishes}
use Rattle.omega_desk.proofs.Walks.{names}

-- wanted tasks in order of key
abbrev Ascend : List WantedTask → Type 0
Ascend [] = Unit {0}
Ascend (task ∷ tasks) = Each (λ other. key_lt task.key other.key ≡ true) tasks × Ascend tasks

ascend_filter : (test : WantedTask → Bool) (tasks : List WantedTask) → Ascend tasks → Ascend (filter test tasks)
ascend_filter test [] rising = tt
ascend_filter test (task ∷ tasks) rising =
    by_answer (test task)
    (λ t. rw t (each_filter (λ other. key_lt task.key other.key ≡ true) test tasks rising.0, ascend_filter test tasks rising.1))
    (λ f. rw f (ascend_filter test tasks rising.1))

ascend_append : (xs ys : List WantedTask) → Ascend xs → Ascend ys → Each (λ x. Each (λ y. key_lt x.key y.key ≡ true) ys) xs → Ascend (xs ++ ys)
ascend_append [] ys left right below = right
ascend_append (x ∷ xs) ys left right below =
    (each_append (λ other. key_lt x.key other.key ≡ true) xs ys left.0 below.0, ascend_append xs ys left.1 right below.1)

ascend_with : (key : TaskKey) (spec : Spec) (tasks : List WantedTask) → Ascend tasks → Ascend (with_wanted key spec tasks)
ascend_with key spec tasks rising =
    let new : WantedTask = record { key = key; spec = spec } in
    let front = filter (λ (o : WantedTask). key_lt o.key key) tasks in
    let back = filter (λ (o : WantedTask). key_lt key o.key) tasks in
    let after : Each (λ o. key_lt key o.key ≡ true) back = each_passes (λ (o : WantedTask). key_lt key o.key) tasks in
    ascend_append front (new ∷ back)
    (ascend_filter (λ o. key_lt o.key key) tasks rising)
    (after, ascend_filter (λ o. key_lt key o.key) tasks rising)
    (each_map (λ o. key_lt o.key key ≡ true) (λ x. Each (λ y. key_lt x.key y.key ≡ true) (new ∷ back))
    (λ x less. (less, each_map (λ o. key_lt key o.key ≡ true) (λ y. key_lt x.key y.key ≡ true) (λ y more. key_trans x.key key y.key less more) back after))
    front (each_passes (λ (o : WantedTask). key_lt o.key key) tasks))

ascend_task : (tasks : List WantedTask) (row : TaskFields) → Ascend tasks → Ascend (wanted_after_task tasks row)
ascend_task tasks row rising =
    by_answer (submits row.code)
    (λ t. rw t (ascend_with row.key row.spec tasks rising))
    (λ f. by_answer (ends row.code)
    (λ t. rw (f, t) (ascend_filter (λ task. not (is_named row.key task)) tasks rising))
    (λ g. by_answer (updates row.code && list_any (is_named row.key) tasks)
    (λ t. rw (f, g, t) (ascend_with row.key row.spec tasks rising))
    (λ h. rw (f, g, h) rising)))

ascend_rows : (rows : List Row) (tasks : List WantedTask) → Ascend tasks → Ascend (fold wanted_after tasks rows)
ascend_rows [] tasks rising = rising
ascend_rows (Machine row ∷ rows) tasks rising = ascend_rows rows tasks rising
ascend_rows (Attr row ∷ rows) tasks rising = ascend_rows rows tasks rising
ascend_rows (Task row ∷ rows) tasks rising = ascend_rows rows (wanted_after_task tasks row) (ascend_task tasks row rising)

-- tasks in order of key have distinct names
names_differ : (trace : TraceTables) (key : TaskKey) (tasks : List WantedTask) → Each (λ other. key_lt key other.key ≡ true) tasks
    → Each (λ other. same_key key other ≡ false) (names (map (wish_of trace) tasks))
names_differ trace key [] below = tt
names_differ trace key (task ∷ tasks) below = (key_differs key task.key below.0, names_differ trace key tasks below.1)

distinct_names : (trace : TraceTables) (tasks : List WantedTask) → Ascend tasks → IsDistinct same_key (names (map (wish_of trace) tasks))
unfolding IsDistinct
distinct_names trace [] rising = tt
distinct_names trace (task ∷ tasks) rising = (names_differ trace task.key tasks rising.0, distinct_names trace tasks rising.1)

-- the request of a job, if it wishes for anything, before others
asked_once : (job : ℕ) (wishes : List Wish) (rest : List Request) → IsDistinct same_key (names wishes) → Each HasDistinctWishes rest
    → Each HasDistinctWishes (cons_option (request_of job wishes) rest)
asked_once job [] rest distinct later = later
asked_once job (wish ∷ wishes) rest distinct later = (distinct, later)

-- names that differ from each other, and then others that differ from each other and from the first
distinct_append : (keys others : List TaskKey) → IsDistinct same_key keys → IsDistinct same_key others
    → Each (λ key. Each (λ other. same_key key other ≡ false) others) keys → IsDistinct same_key (keys ++ others)
distinct_append [] others first second apart = second
distinct_append (key ∷ keys) others first second apart =
    IsDistinct-cons same_key key (keys ++ others)
    (each_append (λ other. same_key key other ≡ false) keys others (IsDistinct-head same_key key keys first) apart.0)
    (distinct_append keys others (IsDistinct-tail same_key key keys first) second apart.1)

-- a task of the trace is none of the extras
low_differs : (trace : TraceTables) (job : ℕ) (extras : List TaskKey) (tasks : List WantedTask) → Each (IsExtraOf job) extras → Each HasLowIndex tasks
    → Each (λ key. Each (λ other. same_key key other ≡ false) extras) (names (map (wish_of trace) tasks))
low_differs trace job extras [] high low = tt
low_differs trace job extras (task ∷ tasks) high low = (
  each_map (IsExtraOf job) (λ other. same_key task.key other ≡ false)
      (λ other is. let below : task.key.index < first_extra = low.0 in
      let above : first_extra ≤ other.index = is.1 in
      index_differs task.key other (omega (arith, below, above)))
      extras high,
  low_differs trace job extras tasks high low.1,
)

wishes_distinct : (settings : Settings) (trace : TraceTables) (cell : Cell) (asked : List WantedTask) (job : ℕ) → Ascend asked → Each HasLowIndex asked
    → IsDistinct same_key (names (wishes_of settings trace cell asked job))
wishes_distinct settings trace cell asked job rising low =
    let waiting : List WantedTask = filter (is_waiting cell job) asked in
    let extras : List Wish = wishes_for_extras settings trace cell asked job in
    let are : AreExtrasOf job (names extras) = extras_are settings trace cell asked job in
    subst (IsDistinct same_key) (sym (map-append (λ (wish : Wish). wish.key) (map (wish_of trace) waiting) extras))
    (distinct_append (names (map (wish_of trace) waiting)) (names extras)
    (distinct_names trace waiting (ascend_filter (is_waiting cell job) asked rising))
    are.distinct
    (low_differs trace job (names extras) waiting are.each (each_filter HasLowIndex (is_waiting cell job) asked low)))

each_distinct : (settings : Settings) (trace : TraceTables) (cell : Cell) (asked : List WantedTask) (jobs : List ℕ) → Ascend asked → Each HasLowIndex asked
    → Each HasDistinctWishes (filter_map (λ job. request_of job (wishes_of settings trace cell asked job)) jobs)
each_distinct settings trace cell asked [] rising low = tt
each_distinct settings trace cell asked (job ∷ jobs) rising low =
    asked_once job (wishes_of settings trace cell asked job) _ (wishes_distinct settings trace cell asked job rising low)
    (each_distinct settings trace cell asked jobs rising low)

pub requests_distinct : (settings : Settings) (trace : TraceTables) (rows : List Row) (history : List Entry) (scheduler : ℕ)
    → All HasLowIndex (wanted rows) → All HasDistinctWishes (requests settings trace rows history scheduler)
requests_distinct settings trace rows history scheduler low =
    All-from_recursion HasDistinctWishes _
    (each_distinct settings trace (state history) (wanted rows) (filter (works_on settings trace history scheduler) (jobs_in_order (feed trace)))
    (ascend_rows rows [] tt) (recursion_from_All HasLowIndex (wanted rows) low))
