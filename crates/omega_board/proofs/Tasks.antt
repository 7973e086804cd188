-- Running tasks in order of key, with one more and with one less.
use Rattle.std.proofs.Common.{◌≡◌, Bool, true, false, cond, not, ◌||◌, ◌&&◌, List, [], ◌∷◌, ◌++◌, Some, None, refl, sym, ap, ap₂, ◌∙◌, subst}
use Rattle.std.specs.List.{filter, find, list_any, AllByRecursion as Each}
use Rattle.std.specs.Option.{option_map_or}
use Rattle.std.proofs.Math.Bool.{or-false}
use Rattle.std.proofs.lemmas.Bool.{both_ways, or_right, not-true, not_from_false}
use Rattle.std.proofs.lemmas.List.Elements.{filter-append}
use Rattle.std.proofs.lemmas.List.Folds.{list_any-append}
use Rattle.std.proofs.lemmas.Option.{none-some, same_Some}
use Rattle.omega_model.specs.Keys.{same_key, key_lt, is_among}
use Rattle.omega_model.specs.Cell.{task_at, with_task, without}
use Rattle.omega_model.specs.declared.cells.TaskKey.{TaskKey}
use Rattle.omega_model.specs.declared.cells.Task.{Task}
use Rattle.omega_running.specs.declared.orders.Order.TheVariants.{ByKey}
use Rattle.omega_running.specs.Order.{IsInOrder, precedes}
use Rattle.omega_running.proofs.Lists.{find_right}
use Rattle.omega_running.proofs.Strict.{trans}
use Rattle.omega_running.proofs.InOrder.{key_apart, key_strict}
use Rattle.omega_running.proofs.Kept.{put_is, put_rises, rises_filter, without_absent}
use Rattle.omega_model.proofs.InOrder.{key_itself, key_differs, key_asym, key_same}
use Rattle.omega_model.proofs.Lists.{by_answer, each_map, filter_every, filter_none, find_none, any_none, each_absent, each_found, each_passes, filter_alike, filter_and, find_filtered}

pub key_differs_back : (a b : TaskKey) → key_lt a b ≡ true → same_key b a ≡ false
key_differs_back a b less = not-true (same_key b a) (sym (key_apart b a) ∙ or_right _ _ less)

-- the test for a task that stays when one of this name goes
abbrev pub stays : TaskKey → Task → Bool
stays key task = not (is_among task.key (key ∷ []))

pub stays_other : (key : TaskKey) (task : Task) → same_key task.key key ≡ false → stays key task ≡ true
stays_other key task other = rw other refl

pub stays_not : (key : TaskKey) (task : Task) → same_key task.key key ≡ true → stays key task ≡ false
stays_not key task same = rw same refl

pub other_stays : (key : TaskKey) (task : Task) → stays key task ≡ true → same_key task.key key ≡ false
other_stays key task stay = by_answer (same_key task.key key) (λ t. absurd (both_ways false refl (rw t at stay))) (λ f. f)

-- a task that went isn't there
pub gone_absent : (key : TaskKey) (tasks : List Task) → task_at (without (key ∷ []) tasks) key ≡ None
gone_absent key tasks =
    find_none (λ y. same_key y.key key) (without (key ∷ []) tasks) (each_map (λ y. stays key y ≡ true) (λ y. same_key y.key key ≡ false) (other_stays key) _ (each_passes (stays key) tasks))

-- what is among some names doesn't change with the word for the name
pub among_same : (a b : TaskKey) (keys : List TaskKey) → same_key a b ≡ true → is_among a keys ≡ is_among b keys
among_same a b keys same = ap (λ k. is_among k keys) (key_same a b same)

-- a task that stays is found as before
pub found_still : (keys : List TaskKey) (tasks : List Task) (key : TaskKey) → is_among key keys ≡ false → task_at (without keys tasks) key ≡ task_at tasks key
found_still keys tasks key stay =
    find_filtered (λ y. same_key y.key key) (λ y. not (is_among y.key keys)) (λ y same. not_from_false _ (among_same y.key key keys same ∙ stay)) tasks

-- one more name of a task that goes
pub without_more : (keys : List TaskKey) (key : TaskKey) (tasks : List Task) → without (keys ++ key ∷ []) tasks ≡ without (key ∷ []) (without keys tasks)
without_more keys key tasks =
    sym (filter_and (stays key) (λ y. not (is_among y.key keys)) tasks
    ∙ filter_alike (λ y. stays key y && not (is_among y.key keys)) (λ y. not (is_among y.key (keys ++ key ∷ [])))
    (λ y. sym (ap not (list_any-append (same_key y.key) keys (key ∷ [])) ∙ both (is_among y.key keys) (is_among y.key (key ∷ [])))) tasks)
  where
    both : (a b : Bool) → not (a || b) ≡ (not b && not a)
    both true true = refl
    both true false = refl
    both false true = refl
    both false false = refl

-- the tasks that stay are in order
pub without_ordered : (keys : List TaskKey) (tasks : List Task) → IsInOrder ByKey tasks → IsInOrder ByKey (without keys tasks)
without_ordered keys tasks order = rises_filter (precedes ByKey) (λ y. not (is_among y.key keys)) tasks order

-- so are they with one more
pub with_ordered : (t : Task) (tasks : List Task) → task_at tasks t.key ≡ None → IsInOrder ByKey tasks → IsInOrder ByKey (with_task t tasks)
with_ordered t tasks none order = subst (IsInOrder ByKey) (put_is t tasks none) (put_rises t tasks none order)

-- tasks in order are those before a new one and those behind it
pub parted : (t : Task) (tasks : List Task) → task_at tasks t.key ≡ None → IsInOrder ByKey tasks
    → filter (λ o. key_lt o.key t.key) tasks ++ filter (λ o. key_lt t.key o.key) tasks ≡ tasks
parted t [] none order = refl
parted t (x ∷ rest) none order =
    let differ = each_absent (λ y. same_key y.key t.key) (x ∷ rest) none in
    let later = parted t rest (find_none _ rest differ.1) order.1 in
    by_answer (key_lt x.key t.key)
    (λ before.
    let not_behind : key_lt t.key x.key ≡ false = key_asym x.key t.key before in
    rw (before, not_behind) (ap (λ ys. x ∷ ys) later))
    (λ not_before.
    let behind : key_lt t.key x.key ≡ true = (rw not_before at (key_apart x.key t.key)) ∙ not_from_false _ differ.0 in
    rest_behind behind not_before)
  where
    rest_behind : key_lt t.key x.key ≡ true → key_lt x.key t.key ≡ false → filter (λ o. key_lt o.key t.key) (x ∷ rest) ++ filter (λ o. key_lt t.key o.key) (x ∷ rest) ≡ x ∷ rest
    rest_behind behind not_before =
        let all_behind = each_map (λ y. key_lt x.key y.key ≡ true) (λ y. key_lt t.key y.key ≡ true) (λ y after. trans key_lt key_strict t.key x.key y.key behind after) rest order.0 in
        let none_before = each_map (λ y. key_lt t.key y.key ≡ true) (λ y. key_lt y.key t.key ≡ false) (λ y after. key_asym t.key y.key after) rest all_behind in
        rw (behind, not_before) (rw (filter_none (λ o. key_lt o.key t.key) rest none_before, filter_every (λ o. key_lt t.key o.key) rest all_behind) refl)

-- a task that went comes back to its place
pub back_again : (t : Task) (tasks : List Task) → task_at tasks t.key ≡ Some t → IsInOrder ByKey tasks → with_task t (without (t.key ∷ []) tasks) ≡ tasks
back_again t [] found order = absurd (none-some t found)
back_again t (x ∷ rest) found order =
    by_answer (same_key x.key t.key)
    (λ same.
    let is : x ≡ t = same_Some x t (rw same at found) in
    let after : Each (λ y. key_lt t.key y.key ≡ true) rest = subst (λ (z : Task). Each (λ y. key_lt z.key y.key ≡ true) rest) is order.0 in
    let all_stay = filter_every (stays t.key) rest (each_map (λ y. key_lt t.key y.key ≡ true) (λ y. stays t.key y ≡ true) (λ y less. stays_other t.key y (key_differs_back t.key y.key less)) rest after) in
    let none_before = each_map (λ y. key_lt t.key y.key ≡ true) (λ y. key_lt y.key t.key ≡ false) (λ y less. key_asym t.key y.key less) rest after in
    let left : without (t.key ∷ []) (x ∷ rest) ≡ rest = rw (stays_not t.key x same) all_stay in
    ap (with_task t) left
    ∙ rw (filter_none (λ o. key_lt o.key t.key) rest none_before, filter_every (λ o. key_lt t.key o.key) rest after) (ap (λ z. z ∷ rest) (sym is)))
    (λ other.
    let later : task_at rest t.key ≡ Some t = rw other at found in
    let before : key_lt x.key t.key ≡ true = (each_found (λ y. key_lt x.key y.key ≡ true) (λ y. same_key y.key t.key) rest t order.0 later).0 in
    let left : without (t.key ∷ []) (x ∷ rest) ≡ x ∷ without (t.key ∷ []) rest = rw (stays_other t.key x other) refl in
    ap (with_task t) left
    ∙ rw (before, key_asym x.key t.key before) (ap (λ ys. x ∷ ys) (back_again t rest later order.1)))

-- a new task that goes again leaves the tasks as they were
pub gone_again : (t : Task) (tasks : List Task) → task_at tasks t.key ≡ None → IsInOrder ByKey tasks → without (t.key ∷ []) (with_task t tasks) ≡ tasks
gone_again t tasks none order =
    let front = filter (λ o. key_lt o.key t.key) tasks in
    let back = filter (λ o. key_lt t.key o.key) tasks in
    filter-append (stays t.key) front (t ∷ back)
    ∙ ap (λ ys. filter (stays t.key) front ++ ys) (rw (stays_not t.key t (key_itself t.key)) refl)
    ∙ sym (filter-append (stays t.key) front back)
    ∙ ap (filter (stays t.key)) (parted t tasks none order)
    ∙ without_absent t.key tasks none

-- a new task is found
pub found_new : (t : Task) (tasks : List Task) → task_at (with_task t tasks) t.key ≡ Some t
found_new t tasks =
    let front = filter (λ o. key_lt o.key t.key) tasks in
    let back = filter (λ o. key_lt t.key o.key) tasks in
    find_right (λ y. same_key y.key t.key) front (t ∷ back)
    (each_map (λ y. key_lt y.key t.key ≡ true) (λ y. same_key y.key t.key ≡ false) (λ y less. key_differs y.key t.key less) front (each_passes (λ o. key_lt o.key t.key) tasks))
    ∙ rw (key_itself t.key) refl

-- a search by name and a test, in order of key, is a test of the task of that name
pub any_at : (q r : Task → Bool) (key : TaskKey) → ((t : Task) → q t ≡ (same_key t.key key && r t)) → (tasks : List Task) → IsInOrder ByKey tasks
    → list_any q tasks ≡ option_map_or r (task_at tasks key) false
any_at q r key is [] order = refl
any_at q r key is (x ∷ rest) order =
    by_answer (same_key x.key key)
    (λ same.
    let name : x.key ≡ key = key_same x.key key same in
    let others = each_map (λ y. key_lt x.key y.key ≡ true) (λ y. q y ≡ false)
    (λ y less. is y ∙ ap (λ b. b && r y) (subst (λ k. same_key y.key k ≡ false) name (key_differs_back x.key y.key less))) rest order.0 in
    let here : q x ≡ r x = is x ∙ rw same refl in
    rw same (ap₂ (λ a b. a || b) here (any_none q rest others) ∙ or-false (r x)))
    (λ other.
    let here : q x ≡ false = is x ∙ rw other refl in
    rw (other, here) (any_at q r key is rest order.1))
