-- Tasks that run: those of some tenants, and a board's.
use Rattle.std.proofs.Common.{◌≡◌, ℕ, Bool, true, false, cond, not, List, [], ◌∷◌, ◌++◌, Option, Some, None, refl, sym, ap, ap₂, ◌∙◌, subst, if◌then◌else◌}
use Rattle.std.specs.List.{filter, find}
use Rattle.std.specs.List.Sorted.{IsPermutation}
use Rattle.std.proofs.lemmas.Bool.{both_ways, eqb-true}
use Rattle.std.proofs.lemmas.List.Sorted.{IsPermutation-refl, IsPermutation-sym, IsPermutation-trans, IsPermutation-cons, IsPermutation-append, IsPermutation-middle}
use Rattle.std.proofs.lemmas.Option.{none-some, same_Some}
use Rattle.omega_model.specs.Cell.{is_on, task_at, with_task, without}
use Rattle.omega_model.specs.Keys.{same_key, key_lt, is_among}
use Rattle.omega_model.specs.declared.cells.Task.{Task}
use Rattle.omega_model.specs.declared.cells.TaskKey.{TaskKey}
use Rattle.omega_model.proofs.InOrder.{key_itself, key_same, same_key-sym}
use Rattle.omega_model.proofs.Lists.{by_answer, each_filter, each_passes, each_map, find_none}
use Rattle.omega_running.specs.declared.orders.Order.TheVariants.{ByKey}
use Rattle.omega_running.specs.Order.{IsInOrder, precedes}
use Rattle.omega_running.proofs.Kept.{rises_filter, without_absent}
use Rattle.omega_board.proofs.Tasks.{among_same, back_again, found_new, found_still, gone_absent, key_differs_back, parted, without_ordered}
use Rattle.omega_plan.specs.Tenants.{AreBeside, either, is_whole, kept}
use Rattle.omega_plan.specs.declared.tenants.Tenants.{Tenants}

-- a search passes by what fails
find_skip : {X : Type 0} (p : X → Bool) (front : List X) (x : X) (back : List X) → p x ≡ false → find p (front ++ x ∷ back) ≡ find p (front ++ back)
find_skip p [] x back fails = rw fails refl
find_skip p (y ∷ front) x back fails = ap (λ o. cond (p y) (Some y) o) (find_skip p front x back fails)

-- with one more task, that of its name is this one, and all others are as before
pub with_own : (t : Task) (tasks : List Task) (key : TaskKey) → same_key t.key key ≡ true → task_at (with_task t tasks) key ≡ Some t
with_own t tasks key same = subst (λ k. task_at (with_task t tasks) k ≡ Some t) (key_same t.key key same) (found_new t tasks)

pub with_other : (t : Task) (tasks : List Task) (key : TaskKey) → task_at tasks t.key ≡ None → IsInOrder ByKey tasks → same_key t.key key ≡ false
    → task_at (with_task t tasks) key ≡ task_at tasks key
with_other t tasks key none order other =
    find_skip (λ y. same_key y.key key) (filter (λ o. key_lt o.key t.key) tasks) t (filter (λ o. key_lt t.key o.key) tasks) other
    ∙ ap (λ ts. task_at ts key) (parted t tasks none order)

-- a task that went isn't there
pub gone_among : (keys : List TaskKey) (tasks : List Task) (key : TaskKey) → is_among key keys ≡ true → task_at (without keys tasks) key ≡ None
gone_among keys tasks key among =
    find_none (λ y. same_key y.key key) (without keys tasks)
    (each_map (λ y. not (is_among y.key keys) ≡ true) (λ y. same_key y.key key ≡ false) differs (without keys tasks) (each_passes (λ y. not (is_among y.key keys)) tasks))
  where
    differs : (y : Task) → not (is_among y.key keys) ≡ true → same_key y.key key ≡ false
    differs y stay =
        by_answer (same_key y.key key)
        (λ same. absurd (both_ways false refl (sym (ap not (among_same y.key key keys same ∙ among)) ∙ stay)))
        (λ other. other)

-- a task, if there is one and it passes
abbrev pub passing : (Task → Bool) → Option Task → Option Task
passing p None = None
passing p (Some task) = if p task then Some task else None

-- no later task has the first one's name
later_differ : (x : Task) (rest : List Task) (key : TaskKey) → IsInOrder ByKey (x ∷ rest) → same_key x.key key ≡ true → (p : Task → Bool) → task_at (filter p rest) key ≡ None
later_differ x rest key order same p =
    find_none (λ y. same_key y.key key) (filter p rest)
    (each_filter (λ y. same_key y.key key ≡ false) p rest
    (each_map (λ y. key_lt x.key y.key ≡ true) (λ y. same_key y.key key ≡ false)
    (λ y less. subst (λ k. same_key y.key k ≡ false) (key_same x.key key same) (key_differs_back x.key y.key less)) rest order.0))

-- of tasks in order, what a filter leaves of the one of a name
pub filter_at : (p : Task → Bool) (tasks : List Task) (key : TaskKey) → IsInOrder ByKey tasks → task_at (filter p tasks) key ≡ passing p (task_at tasks key)
filter_at p [] key order = refl
filter_at p (x ∷ rest) key order =
    by_answer (same_key x.key key)
    (λ same.
    by_answer (p x)
    (λ yes. rw (same, yes) (rw same refl))
    (λ no. rw (same, no) (later_differ x rest key order same p)))
    (λ other.
    by_answer (p x)
    (λ yes. rw (other, yes) (rw other (filter_at p rest key order.1)))
    (λ no. rw (other, no) (filter_at p rest key order.1)))

-- one more task, in any order
with_moved : (t : Task) (tasks : List Task) → task_at tasks t.key ≡ None → IsInOrder ByKey tasks → IsPermutation (with_task t tasks) (t ∷ tasks)
with_moved t tasks none order =
    subst (λ ts. IsPermutation (with_task t tasks) (t ∷ ts)) (parted t tasks none order)
    (IsPermutation-middle (filter (λ o. key_lt o.key t.key) tasks) t (filter (λ o. key_lt t.key o.key) tasks))

taken_front : (t : Task) (tasks : List Task) → task_at tasks t.key ≡ Some t → IsInOrder ByKey tasks → IsPermutation (t ∷ without (t.key ∷ []) tasks) tasks
taken_front t tasks found order =
    let left = without (t.key ∷ []) tasks in
    subst (λ ts. IsPermutation (t ∷ left) ts) (back_again t tasks found order)
    (IsPermutation-sym (with_task t left) (t ∷ left) (with_moved t left (gone_absent t.key tasks) (without_ordered (t.key ∷ []) tasks order)))

-- a list in which no name is found
nothing_there : (tasks : List Task) → ((key : TaskKey) → task_at tasks key ≡ None) → tasks ≡ []
nothing_there [] none = refl
nothing_there (x ∷ tasks) none = let itself = key_itself x.key in let here = none x.key in absurd (none-some x (sym (rw itself at here)))

pub neither : (a b : Option Task) → None ≡ either a b → (a ≡ None) × (b ≡ None)
neither None b e = (refl, sym e)
neither (Some t) b e = absurd (none-some t e)

same_as : (xs ys : List Task) → xs ≡ ys → IsPermutation xs ys
same_as xs ys same = subst (λ ts. IsPermutation xs ts) same (IsPermutation-refl xs)

-- tasks of which each name's is that of one of two lists are the tasks of both
pub one_or_other : (xs ours theirs : List Task) → IsInOrder ByKey xs → IsInOrder ByKey ours → IsInOrder ByKey theirs
    → ((key : TaskKey) → task_at xs key ≡ either (task_at ours key) (task_at theirs key)) → ((key : TaskKey) (t : Task) → task_at ours key ≡ Some t → task_at theirs key ≡ None)
    → IsPermutation xs (ours ++ theirs)
one_or_other [] ours theirs order ours_order theirs_order found apart =
    let none : ours ≡ [] = nothing_there ours (λ key. (neither (task_at ours key) (task_at theirs key) (found key)).0) in
    let no_more : theirs ≡ [] = nothing_there theirs (λ key. (neither (task_at ours key) (task_at theirs key) (found key)).1) in
    same_as [] (ours ++ theirs) (sym (ap₂ (λ (ys zs : List Task). ys ++ zs) none no_more))
one_or_other (x ∷ xs) ours theirs order ours_order theirs_order found apart =
    IsPermutation-trans (x ∷ xs) (x ∷ (own ++ rest)) (ours ++ theirs)
    (IsPermutation-cons x xs (own ++ rest)
    (one_or_other xs own rest order.1 (without_ordered (x.key ∷ []) ours ours_order) (without_ordered (x.key ∷ []) theirs theirs_order) found_later apart_later))
    (first (task_at ours x.key) refl)
  where
    own : List Task
    own = without (x.key ∷ []) ours

    rest : List Task
    rest = without (x.key ∷ []) theirs

    stay : (key : TaskKey) → same_key x.key key ≡ false → is_among key (x.key ∷ []) ≡ false
    stay key other = let back = same_key-sym x.key key other in rw back refl

    found_later : (key : TaskKey) → task_at xs key ≡ either (task_at own key) (task_at rest key)
    found_later key =
        by_answer (same_key x.key key)
        (λ same.
        subst (λ k. task_at xs k ≡ either (task_at own k) (task_at rest k)) (key_same x.key key same)
        (find_none (λ y. same_key y.key x.key) xs (each_map (λ y. key_lt x.key y.key ≡ true) (λ y. same_key y.key x.key ≡ false) (λ y less. key_differs_back x.key y.key less) xs order.0)
        ∙ sym (ap₂ either (gone_absent x.key ours) (gone_absent x.key theirs))))
        (λ other.
        let here = found key in
        (rw other at here) ∙ sym (ap₂ either (found_still (x.key ∷ []) ours key (stay key other)) (found_still (x.key ∷ []) theirs key (stay key other))))

    apart_later : (key : TaskKey) (t : Task) → task_at own key ≡ Some t → task_at rest key ≡ None
    apart_later key t here =
        by_answer (same_key x.key key)
        (λ same. subst (λ k. task_at rest k ≡ None) (key_same x.key key same) (gone_absent x.key theirs))
        (λ other.
        found_still (x.key ∷ []) theirs key (stay key other)
        ∙ apart key t (sym (found_still (x.key ∷ []) ours key (stay key other)) ∙ here))

    there : Some x ≡ either (task_at ours x.key) (task_at theirs x.key)
    there = let itself = key_itself x.key in let here = found x.key in rw itself at here

    first : (o : Option Task) → task_at ours x.key ≡ o → IsPermutation (x ∷ (own ++ rest)) (ours ++ theirs)
    first None is =
        let found_right : task_at theirs x.key ≡ Some x = sym (there ∙ ap (λ o. either o (task_at theirs x.key)) is) in
        IsPermutation-trans (x ∷ (own ++ rest)) (own ++ x ∷ rest) (ours ++ theirs)
        (IsPermutation-sym (own ++ x ∷ rest) (x ∷ (own ++ rest)) (IsPermutation-middle own x rest))
        (IsPermutation-append own ours (x ∷ rest) theirs (same_as own ours (without_absent x.key ours is)) (taken_front x theirs found_right theirs_order))
    first (Some t) is =
        let same : x ≡ t = same_Some x t (there ∙ ap (λ o. either o (task_at theirs x.key)) is) in
        let found_left : task_at ours x.key ≡ Some x = is ∙ ap Some (sym same) in
        IsPermutation-append (x ∷ own) ours rest theirs (taken_front x ours found_left ours_order) (same_as rest theirs (without_absent x.key theirs (apart x.key t is)))

-- the board's tasks on a machine, unless that is whole
abbrev pub left_there : Tenants → List Task → ℕ → List Task
left_there tenants board id = if is_whole tenants id then [] else filter (is_on id) board

left_at : (tenants : Tenants) (board : List Task) (id : ℕ) (key : TaskKey) → IsInOrder ByKey board
    → task_at (left_there tenants board id) key ≡ passing (is_on id) (kept tenants (task_at board key))
left_at tenants board id key order =
    by_answer (is_whole tenants id)
    (λ whole.
    ap (λ b. task_at (if b then [] else filter (is_on id) board) key) whole ∙ sym (none_left whole (task_at board key)))
    (λ partly.
    ap (λ b. task_at (if b then [] else filter (is_on id) board) key) partly
    ∙ filter_at (is_on id) board key order
    ∙ sym (all_left partly (task_at board key)))
  where
    there : (t : Task) → is_on id t ≡ true → is_whole tenants t.machine ≡ is_whole tenants id
    there t on = ap (is_whole tenants) (eqb-true t.machine id on)

    none_left : is_whole tenants id ≡ true → (o : Option Task) → passing (is_on id) (kept tenants o) ≡ None
    none_left whole None = refl
    none_left whole (Some t) =
        by_answer (is_on id t)
        (λ on. ap (λ b. passing (is_on id) (if b then None else Some t)) (there t on ∙ whole))
        (λ off.
        by_answer (is_whole tenants t.machine)
        (λ w. ap (λ b. passing (is_on id) (if b then None else Some t)) w)
        (λ w. ap (λ b. passing (is_on id) (if b then None else Some t)) w ∙ ap (λ b. if b then Some t else None) off))

    all_left : is_whole tenants id ≡ false → (o : Option Task) → passing (is_on id) (kept tenants o) ≡ passing (is_on id) o
    all_left partly None = refl
    all_left partly (Some t) =
        by_answer (is_on id t)
        (λ on. ap (λ b. passing (is_on id) (if b then None else Some t)) (there t on ∙ partly))
        (λ off.
        by_answer (is_whole tenants t.machine)
        (λ w. ap (λ b. passing (is_on id) (if b then None else Some t)) w ∙ sym (ap (λ b. if b then Some t else None) off))
        (λ w. ap (λ b. passing (is_on id) (if b then None else Some t)) w))

-- what runs on a machine
pub found_on : (tenants : Tenants) (board tasks : List Task) → AreBeside tenants board tasks → (id : ℕ)
    → IsPermutation (filter (is_on id) tasks) (filter (is_on id) tenants.own.tasks ++ left_there tenants board id)
found_on tenants board tasks beside id =
    one_or_other (filter (is_on id) tasks) (filter (is_on id) tenants.own.tasks) (left_there tenants board id)
    (rises_filter (precedes ByKey) (is_on id) tasks beside.ordered)
    (rises_filter (precedes ByKey) (is_on id) tenants.own.tasks beside.own_ordered)
    (left_ordered (is_whole tenants id))
    (λ key.
    filter_at (is_on id) tasks key beside.ordered ∙ ap (passing (is_on id)) (beside.found key)
    ∙ parted_too (task_at tenants.own.tasks key) (kept tenants (task_at board key)) (beside.apart key)
    ∙ sym (ap₂ either (filter_at (is_on id) tenants.own.tasks key beside.own_ordered) (left_at tenants board id key beside.board_ordered)))
    (λ key t here.
    left_at tenants board id key beside.board_ordered
    ∙ apart_too (task_at tenants.own.tasks key) (kept tenants (task_at board key)) (beside.apart key) t (sym (filter_at (is_on id) tenants.own.tasks key beside.own_ordered) ∙ here))
  where
    left_ordered : (b : Bool) → IsInOrder ByKey (if b then [] else filter (is_on id) board)
    left_ordered true = tt
    left_ordered false = rises_filter (precedes ByKey) (is_on id) board beside.board_ordered

    parted_too : (a b : Option Task) → ((t : Task) → a ≡ Some t → b ≡ None) → passing (is_on id) (either a b) ≡ either (passing (is_on id) a) (passing (is_on id) b)
    parted_too None b apart = refl
    parted_too (Some t) b apart =
        by_answer (is_on id t)
        (λ on. rw on refl)
        (λ off. rw off (sym (ap (passing (is_on id)) (apart t refl))))

    apart_too : (a b : Option Task) → ((t : Task) → a ≡ Some t → b ≡ None) → (t : Task) → passing (is_on id) a ≡ Some t → passing (is_on id) b ≡ None
    apart_too None b apart t here = absurd (none-some t here)
    apart_too (Some s) b apart t here = ap (passing (is_on id)) (apart s refl)
