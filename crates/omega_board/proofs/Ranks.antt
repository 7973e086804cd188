-- The tasks on a machine in order of eviction.
use Rattle.std.proofs.Common.{◌≡◌, ℕ, zero, suc, ◌+◌, ◌<◌, ◌≤◌, Bool, true, false, not, ◌&&◌, List, [], ◌∷◌, ◌++◌, length, get_or, take, drop, Option, Some, None, IsSomeAnd, refl, sym, ap, ap₂, ◌∙◌, subst, arith, ◌==◌, le-leb}
use Rattle.std.specs.List.{filter, AllByRecursion as Each}
use Rattle.std.proofs.lemmas.Bool.{eq-eqb, and_from, or_from, or_left, or_right, not_from_true, not_from_false}
use Rattle.std.proofs.lemmas.List.{drop_more, drop_all, take_at, take-map, get_or-map, get_or_default}
use Rattle.std.proofs.lemmas.List.Elements.{filter-append}
use Rattle.std.proofs.lemmas.Option.{same_Some}
use Rattle.omega_model.specs.Need.{Fits, fits, nothing, plus, minus}
use Rattle.omega_model.specs.Keys.{same_key, key_lt, is_among}
use Rattle.omega_model.specs.Cell.{task_at, without, total, is_on, use_on, keys_of, goes_before, put_by_rank, by_rank}
use Rattle.omega_model.specs.State.{excess, ranked_on, goes_on}
use Rattle.omega_model.specs.declared.cells.Need.{Need}
use Rattle.omega_model.specs.declared.cells.TaskKey.{TaskKey}
use Rattle.omega_model.specs.declared.cells.Task.{Task}
use Rattle.omega_running.specs.declared.orders.Order.TheVariants.{ByKey}
use Rattle.omega_running.specs.Order.{IsInOrder}
use Rattle.omega_running.proofs.Ranked.{each_put, each_ranked, each_unranked}
use Rattle.omega_board.proofs.Tasks.{stays}
use Rattle.omega_model.proofs.InOrder.{key_itself, key_differs, key_same, same_key-sym}
use Rattle.omega_model.proofs.Amounts.{fits_tested, rank_total, plus-swap, need_is, total-cons, share}
use Rattle.omega_model.proofs.Stopping.{each_among}
use Rattle.omega_model.proofs.Lists.{by_answer, each_map, each_both, each_of, each_back, filter_every, filter_none, filter_where, filter_turned, each_filter, each_at}

-- the test of an amount says what it says
pub fits_true : (a b : Need) → Fits a b → fits a b ≡ true
fits_true a b h = and_from _ _ (le-leb _ _ h.0) (and_from _ _ (le-leb _ _ h.1.0) (le-leb _ _ h.1.1))

-- an order doesn't change a sum
total-put : (p : Task → Bool) (t : Task) (tasks : List Task) → total (filter p (put_by_rank t tasks)) ≡ plus (share p t) (total (filter p tasks))
total-put p t [] = total-cons p t []
total-put p t (o ∷ tasks) =
    by_answer (goes_before o t)
    (λ h. rw h (total-cons p o (put_by_rank t tasks) ∙ ap (plus (share p o)) (total-put p t tasks) ∙ plus-swap (share p o) (share p t) (total (filter p tasks))
    ∙ ap (plus (share p t)) (sym (total-cons p o tasks))))
    (λ h. rw h (total-cons p t (o ∷ tasks)))

-- the tasks on a machine use what is used there
pub total-ranked : (tasks : List Task) (id : ℕ) → total (ranked_on id tasks) ≡ use_on tasks id
total-ranked tasks id =
    let all : Task → Bool = λ _. true in
    ap total (sym (filter_every all (ranked_on id tasks) (each_of _ (λ t. refl) _)))
    ∙ rank_total all (filter (is_on id) tasks)
    ∙ ap total (filter_every all (filter (is_on id) tasks) (each_of _ (λ t. refl) _))

-- each running task is found under its name
pub each_here : (tasks : List Task) → IsInOrder ByKey tasks → Each (λ t. task_at tasks t.key ≡ Some t) tasks
each_here [] order = tt
each_here (x ∷ rest) order = (
  rw (key_itself x.key) refl,
  each_both (λ y. key_lt x.key y.key ≡ true) (λ y. task_at rest y.key ≡ Some y) (λ y. task_at (x ∷ rest) y.key ≡ Some y)
      (λ y less found. rw (key_differs x.key y.key less) found) rest order.0 (each_here rest order.1),
)

pub ranked_found : (tasks : List Task) (id : ℕ) → IsInOrder ByKey tasks → Each (λ t. task_at tasks t.key ≡ Some t) (ranked_on id tasks)
ranked_found tasks id order =
    each_ranked (λ t. task_at tasks t.key ≡ Some t) (filter (is_on id) tasks) (each_filter (λ t. task_at tasks t.key ≡ Some t) (is_on id) tasks (each_here tasks order))

-- tasks of distinct names
abbrev pub Apart : List Task → Type 0
Apart [] = Unit {0}
Apart (t ∷ tasks) = Each (λ y. same_key t.key y.key ≡ false) tasks × Apart tasks

pub ordered_apart : (tasks : List Task) → IsInOrder ByKey tasks → Apart tasks
ordered_apart [] order = tt
ordered_apart (t ∷ tasks) order = (each_map (λ y. key_lt t.key y.key ≡ true) (λ y. same_key t.key y.key ≡ false) (λ y less. key_differs t.key y.key less) tasks order.0, ordered_apart tasks order.1)

pub filter_apart : (p : Task → Bool) (tasks : List Task) → Apart tasks → Apart (filter p tasks)
filter_apart p [] apart = tt
filter_apart p (t ∷ tasks) apart =
    by_answer (p t)
    (λ h. rw h (each_filter (λ y. same_key t.key y.key ≡ false) p tasks apart.0, filter_apart p tasks apart.1))
    (λ h. rw h (filter_apart p tasks apart.1))

put_apart : (t : Task) (tasks : List Task) → Each (λ y. same_key t.key y.key ≡ false) tasks → Apart tasks → Apart (put_by_rank t tasks)
put_apart t [] differ apart = (tt, tt)
put_apart t (o ∷ tasks) differ apart =
    by_answer (goes_before o t)
    (λ h. rw h (each_put (λ y. same_key o.key y.key ≡ false) t tasks (same_key-sym t.key o.key differ.0) apart.0, put_apart t tasks differ.1 apart.1))
    (λ h. rw h (differ, apart))

rank_apart : (tasks : List Task) → Apart tasks → Apart (by_rank tasks)
rank_apart [] apart = tt
rank_apart (t ∷ tasks) apart = put_apart t (by_rank tasks) (each_ranked (λ y. same_key t.key y.key ≡ false) tasks apart.0) (rank_apart tasks apart.1)

pub ranked_apart : (tasks : List Task) (id : ℕ) → IsInOrder ByKey tasks → Apart (ranked_on id tasks)
ranked_apart tasks id order = rank_apart (filter (is_on id) tasks) (filter_apart (is_on id) tasks (ordered_apart tasks order))

-- the names of the first aren't those of the others
others_not_among : (xs ys : List Task) → Apart (xs ++ ys) → Each (λ y. is_among y.key (keys_of xs) ≡ false) ys
others_not_among [] ys apart = each_of _ (λ y. refl) ys
others_not_among (x ∷ xs) ys apart =
    each_both (λ y. same_key x.key y.key ≡ false) (λ y. is_among y.key (keys_of xs) ≡ false) (λ y. is_among y.key (keys_of (x ∷ xs)) ≡ false)
    (λ y differ rest. or_from _ _ (same_key-sym x.key y.key differ) rest) ys (each_back (λ y. same_key x.key y.key ≡ false) xs ys apart.0) (others_not_among xs ys apart.1)

-- once the first in order of eviction stopped, the machine's use is that of the others
pub use-without : (tasks : List Task) (id : ℕ) (xs ys : List Task) → IsInOrder ByKey tasks → ranked_on id tasks ≡ xs ++ ys → use_on (without (keys_of xs) tasks) id ≡ total ys
use-without tasks id xs ys order parts =
    let stay : Task → Bool = λ t. not (is_among t.key (keys_of xs)) in
    let apart : Apart (xs ++ ys) = subst Apart parts (ranked_apart tasks id order) in
    ap total (filter_turned (is_on id) stay tasks)
    ∙ sym (rank_total stay (filter (is_on id) tasks))
    ∙ ap (λ ts. total (filter stay ts)) parts
    ∙ ap total (filter-append stay xs ys)
    ∙ ap₂ (λ a b. total (a ++ b))
    (filter_none stay xs (each_map (λ t. is_among t.key (keys_of xs) ≡ true) (λ t. stay t ≡ false) (λ t h. not_from_true _ h) xs (each_among xs)))
    (filter_every stay ys (each_map (λ t. is_among t.key (keys_of xs) ≡ false) (λ t. stay t ≡ true) (λ t h. not_from_false _ h) ys (others_not_among xs ys apart)))

-- where all fit, none stops
pub excess_none : (cap : Need) (tasks : List Task) → Fits (total tasks) cap → excess cap tasks ≡ []
excess_none cap [] h = refl
excess_none cap (t ∷ tasks) h = rw (fits_true (total (t ∷ tasks)) cap h) refl

-- those that stop are the first, and the others fit
pub record IsExcess (cap : Need) (tasks : List Task) : Type 0 where
  pub others : List Task
  pub parts : tasks ≡ excess cap tasks ++ others
  pub fit : Fits (total others) cap

pub excess_first : (cap : Need) (tasks : List Task) → IsExcess cap tasks
excess_first cap [] = record { others = []; parts = refl; fit = (omega arith, (omega arith, omega arith)) }
excess_first cap (t ∷ tasks) =
    by_answer (fits (total (t ∷ tasks)) cap)
    (λ h. record { others = t ∷ tasks; parts = rw h refl; fit = fits_tested _ _ h })
    (λ h. let rest = excess_first cap tasks in record { others = rest.others; parts = rw h (ap (λ ts. t ∷ ts) rest.parts); fit = rest.fit })

-- the names of those that stop are the first names
pub excess_keys : (cap : Need) (tasks : List Task) → take (length (excess cap tasks)) (keys_of tasks) ≡ keys_of (excess cap tasks)
excess_keys cap tasks =
    let known = excess_first cap tasks in
    take-map (λ (t : Task). t.key) (length (excess cap tasks)) tasks
    ∙ ap keys_of (ap (take (length (excess cap tasks))) known.parts ∙ take_at (excess cap tasks) known.others _ refl)

-- the walk along the ranked tasks, so far
abbrev pub Walked : Need → List Task → ℕ → Need → Type 0
Walked cap ranked i left = (i + length (excess cap (drop i ranked)) ≡ length (excess cap ranked)) × (left ≡ total (drop i ranked))

pub walked_end : (cap : Need) (ranked : List Task) (i : ℕ) (left : Need) → Walked cap ranked i left → Fits left cap → i ≡ length (excess cap ranked)
walked_end cap ranked i left walked h =
    let none : length (excess cap (drop i ranked)) ≡ 0 = ap length (excess_none cap (drop i ranked) (subst (λ n. Fits n cap) walked.1 h)) in
    omega (arith, none, walked.0)

pub walked_all : (cap : Need) (ranked : List Task) (i : ℕ) (left : Need) → Walked cap ranked i left → length ranked ≤ i → i ≡ length (excess cap ranked)
walked_all cap ranked i left walked past =
    let none : length (excess cap (drop i ranked)) ≡ 0 = ap (λ ts. length (excess cap ts)) (drop_all i ranked past) in
    omega (arith, none, walked.0)

pub walked_more : (cap : Need) (ranked : List Task) (i : ℕ) (t : Task) (left : Need) → i < length ranked → get_or ranked i t ≡ t → Walked cap ranked i left → (Fits left cap → ⊥) → Walked cap ranked (i + 1) (minus left t.spec.need)
walked_more cap ranked i t left below is walked large =
    let next : drop i ranked ≡ t ∷ drop (i + 1) ranked = drop_more ranked i t below ∙ ap (λ x. x ∷ drop (i + 1) ranked) is in
    let sum : left ≡ plus t.spec.need (total (drop (i + 1) ranked)) = walked.1 ∙ ap total next in
    let too_much : fits (total (t ∷ drop (i + 1) ranked)) cap ≡ false =
    by_answer (fits (total (t ∷ drop (i + 1) ranked)) cap) (λ h. absurd (large (subst (λ n. Fits n cap) (sym sum) (fits_tested _ _ h)))) (λ h. h) in
    let one_more : excess cap (t ∷ drop (i + 1) ranked) ≡ t ∷ excess cap (drop (i + 1) ranked) = rw too_much refl in
    let count : length (excess cap (drop i ranked)) ≡ suc (length (excess cap (drop (i + 1) ranked))) = ap length (ap (excess cap) next ∙ one_more) in
    (omega (arith, count, walked.0), need_is _ _ (omega (arith, ap (λ (n : Need). n.cpu) sum)) (omega (arith, ap (λ (n : Need). n.mem) sum)) (omega (arith, ap (λ (n : Need). n.disk) sum)))

-- the task at a place in order of eviction
pub record IsRankedAt (tasks : List Task) (id i : ℕ) (d : TaskKey) : Type 0 where
  pub task : Task
  pub here : get_or (ranked_on id tasks) i task ≡ task
  pub named : get_or (keys_of (ranked_on id tasks)) i d ≡ task.key
  pub found : task_at tasks task.key ≡ Some task

pub ranked_at : (tasks : List Task) (id i : ℕ) (d : TaskKey) → IsInOrder ByKey tasks → i < length (ranked_on id tasks) → IsRankedAt tasks id i d
ranked_at tasks id i d order below =
    let ranked = ranked_on id tasks in
    let none : Task = record { key = d; machine = 0; spec = record { need = nothing; prec = 0; differ = false } } in
    let t = get_or ranked i none in
    record {
      task = t;
      here = get_or_default ranked i t none below;
      named = get_or-map (λ (x : Task). x.key) ranked i none d below;
      found = each_at (λ x. task_at tasks x.key ≡ Some x) ranked i none (ranked_found tasks id order) below;
    }

-- once all on a machine stopped, none is there
pub none-without : (tasks : List Task) (id : ℕ) → filter (is_on id) (without (keys_of (ranked_on id tasks)) tasks) ≡ []
none-without tasks id =
    let names = keys_of (ranked_on id tasks) in
    let stay : Task → Bool = λ t. not (is_among t.key names) in
    filter_turned (is_on id) stay tasks
    ∙ filter_none stay (filter (is_on id) tasks)
    (each_map (λ t. is_among t.key names ≡ true) (λ t. stay t ≡ false) (λ t h. not_from_true _ h) (filter (is_on id) tasks)
    (each_unranked (λ t. is_among t.key names ≡ true) (filter (is_on id) tasks) (each_among (ranked_on id tasks))))

-- once those in excess stopped, the use fits
pub excess_fits : (tasks : List Task) (id : ℕ) (cap : Need) → IsInOrder ByKey tasks → Fits (use_on (without (keys_of (excess cap (ranked_on id tasks))) tasks) id) cap
excess_fits tasks id cap order =
    let known = excess_first cap (ranked_on id tasks) in
    subst (λ n. Fits n cap) (sym (use-without tasks id (excess cap (ranked_on id tasks)) known.others order known.parts)) known.fit

-- where all fit, no name is in excess
pub excess_no_keys : (tasks : List Task) (id : ℕ) (cap amount : Need) → amount ≡ use_on tasks id → Fits amount cap → [] ≡ keys_of (excess cap (ranked_on id tasks))
excess_no_keys tasks id cap amount is fits =
    sym (ap keys_of (excess_none cap (ranked_on id tasks) (subst (λ n. Fits n cap) (is ∙ sym (total-ranked tasks id)) fits)))

-- a task that ends on its machine is the one of its name
pub end_is : (tasks : List Task) (key : TaskKey) (machine : ℕ) (t : Task) → IsInOrder ByKey tasks → task_at tasks key ≡ Some t → t.machine ≡ machine → without (key ∷ []) tasks ≡ filter (goes_on key machine) tasks
end_is tasks key machine t order found on =
    filter_where (stays key) (goes_on key machine) tasks
    (each_map (λ y. task_at tasks y.key ≡ Some y) (λ y. stays key y ≡ goes_on key machine y)
    (λ y here.
    by_answer (same_key y.key key)
    (λ h.
    let same : y ≡ t = same_Some y t (sym here ∙ ap (task_at tasks) (key_same y.key key h) ∙ found) in
    let there : (y.machine == machine) ≡ true = eq-eqb _ _ (ap (λ (x : Task). x.machine) same ∙ on) in
    rw (h, there) refl)
    (λ h. rw h refl)) tasks (each_here tasks order))

-- the task that an end names
pub record IsEnding (tasks : List Task) (key : TaskKey) (machine : ℕ) : Type 0 where
  pub task : Task
  pub found : task_at tasks key ≡ Some task
  pub on : task.machine ≡ machine

pub ending : (tasks : List Task) (key : TaskKey) (machine : ℕ) → IsSomeAnd (task_at tasks key) (λ task. task.machine ≡ machine) → IsEnding tasks key machine
ending tasks key machine ends = by (task_at tasks key) refl ends
  where
    by : (o : Option Task) → task_at tasks key ≡ o → IsSomeAnd o (λ task. task.machine ≡ machine) → IsEnding tasks key machine
    by None is e = absurd e
    by (Some t) is e = record { task = t; found = is; on = e }
