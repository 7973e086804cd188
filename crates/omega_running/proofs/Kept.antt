-- What keeps the two lists of tasks the same when one is put in or taken out.
use Rattle.std.proofs.Common.{◌≡◌, ℕ, Bool, true, false, ◌||◌, not, cond, eqb, List, [], ◌∷◌, ◌++◌, Some, None, refl, ap, ap₂, sym, ◌∙◌, ◌⊎◌, inl, inr}
use Rattle.std.specs.List.{filter, find, AllByRecursion as Each}
use Rattle.std.specs.Option.{option_map}
use Rattle.std.proofs.lemmas.Bool.{both_ways, eqb-true, eq-eqb, and_parts, or_cases, or_left, or_right, or_from, not_from_true, not_from_false, not-false, not-true, false_from_ne_true}
use Rattle.std.proofs.lemmas.List.Elements.{filter-append, filter_agree}
use Rattle.omega_model.specs.Keys.{key_lt, same_key, is_among}
use Rattle.omega_model.specs.Cell.{task_at, with_task, without, is_on}
use Rattle.omega_model.specs.Jobs.{other_of_job, stays_of_job}
use Rattle.omega_model.specs.declared.cells.TaskKey.{TaskKey}
use Rattle.omega_model.specs.declared.cells.Task.{Task}
use Rattle.omega_running.specs.declared.orders.Order.{Order}
use Rattle.omega_running.specs.declared.orders.Order.TheVariants.{ByKey, ByMachine}
use Rattle.omega_running.specs.Order.{Rises, IsInOrder, precedes, is_apart, at_place, put_in, taken_out}
use Rattle.omega_model.proofs.Lists.{each_map, each_both, each_append, each_of, filter_every, filter_none, filter_where, each_absent, each_filter, each_found, each_passes, each_where, filter_turned, find_filtered}
use Rattle.omega_running.proofs.Strict.{IsStrict, trans, put, apart}
use Rattle.omega_running.proofs.InOrder.{strict, key_apart, apart-sym, apart_by_machine, place_of_key}
use Rattle.omega_running.proofs.Lex.{lex_same}
use Rattle.omega_model.proofs.InOrder.{key_asym}

-- two lists of which the same passes s, filtered by tests that agree there
filter_same : {X : Type 0} (s p q : X → Bool) (xs ys : List X) → ((x : X) → s x ≡ true → p x ≡ q x) → filter s xs ≡ filter s ys → filter s (filter p xs) ≡ filter s (filter q ys)
filter_same s p q xs ys f e =
    filter_turned s p xs
    ∙ filter_where p q (filter s xs) (each_map (λ x. s x ≡ true) (λ x. p x ≡ q x) f (filter s xs) (each_passes s xs))
    ∙ ap (filter q) e
    ∙ filter_turned q s ys

-- the first that passes a test is the first that passes a narrower one, if it passes that too
find_narrow : {X : Type 0} (p q : X → Bool) (xs : List X) (y : X) → find p xs ≡ Some y → ((x : X) → q x ≡ true → p x ≡ true) → q y ≡ true → find q xs ≡ Some y
find_narrow p q [] y e f h = absurd (cc)
find_narrow p q (x ∷ xs) y e f h = go (p x) (q x) refl refl (λ d. find_narrow p q xs y d f h) e where
  go : (a b : Bool) → p x ≡ a → q x ≡ b → (find p xs ≡ Some y → find q xs ≡ Some y) → cond a (Some x) (find p xs) ≡ Some y → cond b (Some x) (find q xs) ≡ Some y
  go true true i k rest e = e
  go true false i k rest e = let same : x ≡ y = cc in absurd (both_ways (q x) k (rw same h))
  go false true i k rest e = absurd (both_ways _ i (f x k))
  go false false i k rest e = rest e

-- lists in order
pub rises_filter : {X : Type 0} (lt : X → X → Bool) (p : X → Bool) (xs : List X) → Rises lt xs → Rises lt (filter p xs)
rises_filter lt p [] u = tt
rises_filter lt p (x ∷ xs) u = go (p x) (rises_filter lt p xs u.1) where
  go : (b : Bool) → Rises lt (filter p xs) → Rises lt (cond b (x ∷ filter p xs) (filter p xs))
  go true rest = (each_filter (λ y. lt x y ≡ true) p xs u.0, rest)
  go false rest = rest

rises_join : {X : Type 0} (lt : X → X → Bool) (xs ys : List X) → Rises lt xs → Rises lt ys → Each (λ x. Each (λ y. lt x y ≡ true) ys) xs → Rises lt (xs ++ ys)
rises_join lt [] ys u v e = v
rises_join lt (x ∷ xs) ys u v e = (each_append (λ y. lt x y ≡ true) xs ys u.0 e.0, rises_join lt xs ys u.1 v e.1)

-- a list in order is what isn't behind an element, and what is
cut : {X : Type 0} (lt : X → X → Bool) → IsStrict lt → (t : X) (xs : List X) → Rises lt xs → filter (λ y. not (lt t y)) xs ++ filter (λ y. lt t y) xs ≡ xs
cut lt s t [] u = refl
cut lt s t (x ∷ xs) u = go (lt t x) refl (cut lt s t xs u.1) where
  go : (b : Bool) → lt t x ≡ b → filter (λ y. not (lt t y)) xs ++ filter (λ y. lt t y) xs ≡ xs → cond (not b) (x ∷ filter (λ y. not (lt t y)) xs) (filter (λ y. not (lt t y)) xs) ++ cond b (x ∷ filter (λ y. lt t y) xs) (filter (λ y. lt t y) xs) ≡ x ∷ xs
  go true h rest =
      let later = each_map (λ y. lt x y ≡ true) (λ y. lt t y ≡ true) (λ y q. trans lt s t x y h q) xs u.0 in
      rw (filter_none (λ y. not (lt t y)) xs (each_map (λ y. lt t y ≡ true) (λ y. not (lt t y) ≡ false) (λ y q. not_from_true _ q) xs later), filter_every (λ y. lt t y) xs later) refl
  go false h rest = ap (λ ys. x ∷ ys) rest

pub rises_put : {X : Type 0} (lt : X → X → Bool) → IsStrict lt → (t : X) (xs : List X) → Rises lt xs → Each (λ y. apart lt t y ≡ true) xs → Rises lt (put lt t xs)
rises_put {X} lt s t xs u a =
    let p : X → Bool = λ y. not (lt t y) in
    let q : X → Bool = λ y. lt t y in
    let behind : Each (λ y. lt t y ≡ true) (filter q xs) = each_passes q xs in
    let front : Each (λ y. lt y t ≡ true) (filter p xs) =
    each_both (λ y. not (lt t y) ≡ true) (λ y. apart lt t y ≡ true) (λ y. lt y t ≡ true)
    (λ y h k. elim (or_cases (lt t y) (lt y t) k) [ inl e ↦ absurd (both_ways _ (not_from_true _ e) h) | inr e ↦ e ])
    (filter p xs) (each_passes p xs) (each_filter (λ y. apart lt t y ≡ true) p xs a) in
    rises_join lt (filter p xs) (t ∷ filter q xs) (rises_filter lt p xs u) (behind, rises_filter lt q xs u)
    (each_map (λ y. lt y t ≡ true) (λ y. Each (λ z. lt y z ≡ true) (t ∷ filter q xs)) (λ y h. (h, each_map (λ z. lt t z ≡ true) (λ z. lt y z ≡ true) (λ z k. trans lt s y t z h k) (filter q xs) behind)) (filter p xs) front)

pub irreflexive : {X : Type 0} (lt : X → X → Bool) → IsStrict lt → (a : X) → lt a a ≡ false
irreflexive lt s a = false_from_ne_true _ (λ e. both_ways _ (s.asym a a e) e)

pub or_no : (a : Bool) → (a || false) ≡ a
or_no true = refl
or_no false = refl

-- on one machine both orders are that of the keys
pub same_machine : (machine : ℕ) (a b : Task) → is_on machine a ≡ true → is_on machine b ≡ true → precedes ByMachine a b ≡ precedes ByKey a b
same_machine machine a b p q = lex_same a.machine b.machine (key_lt a.key b.key) (eqb-true _ _ p ∙ sym (eqb-true _ _ q))

-- putting a task in whose key is absent
pub apart_absent : (t : Task) (tasks : List Task) → task_at tasks t.key ≡ None → Each (λ y. is_apart ByKey t y ≡ true) tasks
apart_absent t tasks e =
    each_map (λ y. same_key y.key t.key ≡ false) (λ y. is_apart ByKey t y ≡ true)
    (λ y h. apart-sym ByKey t y ∙ key_apart y.key t.key ∙ not_from_false _ h) tasks (each_absent (λ y. same_key y.key t.key) tasks e)

key_flip : (t y : Task) → is_apart ByKey t y ≡ true → not (precedes ByKey t y) ≡ precedes ByKey y t
key_flip t y h =
    elim (or_cases (precedes ByKey t y) (precedes ByKey y t) h) [
      | inl e ↦ not_from_true _ e ∙ sym (key_asym t.key y.key e)
      | inr e ↦ not_from_false _ (key_asym y.key t.key e) ∙ sym e
    ]

pub put_is : (t : Task) (tasks : List Task) → task_at tasks t.key ≡ None → put_in ByKey t tasks ≡ with_task t tasks
put_is t tasks e =
    ap (λ ys. ys ++ t ∷ filter (λ y. precedes ByKey t y) tasks)
    (filter_where (λ y. not (precedes ByKey t y)) (λ y. precedes ByKey y t) tasks (each_map (λ y. is_apart ByKey t y ≡ true) (λ y. not (precedes ByKey t y) ≡ precedes ByKey y t) (key_flip t) tasks (apart_absent t tasks e)))

pub put_rises : (t : Task) (tasks : List Task) → task_at tasks t.key ≡ None → IsInOrder ByKey tasks → IsInOrder ByKey (put_in ByKey t tasks)
put_rises t tasks e u = rises_put (precedes ByKey) (strict ByKey) t tasks u (apart_absent t tasks e)

-- two places on two machines
apart_machines : (a b : Task) → (a.machine ≡ b.machine → is_apart ByMachine a b ≡ true) → is_apart ByMachine a b ≡ true
apart_machines a b f = go (is_apart ByMachine a b) refl where
  go : (x : Bool) → is_apart ByMachine a b ≡ x → is_apart ByMachine a b ≡ true
  go true h = h
  go false h = f (eqb-true _ _ (and_parts _ _ (not-false _ (sym (apart_by_machine a b) ∙ h))).0)

-- a task whose key is absent stands at a place of its own, also by machine
pub apart_by_machines : (t : Task) (by_key by_machine : List Task) → task_at by_key t.key ≡ None → filter (is_on t.machine) by_machine ≡ filter (is_on t.machine) by_key → Each (λ y. is_apart ByMachine t y ≡ true) by_machine
apart_by_machines t by_key by_machine e same =
    let on : Each (λ y. is_apart ByKey t y ≡ true) (filter (is_on t.machine) by_machine) = rw same (each_filter (λ y. is_apart ByKey t y ≡ true) (is_on t.machine) by_key (apart_absent t by_key e)) in
    each_map (λ y. is_on t.machine y ≡ true → is_apart ByKey t y ≡ true) (λ y. is_apart ByMachine t y ≡ true)
    (λ y f. apart_machines t y (λ m. let o : is_on t.machine y ≡ true = eq-eqb _ _ (sym m) in rw (same_machine t.machine t y (eq-eqb _ _ refl) o, same_machine t.machine y t o (eq-eqb _ _ refl)) (f o)))
    by_machine (each_where (λ y. is_apart ByKey t y ≡ true) (is_on t.machine) by_machine on)

pub put_rises_too : (t : Task) (by_key by_machine : List Task) → task_at by_key t.key ≡ None → filter (is_on t.machine) by_machine ≡ filter (is_on t.machine) by_key → IsInOrder ByMachine by_machine → IsInOrder ByMachine (put_in ByMachine t by_machine)
put_rises_too t by_key by_machine e same u =
    rises_put (precedes ByMachine) (strict ByMachine) t by_machine u (apart_by_machines t by_key by_machine e same)

-- a filter that leaves t out of a list that t was put in
pub skip_put : (lt : Task → Task → Bool) → IsStrict lt → (s : Task → Bool) (t : Task) (xs : List Task) → Rises lt xs → s t ≡ false → filter s (put lt t xs) ≡ filter s xs
skip_put lt o s t xs u h =
    filter-append s (filter (λ y. not (lt t y)) xs) (t ∷ filter (λ y. lt t y) xs)
    ∙ rw h (sym (filter-append s (filter (λ y. not (lt t y)) xs) (filter (λ y. lt t y) xs)))
    ∙ ap (filter s) (cut lt o t xs u)

pub put_same : (t : Task) (by_key by_machine : List Task) → IsInOrder ByKey by_key → IsInOrder ByMachine by_machine → ((machine : ℕ) → filter (is_on machine) by_machine ≡ filter (is_on machine) by_key) → (machine : ℕ) → filter (is_on machine) (put_in ByMachine t by_machine) ≡ filter (is_on machine) (put_in ByKey t by_key)
put_same t by_key by_machine u v same machine = go (is_on machine t) refl where
  go : (b : Bool) → is_on machine t ≡ b → filter (is_on machine) (put_in ByMachine t by_machine) ≡ filter (is_on machine) (put_in ByKey t by_key)
  go true h =
      let front = filter_same (is_on machine) (λ y. not (precedes ByMachine t y)) (λ y. not (precedes ByKey t y)) by_machine by_key (λ y o. ap not (same_machine machine t y h o)) (same machine) in
      let back = filter_same (is_on machine) (λ y. precedes ByMachine t y) (λ y. precedes ByKey t y) by_machine by_key (λ y o. same_machine machine t y h o) (same machine) in
      rw (filter-append (is_on machine) (filter (λ y. not (precedes ByMachine t y)) by_machine) (t ∷ filter (λ y. precedes ByMachine t y) by_machine), filter-append (is_on machine) (filter (λ y. not (precedes ByKey t y)) by_key) (t ∷ filter (λ y. precedes ByKey t y) by_key), h, front, back) refl
  go false h =
      skip_put (precedes ByMachine) (strict ByMachine) (is_on machine) t by_machine v h
      ∙ same machine
      ∙ sym (skip_put (precedes ByKey) (strict ByKey) (is_on machine) t by_key u h)

-- taking a task out that is there
pub taken_is : (t : Task) (tasks : List Task) → taken_out ByKey t tasks ≡ without (t.key ∷ []) tasks
taken_is t tasks =
    filter_agree (λ y. is_apart ByKey t y) (λ y. not (is_among y.key (t.key ∷ [])))
    (λ y. apart-sym ByKey t y ∙ key_apart y.key t.key ∙ ap not (sym (or_no (same_key y.key t.key)))) tasks

pub taken_rises : (order : Order) (t : Task) (tasks : List Task) → IsInOrder order tasks → IsInOrder order (taken_out order t tasks)
taken_rises order t tasks u = rises_filter (precedes order) (is_apart order t) tasks u

-- what stands by machine at the place of a task has its machine and its key
place_parts : (t y : Task) → not (is_apart ByMachine t y) ≡ true → (is_on t.machine y ≡ true) × (same_key y.key t.key ≡ true)
place_parts t y q = and_parts (is_on t.machine y) (same_key y.key t.key) (not-false _ (sym (apart_by_machine y t) ∙ apart-sym ByMachine y t ∙ not-true _ q))

-- a task that stands in one list by its key stands by its machine in the other
pub there_too : (t : Task) (by_key by_machine : List Task) → task_at by_key t.key ≡ Some t → filter (is_on t.machine) by_machine ≡ filter (is_on t.machine) by_key → at_place ByMachine t by_machine ≡ Some t
there_too t by_key by_machine e same =
    let here : Task → Bool = λ y. not (is_apart ByMachine t y) in
    let on : (y : Task) → here y ≡ true → is_on t.machine y ≡ true = λ y q. (place_parts t y q).0 in
    let own = irreflexive (precedes ByMachine) (strict ByMachine) t in
    sym (find_filtered here (is_on t.machine) on by_machine)
    ∙ ap (find here) same
    ∙ find_filtered here (is_on t.machine) on by_key
    ∙ find_narrow (λ y. same_key y.key t.key) here by_key t e (λ y q. (place_parts t y q).1) (not_from_false _ (or_from _ _ own own))

-- a key that is there
pub found_key : (key : TaskKey) (tasks : List Task) (task : Task) → task_at tasks key ≡ Some task → task.key ≡ key
found_key key tasks task e =
    let same = (each_found (λ y. Unit {0}) (λ y. same_key y.key key) tasks task (each_of (λ y. Unit {0}) (λ y. tt) tasks) e).1 in
    let parts = and_parts (eqb task.key.job key.job) (eqb task.key.index key.index) same in
    let job : task.key.job ≡ key.job = eqb-true _ _ parts.0 in
    let index : task.key.index ≡ key.index = eqb-true _ _ parts.1 in
    ap₂ (λ (j i : ℕ). record { job = j; index = i }) job index

-- a task that stands at the place of another by key, and in the other list by machine
pub record StandsAt (other t : Task) (by_key by_machine : List Task) : Type 0 where
  pub runs : task_at by_key t.key ≡ Some t
  pub taken : taken_out ByKey other by_key ≡ taken_out ByKey t by_key
  pub too : at_place ByMachine t by_machine ≡ Some t

pub stands : (other t : Task) (by_key by_machine : List Task) → Some t ≡ at_place ByKey other by_key → ((machine : ℕ) → filter (is_on machine) by_machine ≡ filter (is_on machine) by_key) → StandsAt other t by_key by_machine
stands other t by_key by_machine e same =
    let at : task_at by_key other.key ≡ Some t = sym (place_of_key other by_key) ∙ sym e in
    let keyed : t.key ≡ other.key = found_key other.key by_key t at in
    let runs : task_at by_key t.key ≡ Some t = ap (task_at by_key) keyed ∙ at in
    record {
      runs = runs;
      taken = ap (λ (key : TaskKey). filter (λ y. key_lt key y.key || key_lt y.key key) by_key) (sym keyed);
      too = there_too t by_key by_machine runs (same t.machine);
    }

-- each task of a list in order is t or stands elsewhere
elsewhere : (t : Task) (tasks : List Task) → IsInOrder ByKey tasks → task_at tasks t.key ≡ Some t → Each (λ y. (is_apart ByKey t y ≡ true) ⊎ (y ≡ t)) tasks
elsewhere t [] u e = tt
elsewhere t (x ∷ xs) u e = go (same_key x.key t.key) refl (elsewhere t xs u.1) e where
  go : (b : Bool) → same_key x.key t.key ≡ b → (task_at xs t.key ≡ Some t → Each (λ y. (is_apart ByKey t y ≡ true) ⊎ (y ≡ t)) xs) → cond b (Some x) (task_at xs t.key) ≡ Some t → Each (λ y. (is_apart ByKey t y ≡ true) ⊎ (y ≡ t)) (x ∷ xs)
  go true h rest e =
      let same : x ≡ t = cc in
      (inr same, each_map (λ y. precedes ByKey x y ≡ true) (λ y. (is_apart ByKey t y ≡ true) ⊎ (y ≡ t)) (λ y q. inl (or_left _ _ (rw same at q))) xs u.0)
  go false h rest e =
      let before = (each_found (λ y. precedes ByKey x y ≡ true) (λ y. same_key y.key t.key) xs t u.0 e).0 in
      (inl (or_right _ _ before), rest e)

-- a filter that passes none of what is taken out
skip_taken : (order : Order) (s : Task → Bool) (t : Task) (xs : List Task) → Each (λ y. s y ≡ true → is_apart order t y ≡ true) xs → filter s (taken_out order t xs) ≡ filter s xs
skip_taken order s t xs a =
    filter_turned s (is_apart order t) xs
    ∙ filter_every (is_apart order t) (filter s xs) (each_both (λ y. s y ≡ true) (λ y. s y ≡ true → is_apart order t y ≡ true) (λ y. is_apart order t y ≡ true) (λ y h f. f h) (filter s xs) (each_passes s xs) (each_filter (λ y. s y ≡ true → is_apart order t y ≡ true) s xs a))

pub taken_same : (t : Task) (by_key by_machine : List Task) → IsInOrder ByKey by_key → task_at by_key t.key ≡ Some t → ((machine : ℕ) → filter (is_on machine) by_machine ≡ filter (is_on machine) by_key) → (machine : ℕ) → filter (is_on machine) (taken_out ByMachine t by_machine) ≡ filter (is_on machine) (taken_out ByKey t by_key)
taken_same t by_key by_machine u e same machine = go (is_on machine t) refl where
  go : (b : Bool) → is_on machine t ≡ b → filter (is_on machine) (taken_out ByMachine t by_machine) ≡ filter (is_on machine) (taken_out ByKey t by_key)
  go true h =
      filter_same (is_on machine) (is_apart ByMachine t) (is_apart ByKey t) by_machine by_key
      (λ y o. rw (same_machine machine t y h o, same_machine machine y t o h) refl) (same machine)
  go false h =
      skip_taken ByMachine (is_on machine) t by_machine (each_of (λ y. is_on machine y ≡ true → is_apart ByMachine t y ≡ true) (λ y o. apart_machines t y (λ m. absurd (both_ways _ h (rw m o)))) by_machine)
      ∙ same machine
      ∙ sym (skip_taken ByKey (is_on machine) t by_key (each_map (λ y. (is_apart ByKey t y ≡ true) ⊎ (y ≡ t)) (λ y. is_on machine y ≡ true → is_apart ByKey t y ≡ true) (λ y a o. elim a [ inl p ↦ p | inr p ↦ absurd (both_ways _ h (rw p at o)) ]) by_key (elsewhere t by_key u e)))

pub other_same : (by_key by_machine : List Task) → ((machine : ℕ) → filter (is_on machine) by_machine ≡ filter (is_on machine) by_key) → (job machine : ℕ) (gone : List TaskKey) → other_of_job by_machine job machine gone ≡ other_of_job by_key job machine gone
other_same by_key by_machine same job machine gone =
    let test = stays_of_job job machine gone in
    let on : (task : Task) → test task ≡ true → is_on machine task ≡ true = λ task h. (and_parts _ _ (and_parts _ _ h).1).0 in
    ap (option_map (λ (task : Task). task.key)) (sym (find_filtered test (is_on machine) on by_machine) ∙ ap (find test) (same machine) ∙ find_filtered test (is_on machine) on by_key)

-- a key that is absent
pub without_absent : (key : TaskKey) (tasks : List Task) → task_at tasks key ≡ None → without (key ∷ []) tasks ≡ tasks
without_absent key tasks e =
    filter_every (λ y. not (is_among y.key (key ∷ []))) tasks
    (each_map (λ y. same_key y.key key ≡ false) (λ y. not (is_among y.key (key ∷ [])) ≡ true) (λ y h. not_from_false _ (or_from _ _ h refl)) tasks (each_absent (λ y. same_key y.key key) tasks e))
