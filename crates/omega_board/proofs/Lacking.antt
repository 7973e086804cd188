-- Running tasks that others lack.
use Rattle.std.proofs.Common.{◌≡◌, ℕ, Bool, true, false, not, ◌&&◌, ◌||◌, List, [], ◌∷◌, ◌++◌, Option, Some, None, refl, sym, ap, ap₂, ◌∙◌, subst, ◌==◌, if◌then◌else◌}
use Rattle.std.specs.List.{filter, flat_map, list_any, AllByRecursion as Each}
use Rattle.std.specs.Option.{option_and_then, option_map_or}
use Rattle.std.proofs.lemmas.Bool.{both_ways, eqb-true, eq-eqb, and_parts, and_from, false_from_ne_true}
use Rattle.std.proofs.lemmas.List.{map-append}
use Rattle.std.proofs.lemmas.List.Folds.{list_any-append}
use Rattle.std.proofs.lemmas.Option.{none-some, same_Some}
use Rattle.omega_model.specs.Cell.{task_at, without, is_on, keys_of}
use Rattle.omega_model.specs.Keys.{same_key, key_lt, is_among}
use Rattle.omega_model.specs.Machines.{is_listed}
use Rattle.omega_model.specs.declared.cells.Machine.{Machine}
use Rattle.omega_model.specs.declared.cells.Need.{Need}
use Rattle.omega_model.specs.declared.cells.Spec.{Spec}
use Rattle.omega_model.specs.declared.cells.Task.{Task}
use Rattle.omega_model.specs.declared.cells.TaskKey.{TaskKey}
use Rattle.omega_running.specs.declared.orders.Order.TheVariants.{ByKey}
use Rattle.omega_running.specs.Order.{IsInOrder, precedes}
use Rattle.omega_running.specs.Standing.{same_need, same_spec, same_task, stands_in}
use Rattle.omega_running.proofs.Kept.{rises_filter, found_key}
use Rattle.omega_board.proofs.Tasks.{any_at, key_differs_back}
use Rattle.omega_board.proofs.Ranks.{each_here}
use Rattle.omega_model.proofs.InOrder.{key_asym, key_itself, key_same, same_key-sym}
use Rattle.omega_model.proofs.Lists.{by_answer, each_map, filter_where, find_none, each_filter, each_found, filter_and}

-- tasks that are the same in all are one
same_need-is : (a b : Need) → same_need a b ≡ true → a ≡ b
same_need-is a b same =
    let parts = and_parts (a.cpu == b.cpu && a.mem == b.mem) (a.disk == b.disk) same in
    let first = and_parts (a.cpu == b.cpu) (a.mem == b.mem) parts.0 in
    let cpu : a.cpu ≡ b.cpu = eqb-true _ _ first.0 in
    let mem : a.mem ≡ b.mem = eqb-true _ _ first.1 in
    let disk : a.disk ≡ b.disk = eqb-true _ _ parts.1 in
    λ i. record { cpu = cpu i; mem = mem i; disk = disk i }

flag_is : (a b : Bool) → (if a then b else not b) ≡ true → a ≡ b
flag_is true true e = refl
flag_is true false e = sym e
flag_is false true e = e
flag_is false false e = refl

flag_itself : (a : Bool) → (if a then a else not a) ≡ true
flag_itself true = refl
flag_itself false = refl

pub same_task-is : (a b : Task) → same_task a b ≡ true → a ≡ b
same_task-is a b same =
    let alike : Bool = if a.spec.differ then b.spec.differ else not b.spec.differ in
    let parts = and_parts (same_key a.key b.key && a.machine == b.machine) (same_spec a.spec b.spec) same in
    let first = and_parts (same_key a.key b.key) (a.machine == b.machine) parts.0 in
    let spec = and_parts (same_need a.spec.need b.spec.need && a.spec.prec == b.spec.prec) alike parts.1 in
    let needs = and_parts (same_need a.spec.need b.spec.need) (a.spec.prec == b.spec.prec) spec.0 in
    let key : a.key ≡ b.key = key_same a.key b.key first.0 in
    let machine : a.machine ≡ b.machine = eqb-true _ _ first.1 in
    let need : a.spec.need ≡ b.spec.need = same_need-is a.spec.need b.spec.need needs.0 in
    let prec : a.spec.prec ≡ b.spec.prec = eqb-true _ _ needs.1 in
    let differ : a.spec.differ ≡ b.spec.differ = flag_is a.spec.differ b.spec.differ spec.1 in
    λ i. record { key = key i; machine = machine i; spec = record { need = need i; prec = prec i; differ = differ i } }

same_need-itself : (a : Need) → same_need a a ≡ true
same_need-itself a =
    and_from (a.cpu == a.cpu && a.mem == a.mem) (a.disk == a.disk)
    (and_from (a.cpu == a.cpu) (a.mem == a.mem) (eq-eqb a.cpu a.cpu refl) (eq-eqb a.mem a.mem refl)) (eq-eqb a.disk a.disk refl)

same_spec-itself : (a : Spec) → same_spec a a ≡ true
same_spec-itself a =
    and_from (same_need a.need a.need && a.prec == a.prec) (if a.differ then a.differ else not a.differ)
    (and_from (same_need a.need a.need) (a.prec == a.prec) (same_need-itself a.need) (eq-eqb a.prec a.prec refl)) (flag_itself a.differ)

pub same_task-itself : (a : Task) → same_task a a ≡ true
same_task-itself a =
    and_from (same_key a.key a.key && a.machine == a.machine) (same_spec a.spec a.spec)
    (and_from (same_key a.key a.key) (a.machine == a.machine) (key_itself a.key) (eq-eqb a.machine a.machine refl)) (same_spec-itself a.spec)

-- tasks in order that find the same are the same
found_own : (x : Task) (xs : List Task) → task_at (x ∷ xs) x.key ≡ Some x
found_own x xs = rw (key_itself x.key) refl

behind_absent : (x : Task) (xs : List Task) (key : TaskKey) → Each (λ y. key_lt x.key y.key ≡ true) xs → x.key ≡ key → task_at xs key ≡ None
behind_absent x xs key behind is =
    find_none (λ y. same_key y.key key) xs
    (each_map (λ y. key_lt x.key y.key ≡ true) (λ y. same_key y.key key ≡ false)
    (λ y less. subst (λ k. same_key y.key k ≡ false) is (key_differs_back x.key y.key less)) xs behind)

pub same_found : (xs ys : List Task) → IsInOrder ByKey xs → IsInOrder ByKey ys → ((key : TaskKey) → task_at xs key ≡ task_at ys key) → xs ≡ ys
same_found [] [] u v same = refl
same_found [] (y ∷ ys) u v same = absurd (none-some y (same y.key ∙ found_own y ys))
same_found (x ∷ xs) [] u v same = absurd (none-some x (sym (same x.key) ∙ found_own x xs))
same_found (x ∷ xs) (y ∷ ys) u v same = ap₂ (λ (a : Task) others. a ∷ others) heads (same_found xs ys u.1 v.1 tails)
  where
    heads : x ≡ y
    heads =
        by_answer (same_key y.key x.key)
        (λ t. let found : task_at (y ∷ ys) x.key ≡ Some x = sym (same x.key) ∙ found_own x xs in sym (same_Some y x (rw t at found)))
        (λ f.
        let found : task_at (y ∷ ys) x.key ≡ Some x = sym (same x.key) ∙ found_own x xs in
        let less : key_lt y.key x.key ≡ true = (each_found (λ z. key_lt y.key z.key ≡ true) (λ z. same_key z.key x.key) ys x v.0 (rw f at found)).0 in
        let other : same_key x.key y.key ≡ false = key_differs_back y.key x.key less in
        let back : task_at (x ∷ xs) y.key ≡ Some y = same y.key ∙ found_own y ys in
        let more : key_lt x.key y.key ≡ true = (each_found (λ z. key_lt x.key z.key ≡ true) (λ z. same_key z.key y.key) xs y u.0 (rw other at back)).0 in
        absurd (both_ways _ (key_asym y.key x.key less) more))

    tails : (key : TaskKey) → task_at xs key ≡ task_at ys key
    tails key =
        by_answer (same_key x.key key)
        (λ t.
        let here : x.key ≡ key = key_same x.key key t in
        behind_absent x xs key u.0 here ∙ sym (behind_absent y ys key v.0 (ap (λ (z : Task). z.key) (sym heads) ∙ here)))
        (λ f.
        let other : same_key y.key key ≡ false = ap (λ (z : Task). same_key z.key key) (sym heads) ∙ f in
        let all : task_at (x ∷ xs) key ≡ task_at (y ∷ ys) key = same key in
        rw (f, other) at all)

-- what is found among tasks in order that pass
abbrev passed : (Task → Bool) → Task → Option Task
passed p task = if p task then Some task else None

pub found_passed : (p : Task → Bool) (xs : List Task) (key : TaskKey) → IsInOrder ByKey xs → task_at (filter p xs) key ≡ option_and_then (passed p) (task_at xs key)
found_passed p [] key u = refl
found_passed p (x ∷ xs) key u =
    let rest = found_passed p xs key u.1 in
    by_answer (same_key x.key key)
    (λ t. by_answer (p x)
    (λ h. rw (h, t, h) refl)
    (λ h.
    let none : task_at (filter p xs) key ≡ None =
    behind_absent x (filter p xs) key (each_filter (λ y. key_lt x.key y.key ≡ true) p xs u.0) (key_same x.key key t) in
    rw (h, t, h) none))
    (λ f. by_answer (p x) (λ h. rw (h, f) rest) (λ h. rw (h, f) rest))

-- a task that is found stands so
pub stands_found : (xs : List Task) (t : Task) → task_at xs t.key ≡ Some t → stands_in xs t ≡ true
stands_found xs t found = ap (λ o. option_map_or (λ other. same_task other t) o false) found ∙ same_task-itself t

-- and one that stands so is found
pub found_standing : (xs : List Task) (t : Task) → stands_in xs t ≡ true → task_at xs t.key ≡ Some t
found_standing xs t stands = by (task_at xs t.key) stands
  where
    by : (o : Option Task) → option_map_or (λ other. same_task other t) o false ≡ true → o ≡ Some t
    by None e = absurd (both_ways true (sym e) refl)
    by (Some other) e = ap Some (same_task-is other t e)

-- among the tasks of its machine a task stands as among all
pub stands_on : (xs : List Task) (id : ℕ) (t : Task) → IsInOrder ByKey xs → is_on id t ≡ true → stands_in (filter (is_on id) xs) t ≡ stands_in xs t
stands_on xs id t u on = ap (λ o. option_map_or (λ other. same_task other t) o false) (found_passed (is_on id) xs t.key u) ∙ by (task_at xs t.key)
  where
    by : (o : Option Task) → option_map_or (λ other. same_task other t) (option_and_then (passed (is_on id)) o) false ≡ option_map_or (λ other. same_task other t) o false
    by None = refl
    by (Some other) =
        by_answer (is_on id other)
        (λ h. rw h refl)
        (λ h. rw h (sym (false_from_ne_true _ (λ same. both_ways _ h (ap (is_on id) (same_task-is other t same) ∙ on)))))

-- of two lists of tasks in order, those that stand so in the other are the same
pub common : (xs ys : List Task) → IsInOrder ByKey xs → IsInOrder ByKey ys → filter (stands_in ys) xs ≡ filter (stands_in xs) ys
common xs ys u v =
    same_found (filter (stands_in ys) xs) (filter (stands_in xs) ys) (rises_filter (precedes ByKey) (stands_in ys) xs u) (rises_filter (precedes ByKey) (stands_in xs) ys v)
    (λ key. found_passed (stands_in ys) xs key u ∙ both key (task_at xs key) (task_at ys key) refl refl ∙ sym (found_passed (stands_in xs) ys key v))
  where
    tested : (key : TaskKey) (zs : List Task) (t : Task) (o : Option Task) → t.key ≡ key → task_at zs key ≡ o → stands_in zs t ≡ option_map_or (λ other. same_task other t) o false
    tested key zs t o name is = ap (λ o. option_map_or (λ other. same_task other t) o false) (ap (task_at zs) name ∙ is)

    both : (key : TaskKey) (o q : Option Task) → task_at xs key ≡ o → task_at ys key ≡ q → option_and_then (passed (stands_in ys)) o ≡ option_and_then (passed (stands_in xs)) q
    both key None None p q = refl
    both key None (Some y) p q = let no = tested key xs y None (found_key key ys y q) p in rw no refl
    both key (Some x) None p q = let no = tested key ys x None (found_key key xs x p) q in rw no refl
    both key (Some x) (Some y) p q =
        let first : stands_in ys x ≡ same_task y x = tested key ys x (Some y) (found_key key xs x p) q in
        let second : stands_in xs y ≡ same_task x y = tested key xs y (Some x) (found_key key ys y q) p in
        by_answer (same_task y x)
        (λ t.
        let same : y ≡ x = same_task-is y x t in
        let back : same_task x y ≡ true = ap (same_task x) same ∙ same_task-itself x in
        rw (first, t, second, back) (ap Some (sym same)))
        (λ f.
        let back : same_task x y ≡ false = false_from_ne_true _ (λ t. both_ways _ f (ap (λ (z : Task). same_task z x) (sym (same_task-is x y t)) ∙ same_task-itself x)) in
        rw (first, f, second, back) refl)

-- whether a name is among those of tasks in order that pass
pub among_passed : (p : Task → Bool) (xs : List Task) (key : TaskKey) → IsInOrder ByKey xs → is_among key (keys_of (filter p xs)) ≡ option_map_or p (task_at xs key) false
among_passed p xs key u = named xs ∙ any_at (λ t. same_key t.key key && p t) p key (λ t. refl) xs u
  where
    flip : (a b : TaskKey) → same_key a b ≡ same_key b a
    flip a b = by_answer (same_key b a) (λ t. ap (λ k. same_key a k) (key_same b a t) ∙ key_itself a ∙ sym t) (λ f. same_key-sym b a f ∙ sym f)

    named : (ts : List Task) → is_among key (keys_of (filter p ts)) ≡ list_any (λ t. same_key t.key key && p t) ts
    named [] = refl
    named (t ∷ ts) =
        by_answer (p t)
        (λ h. rw h (ap₂ (λ a b. a || b) (flip key t.key ∙ and_true (same_key t.key key)) (named ts)))
        (λ h. rw h (named ts ∙ ap (λ b. b || list_any (λ t. same_key t.key key && p t) ts) (and_false (same_key t.key key))))
      where
        and_true : (b : Bool) → b ≡ (b && true)
        and_true true = refl
        and_true false = refl

        and_false : (b : Bool) → false ≡ (b && false)
        and_false true = refl
        and_false false = refl

-- a task that no list of parts names stays, or else it is lacking
module _ (stands : Task → Bool) (xs : List Task) where
  -- of some tasks those on the machines of a list that don't stand
  abbrev pub moved : List Machine → List Task
  moved rows = flat_map (λ row. filter (λ t. not (stands t)) (filter (is_on row.id) xs)) rows

  keys-append : (as' bs : List Task) → keys_of (as' ++ bs) ≡ keys_of as' ++ keys_of bs
  keys-append as' bs = map-append (λ (t : Task). t.key) as' bs

  -- one is among them if its machine is in the list and it doesn't stand
  pub among_moved : IsInOrder ByKey xs → (t : Task) → task_at xs t.key ≡ Some t → (rows : List Machine) → is_among t.key (keys_of (moved rows)) ≡ (list_any (λ row. is_on row.id t) rows && not (stands t))
  among_moved u t found [] = refl
  among_moved u t found (row ∷ rows) =
      let here = filter (λ y. not (stands y)) (filter (is_on row.id) xs) in
      let one : is_among t.key (keys_of here) ≡ (not (stands t) && is_on row.id t) =
      ap (λ ys. is_among t.key (keys_of ys)) (filter_and (λ y. not (stands y)) (is_on row.id) xs)
      ∙ among_passed (λ y. not (stands y) && is_on row.id y) xs t.key u
      ∙ ap (λ o. option_map_or (λ y. not (stands y) && is_on row.id y) o false) found in
      ap (is_among t.key) (keys-append here (moved rows))
      ∙ list_any-append (same_key t.key) (keys_of here) (keys_of (moved rows))
      ∙ ap₂ (λ a b. a || b) one (among_moved u t found rows)
      ∙ joined (not (stands t)) (is_on row.id t) (list_any (λ r. is_on r.id t) rows)
    where
      joined : (a b c : Bool) → ((a && b) || (c && a)) ≡ ((b || c) && a)
      joined true true true = refl
      joined true true false = refl
      joined true false true = refl
      joined true false false = refl
      joined false true true = refl
      joined false true false = refl
      joined false false true = refl
      joined false false false = refl

-- a listed machine that passes is among those that pass
pub listed_kept : (changed : ℕ → Bool) (id : ℕ) (t : Task) → is_on id t ≡ true → changed id ≡ true → (rows : List Machine) → is_listed id rows ≡ true
    → list_any (λ row. is_on row.id t) (filter (λ row. changed row.id) rows) ≡ true
listed_kept changed id t on is [] listed = listed
listed_kept changed id t on is (row ∷ rows) listed =
    by_answer (row.id == id)
    (λ h.
    let same : row.id ≡ id = eqb-true _ _ h in
    let kept : changed row.id ≡ true = ap changed same ∙ is in
    let here : is_on row.id t ≡ true = ap (λ n. is_on n t) same ∙ on in
    rw (kept, here) refl)
    (λ h.
    let rest = listed_kept changed id t on is rows (rw h at listed) in
    by_answer (changed row.id)
    (λ k. rw k (or_later (is_on row.id t) _ rest))
    (λ k. rw k rest))
  where
    or_later : (a b : Bool) → b ≡ true → (a || b) ≡ true
    or_later true b e = refl
    or_later false b e = e

-- where tasks that don't stand are on machines of the list, those that aren't named as moved stand
pub moved_left : (stands : Task → Bool) (xs : List Task) → IsInOrder ByKey xs → (changed : ℕ → Bool) (rows : List Machine)
    → ((id : ℕ) → changed id ≡ true → is_listed id rows ≡ true) → ((t : Task) → task_at xs t.key ≡ Some t → changed t.machine ≡ false → stands t ≡ true)
    → without (keys_of (moved stands xs (filter (λ row. changed row.id) rows))) xs ≡ filter stands xs
moved_left stands xs u changed rows listed still =
    filter_where (λ t. not (is_among t.key (keys_of (moved stands xs kept)))) stands xs
    (each_map (λ t. task_at xs t.key ≡ Some t) (λ t. not (is_among t.key (keys_of (moved stands xs kept))) ≡ stands t) one xs (each_here xs u))
  where
    kept : List Machine
    kept = filter (λ row. changed row.id) rows

    one : (t : Task) → task_at xs t.key ≡ Some t → not (is_among t.key (keys_of (moved stands xs kept))) ≡ stands t
    one t found =
        ap not (among_moved stands xs u t found kept)
        ∙ by_answer (stands t)
        (λ h. rw h (not_both (list_any (λ row. is_on row.id t) kept)))
        (λ h.
        let moves : changed t.machine ≡ true = by_answer (changed t.machine) (λ k. k) (λ k. absurd (both_ways _ h (still t found k))) in
        let there : list_any (λ row. is_on row.id t) kept ≡ true = listed_kept changed t.machine t (eq-eqb _ _ refl) moves rows (listed t.machine moves) in
        rw (h, there) refl)
      where
        not_both : (a : Bool) → not (a && false) ≡ true
        not_both true = refl
        not_both false = refl
