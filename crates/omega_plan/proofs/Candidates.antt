-- The tasks of a machine that may be evicted for a wish.
use Rattle.std.proofs.Common.{nat_lt, ◌≡◌, ℕ, Bool, true, false, not, List, [], ◌∷◌, ◌&&◌, nat_le, ◌<◌, ◌≤◌, Option, Some, None, arith, refl, sym, ap, subst, ◌∙◌, ◌==◌, inl, inr}
use Rattle.std.specs.List.{filter, AllByRecursion as Each}
use Rattle.std.specs.Option.{option_map_or}
use Rattle.std.proofs.lemmas.Bool.{and_parts, both_ways, false_from_ne_true, leb-true, ltb-true, not-true, not_from_false, or_cases}
use Rattle.omega_model.specs.Cell.{Cell, by_rank, goes_before, is_on, keys_of, put_by_rank, task_at}
use Rattle.omega_model.specs.Judge.{runs_on, withstands}
use Rattle.omega_model.specs.Keys.{same_key}
use Rattle.omega_model.specs.Plan.{candidates, gives_way}
use Rattle.omega_model.specs.State.{ranked_on}
use Rattle.omega_model.specs.declared.cells.Task.{Task}
use Rattle.omega_model.specs.declared.cells.TaskKey.{TaskKey}
use Rattle.omega_model.specs.declared.wishes.Wish.{Wish}
use Rattle.omega_model.proofs.InOrder.{same_key-sym}
use Rattle.omega_model.proofs.Lists.{by_answer, filter_and, filter_turned, each_map, each_of, filter_none, each_filter, each_passes}
use Rattle.omega_running.specs.Order.{IsInOrder, Rises}
use Rattle.omega_running.specs.declared.orders.Order.TheVariants.{ByKey}
use Rattle.omega_running.proofs.InOrder.{rank_strict}
use Rattle.omega_running.proofs.Ranked.{each_put}
use Rattle.omega_board.proofs.Parts.{withstands_is}
use Rattle.omega_board.proofs.Ranks.{Apart, ranked_apart, ranked_found}
use Rattle.omega_board.proofs.Standing.{Once, filter_once}
use Rattle.omega_board.proofs.Untouched.{each_keys, ranked_run}

-- whether the running task of this name gives way to a wish
abbrev pub yields : List Task → Wish → TaskKey → Bool
yields tasks wish key = option_map_or (gives_way wish) (task_at tasks key) false

-- whether the second of two tasks doesn't go before the first
abbrev stands_first : Task → Task → Bool
stands_first a b = not (goes_before b a)

-- what doesn't go before a task doesn't go before one that the task doesn't go behind
before_neither : (a b c : Task) → goes_before c a ≡ false → goes_before a b ≡ false → goes_before c b ≡ false
before_neither a b c one other =
    false_from_ne_true _ (λ h. elim (or_cases (goes_before c a) (goes_before a b) (rank_strict.link c b a h)) [ inl e ↦ both_ways _ one e | inr e ↦ both_ways _ other e ])

put_ranked : (t : Task) (tasks : List Task) → Rises stands_first tasks → Rises stands_first (put_by_rank t tasks)
put_ranked t [] ranked = (tt, tt)
put_ranked t (o ∷ tasks) ranked =
    by_answer (goes_before o t)
    (λ h. rw h (each_put (λ y. stands_first o y ≡ true) t tasks (not_from_false _ (rank_strict.asym o t h)) ranked.0, put_ranked t tasks ranked.1))
    (λ h. rw h (
      (
        not_from_false _ h,
        each_map (λ y. stands_first o y ≡ true) (λ y. stands_first t y ≡ true)
            (λ y first. not_from_false _ (before_neither o t y (not-true _ first) h)) tasks ranked.0,
      ),
      ranked,
    ))

-- tasks in order of eviction
rank_ranked : (tasks : List Task) → Rises stands_first (by_rank tasks)
rank_ranked [] = tt
rank_ranked (t ∷ tasks) = put_ranked t (by_rank tasks) (rank_ranked tasks)

-- a task goes to the front of those that don't go before it
put_front : (t : Task) (tasks : List Task) → Each (λ y. goes_before y t ≡ false) tasks → put_by_rank t tasks ≡ t ∷ tasks
put_front t [] each = refl
put_front t (o ∷ tasks) each = rw each.0 refl

-- what is kept of tasks with one more in order of eviction
put_kept : (p : Task → Bool) (t : Task) (tasks : List Task) → p t ≡ true → Rises stands_first tasks → filter p (put_by_rank t tasks) ≡ put_by_rank t (filter p tasks)
put_kept p t [] own ranked = rw own refl
put_kept p t (o ∷ tasks) own ranked =
    by_answer (goes_before o t)
    (λ h. by_answer (p o)
    (λ k. rw (h, k) (rw h (ap (λ ts. o ∷ ts) (put_kept p t tasks own ranked.1))))
    (λ k. rw (h, k) (put_kept p t tasks own ranked.1)))
    (λ h.
    let none : Each (λ y. goes_before y t ≡ false) (o ∷ tasks) =
    (h, each_map (λ y. stands_first o y ≡ true) (λ y. goes_before y t ≡ false) (λ y first. before_neither o t y (not-true _ first) h) tasks ranked.0) in
    let behind : put_by_rank t (filter p (o ∷ tasks)) ≡ t ∷ filter p (o ∷ tasks) =
    put_front t (filter p (o ∷ tasks)) (each_filter (λ y. goes_before y t ≡ false) p (o ∷ tasks) none) in
    let front : put_by_rank t (o ∷ tasks) ≡ t ∷ o ∷ tasks = put_front t (o ∷ tasks) none in
    ap (filter p) front ∙ rw own refl ∙ sym behind)

put_dropped : (p : Task → Bool) (t : Task) (tasks : List Task) → p t ≡ false → filter p (put_by_rank t tasks) ≡ filter p tasks
put_dropped p t [] out = rw out refl
put_dropped p t (o ∷ tasks) out =
    by_answer (goes_before o t)
    (λ h. by_answer (p o)
    (λ k. rw (h, k) (ap (λ ts. o ∷ ts) (put_dropped p t tasks out)))
    (λ k. rw (h, k) (put_dropped p t tasks out)))
    (λ h. rw (h, out) refl)

-- what is kept of tasks in order of eviction is in order of eviction
rank_kept : (p : Task → Bool) (tasks : List Task) → filter p (by_rank tasks) ≡ by_rank (filter p tasks)
rank_kept p [] = refl
rank_kept p (t ∷ tasks) =
    by_answer (p t)
    (λ h. put_kept p t (by_rank tasks) h (rank_ranked tasks) ∙ ap (put_by_rank t) (rank_kept p tasks) ∙ rw h refl)
    (λ h. put_dropped p t (by_rank tasks) h ∙ rank_kept p tasks ∙ rw h refl)

-- names that yield are those of the tasks that give way
names_kept : (tasks : List Task) (wish : Wish) (some : List Task) → Each (λ t. task_at tasks t.key ≡ Some t) some
    → filter (yields tasks wish) (keys_of some) ≡ keys_of (filter (gives_way wish) some)
names_kept tasks wish [] found = refl
names_kept tasks wish (t ∷ some) found =
    let here : yields tasks wish t.key ≡ gives_way wish t = ap (λ o. option_map_or (gives_way wish) o false) found.0 in
    by_answer (gives_way wish t)
    (λ h. let own = here ∙ h in rw (h, own) (ap (λ ks. t.key ∷ ks) (names_kept tasks wish some found.1)))
    (λ h. let own = here ∙ h in rw (h, own) (names_kept tasks wish some found.1))

-- of the tasks on a machine in order of eviction, those that yield are the candidates
candidates_are : (cell : Cell) (id : ℕ) (wish : Wish) → IsInOrder ByKey cell.tasks
    → filter (yields cell.tasks wish) (keys_of (ranked_on id cell.tasks)) ≡ candidates cell id wish
candidates_are cell id wish order =
    names_kept cell.tasks wish (ranked_on id cell.tasks) (ranked_found cell.tasks id order)
    ∙ ap keys_of
    (rank_kept (gives_way wish) (filter (is_on id) cell.tasks)
    ∙ ap by_rank (filter_turned (gives_way wish) (is_on id) cell.tasks ∙ filter_and (is_on id) (gives_way wish) cell.tasks))

-- for a wish of the least precedence there is none
pub candidates_least : (cell : Cell) (id : ℕ) (wish : Wish) → wish.spec.prec ≡ 0 → candidates cell id wish ≡ []
candidates_least cell id wish least =
    ap (λ ts. keys_of (by_rank ts))
    (filter_none (λ task. is_on id task && gives_way wish task) cell.tasks (each_of (λ task. (is_on id task && gives_way wish task) ≡ false) none cell.tasks))
  where
    none : (t : Task) → (is_on id t && gives_way wish t) ≡ false
    none t =
        false_from_ne_true _ (λ h.
        let way = and_parts _ _ (and_parts _ _ h).1 in
        let less : t.spec.prec < wish.spec.prec = ltb-true t.spec.prec wish.spec.prec way.1 in
        absurd (omega (arith, less, least)))

-- each of the candidates yields
pub candidates_yield : (cell : Cell) (id : ℕ) (wish : Wish) → IsInOrder ByKey cell.tasks → Each (λ key. yields cell.tasks wish key ≡ true) (candidates cell id wish)
candidates_yield cell id wish order =
    subst (Each (λ key. yields cell.tasks wish key ≡ true)) (candidates_are cell id wish order) (each_passes (yields cell.tasks wish) (keys_of (ranked_on id cell.tasks)))

-- what is known of candidates: they run on the machine, their precedence is lower, and none is named twice
pub record AreCandidates (cell : Cell) (id : ℕ) (wish : Wish) (keys : List TaskKey) : Type 0 where
  pub runs : Each (λ key. runs_on cell.tasks id key ≡ true) keys
  pub lower : Each (λ key. withstands cell.tasks wish.spec.prec key ≡ false) keys
  pub once : Once keys

once_names : (tasks : List Task) → Apart tasks → Once (keys_of tasks)
once_names [] apart = tt
once_names (t ∷ tasks) apart = (
  each_keys (λ key. same_key key t.key ≡ false) tasks
      (each_map (λ y. same_key t.key y.key ≡ false) (λ y. same_key y.key t.key ≡ false) (λ y differ. same_key-sym t.key y.key differ) tasks apart.0),
  once_names tasks apart.1,
)

-- a task that yields doesn't withstand
yields_lower : (tasks : List Task) (wish : Wish) (key : TaskKey) → IsInOrder ByKey tasks → yields tasks wish key ≡ true
    → withstands tasks wish.spec.prec key ≡ false
yields_lower tasks wish key order yielded = withstands_is tasks wish.spec.prec key order ∙ by (task_at tasks key) yielded
  where
    by : (o : Option Task) → option_map_or (gives_way wish) o false ≡ true → option_map_or (λ task. nat_le wish.spec.prec task.spec.prec) o false ≡ false
    by None yielded = refl
    by (Some t) yielded =
        let less : t.spec.prec < wish.spec.prec = ltb-true t.spec.prec wish.spec.prec (and_parts (not (t.key.job == wish.key.job)) (nat_lt t.spec.prec wish.spec.prec) yielded).1 in
        false_from_ne_true _ (λ h. let more : wish.spec.prec ≤ t.spec.prec = leb-true wish.spec.prec t.spec.prec h in absurd (omega (arith, less, more)))

pub are_candidates : (cell : Cell) (id : ℕ) (wish : Wish) → IsInOrder ByKey cell.tasks → AreCandidates cell id wish (candidates cell id wish)
are_candidates cell id wish order =
    let p = yields cell.tasks wish in
    let all = keys_of (ranked_on id cell.tasks) in
    subst (AreCandidates cell id wish) (candidates_are cell id wish order)
    (record {
      runs = each_filter (λ key. runs_on cell.tasks id key ≡ true) p all
          (each_keys (λ key. runs_on cell.tasks id key ≡ true) (ranked_on id cell.tasks) (ranked_run cell.tasks id order));
      lower = each_map (λ key. p key ≡ true) (λ key. withstands cell.tasks wish.spec.prec key ≡ false)
          (λ key yielded. yields_lower cell.tasks wish key order yielded) (filter p all) (each_passes p all);
      once = filter_once p all (once_names (ranked_on id cell.tasks) (ranked_apart cell.tasks id order));
    })
