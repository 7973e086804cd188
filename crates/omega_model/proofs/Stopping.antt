-- The tasks that an entry displaces: what the rest need, and that none is left on a machine that goes.
use Rattle.std.proofs.Common.{◌≡◌, ℕ, Bool, true, false, not, ◌||◌, List, [], ◌∷◌, ◌++◌, refl, sym, ap, subst, ◌∙◌}
use Rattle.std.specs.List.{filter, list_any, AllByRecursion}
use Rattle.std.proofs.lemmas.Bool.{both_ways, not_from_true, or_left, or_right}
use Rattle.std.proofs.lemmas.List.Elements.{filter-append}
use Rattle.omega_model.specs.Cell.{without, total, is_on, use_on, keys_of, by_rank, put_by_rank, goes_before}
use Rattle.omega_model.specs.Keys.{same_key, is_among}
use Rattle.omega_model.specs.Need.{Fits, fits}
use Rattle.omega_model.specs.State.{excess, ranked_on}
use Rattle.omega_model.specs.declared.cells.Need.{Need}
use Rattle.omega_model.specs.declared.cells.Task.{Task}
use Rattle.omega_model.specs.declared.cells.TaskKey.{TaskKey}
use Rattle.omega_model.proofs.Amounts.{fits_nothing, fits_tested, fits_trans, rank_total, total_some}
use Rattle.omega_model.proofs.InOrder.{key_itself}
use Rattle.omega_model.proofs.Lists.{by_answer, each_map, filter_none, filter_turned}

-- the tasks that don't have to stop, behind those that have to, fit
abbrev pub IsCut : Need → List Task → List Task → Type 0
IsCut cap tasks kept = (tasks ≡ excess cap tasks ++ kept) × Fits (total kept) cap

-- of tasks in order of eviction the excess stops, and the rest fit
pub cut : (cap : Need) (tasks : List Task) → (kept : List Task) × IsCut cap tasks kept
cut cap [] = ([], (refl, fits_nothing cap))
cut cap (t ∷ tasks) = by_answer (fits (total (t ∷ tasks)) cap)
    (λ h. (t ∷ tasks, (rw h refl, fits_tested _ _ h)))
    (λ h. let rest = cut cap tasks in (rest.0, (rw h (ap (λ ts. t ∷ ts) rest.1.0), rest.1.1)))

-- each task is among the names of all
pub each_among : (tasks : List Task) → AllByRecursion (λ t. is_among t.key (keys_of tasks) ≡ true) tasks
each_among [] = tt
each_among (t ∷ tasks) = (
  or_left _ _ (key_itself t.key),
  each_map (λ o. is_among o.key (keys_of tasks) ≡ true) (λ o. is_among o.key (t.key ∷ keys_of tasks) ≡ true)
      (λ o among. or_right _ _ among) tasks (each_among tasks),
)

-- without the tasks that stop, those that are left on a machine fit its new capacity
pub rest_fits : (cap : Need) (id : ℕ) (tasks : List Task) → Fits (use_on (without (keys_of (excess cap (ranked_on id tasks))) tasks) id) cap
rest_fits cap id tasks =
    let ranked = ranked_on id tasks in
    let gone = excess cap ranked in
    let stays : Task → Bool = λ t. not (is_among t.key (keys_of gone)) in
    let split = cut cap ranked in
    let kept = split.0 in
    let none : filter stays gone ≡ [] =
    filter_none stays gone (each_map (λ t. is_among t.key (keys_of gone) ≡ true) (λ t. stays t ≡ false) (λ t among. not_from_true _ among) gone (each_among gone)) in
    let sum : use_on (without (keys_of gone) tasks) id ≡ total (filter stays kept) =
    ap total (filter_turned (is_on id) stays tasks)
    ∙ sym (rank_total stays (filter (is_on id) tasks))
    ∙ ap (λ ts. total (filter stays ts)) split.1.0
    ∙ ap total (filter-append stays gone kept ∙ ap (λ ts. ts ++ filter stays kept) none) in
    subst (λ (n : Need). Fits n cap) (sym sum) (fits_trans _ _ _ (total_some stays kept) split.1.1)

-- a search in order of eviction finds what a search in any other does
put_any : (p : Task → Bool) (t : Task) (tasks : List Task) → list_any p (put_by_rank t tasks) ≡ list_any p (t ∷ tasks)
put_any p t [] = refl
put_any p t (o ∷ tasks) = by_answer (goes_before o t)
    (λ before. rw before (ap (λ any. p o || any) (put_any p t tasks) ∙ turned (p o) (p t) (list_any p tasks)))
    (λ behind. rw behind refl)
  where
    turned : (a b c : Bool) → (a || (b || c)) ≡ (b || (a || c))
    turned true true c = refl
    turned true false c = refl
    turned false true c = refl
    turned false false c = refl

pub rank_any : (p : Task → Bool) (tasks : List Task) → list_any p (by_rank tasks) ≡ list_any p tasks
rank_any p [] = refl
rank_any p (t ∷ tasks) = put_any p t (by_rank tasks) ∙ ap (λ any. p t || any) (rank_any p tasks)

names_any : (key : TaskKey) (tasks : List Task) → is_among key (keys_of tasks) ≡ list_any (λ t. same_key key t.key) tasks
names_any key [] = refl
names_any key (t ∷ tasks) = ap (λ any. same_key key t.key || any) (names_any key tasks)

-- each task on a machine is among those on it
on_among : (id : ℕ) (tasks : List Task) → AllByRecursion (λ t. is_on id t ≡ true → list_any (λ o. same_key t.key o.key) (filter (is_on id) tasks) ≡ true) tasks
on_among id [] = tt
on_among id (t ∷ tasks) = (
  λ on. rw on (or_left _ _ (key_itself t.key)),
  each_map (λ o. is_on id o ≡ true → list_any (λ x. same_key o.key x.key) (filter (is_on id) tasks) ≡ true)
      (λ o. is_on id o ≡ true → list_any (λ x. same_key o.key x.key) (filter (is_on id) (t ∷ tasks)) ≡ true)
      (λ o found on. by_answer (is_on id t) (λ h. rw h (or_right _ _ (found on))) (λ h. rw h (found on)))
      tasks (on_among id tasks),
)

-- a test that fails wherever another holds fails of what the other leaves
each_left : {X : Type 0} (p q : X → Bool) (xs : List X) → AllByRecursion (λ x. p x ≡ true → q x ≡ false) xs → AllByRecursion (λ x. p x ≡ false) (filter q xs)
each_left p q [] each = tt
each_left p q (x ∷ xs) each =
    by_answer (q x)
    (λ h. rw h (by_answer (p x) (λ t. absurd (both_ways _ (each.0 t) h)) (λ f. f), each_left p q xs each.1))
    (λ h. rw h (each_left p q xs each.1))

-- once all tasks of a machine stopped, none is on it
pub none_left : (id : ℕ) (tasks : List Task) → AllByRecursion (λ t. is_on id t ≡ false) (without (keys_of (ranked_on id tasks)) tasks)
none_left id tasks =
    let on = filter (is_on id) tasks in
    each_left (is_on id) (λ t. not (is_among t.key (keys_of (by_rank on)))) tasks
    (each_map (λ t. is_on id t ≡ true → list_any (λ o. same_key t.key o.key) on ≡ true)
    (λ t. is_on id t ≡ true → not (is_among t.key (keys_of (by_rank on))) ≡ false)
    (λ t found here. not_from_true _ (names_any t.key (by_rank on) ∙ rank_any (λ o. same_key t.key o.key) on ∙ found here))
    tasks (on_among id tasks))
