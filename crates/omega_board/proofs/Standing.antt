-- The victims of a claim that stand.
use Rattle.std.proofs.Common.{◌≡◌, ℕ, zero, suc, ◌+◌, ◌<◌, ◌≤◌, Bool, true, false, not, ◌&&◌, ◌||◌, List, [], ◌∷◌, ◌++◌, length, get_or, take, drop, slice_get, Option, Some, None, refl, sym, ap, ◌∙◌, subst, arith, append_assoc, append-nil, inl, inr, ◌==◌, if◌then◌else◌}
use Rattle.std.specs.List.{filter, find, AllByRecursion as Each}
use Rattle.std.specs.Option.{option_map}
use Rattle.std.proofs.Math.Bool.{or-false}
use Rattle.std.proofs.lemmas.Bool.{both_ways, or_cases, or_from, or_right, not-true}
use Rattle.std.proofs.lemmas.List.{drop_more, drop_all}
use Rattle.std.proofs.lemmas.List.Folds.{list_any-append}
use Rattle.std.proofs.lemmas.Option.{none-some, same_Some}
use Rattle.omega_model.specs.Keys.{same_key, is_among, first_mentions}
use Rattle.omega_model.specs.Cell.{Cell, goes_before, stays_on, task_at}
use Rattle.omega_model.specs.Jobs.{other_of_job, stays_of_job}
use Rattle.omega_model.specs.Judge.{runs_on, standing_victims, rival, same_job}
use Rattle.omega_model.specs.declared.cells.TaskKey.{TaskKey}
use Rattle.omega_model.specs.declared.cells.Task.{Task}
use Rattle.omega_model.specs.declared.claims.Claim.{Claim}
use Rattle.omega_model.specs.declared.claims.Verdict.TheVariants.{SameJob}
use Rattle.omega_running.proofs.InOrder.{rank_strict}
use Rattle.omega_running.proofs.Kept.{irreflexive}
use Rattle.omega_board.specs.Board.{Stand}
use Rattle.omega_board.specs.Judging.{comes_behind, ComesLast}
use Rattle.omega_model.proofs.Fewer.{filter_fewer}
use Rattle.omega_model.proofs.InOrder.{key_itself, key_same}
use Rattle.omega_model.proofs.Lists.{by_answer, each_map, each_both, each_of, filter_every, each_filter, each_passes, filter_and, filter_alike, each_drop, each_take}

-- the names that pass a test and are among some
pub among_filter : (p : TaskKey → Bool) (key : TaskKey) (keys : List TaskKey) → is_among key (filter p keys) ≡ (p key && is_among key keys)
among_filter p key [] = none (p key)
  where
    none : (b : Bool) → false ≡ (b && false)
    none true = refl
    none false = refl
among_filter p key (k ∷ keys) =
    by_answer (p k)
    (λ h.
    by_answer (same_key key k)
    (λ t. let own : p key ≡ true = ap p (key_same key k t) ∙ h in rw (h, t, own) refl)
    (λ f. rw (h, f) (among_filter p key keys)))
    (λ h.
    by_answer (same_key key k)
    (λ t. let own : p key ≡ false = ap p (key_same key k t) ∙ h in rw (h, own) (among_filter p key keys ∙ rw own refl))
    (λ f. rw (h, f) (among_filter p key keys)))

-- a list has the same names as the first mentions in it
pub among_first : (key : TaskKey) (keys : List TaskKey) → is_among key (first_mentions keys) ≡ is_among key keys
among_first key [] = refl
among_first key (k ∷ keys) =
    by_answer (same_key key k)
    (λ t. rw t refl)
    (λ f. rw f (among_filter (λ other. not (same_key other k)) key (first_mentions keys) ∙ rw f (among_first key keys)))

-- a task on a machine runs there by its name
each_runs : (tasks : List Task) (id : ℕ) → Each (λ t. (t.machine == id) ≡ true → runs_on tasks id t.key ≡ true) tasks
each_runs [] id = tt
each_runs (x ∷ rest) id = (
  λ on. rw (on, key_itself x.key) refl,
  each_map (λ t. (t.machine == id) ≡ true → runs_on rest id t.key ≡ true) (λ t. (t.machine == id) ≡ true → runs_on (x ∷ rest) id t.key ≡ true)
      (λ t runs on. or_right (x.machine == id && same_key x.key t.key) _ (runs on)) rest (each_runs rest id),
)

-- of the tasks on a machine, those in a list are those of the list that stand
pub each_stays : (tasks : List Task) (id : ℕ) (keys : List TaskKey)
    → Each (λ t. stays_on id (filter (runs_on tasks id) (first_mentions keys)) t ≡ stays_on id keys t) tasks
each_stays tasks id keys =
    each_map (λ t. (t.machine == id) ≡ true → runs_on tasks id t.key ≡ true) (λ t. stays_on id (filter (runs_on tasks id) (first_mentions keys)) t ≡ stays_on id keys t)
    (λ t runs.
    by_answer (t.machine == id)
    (λ on.
    let same : is_among t.key (filter (runs_on tasks id) (first_mentions keys)) ≡ is_among t.key keys =
    among_filter (runs_on tasks id) t.key (first_mentions keys) ∙ ap (λ b. b && is_among t.key (first_mentions keys)) (runs on) ∙ among_first t.key keys in
    ap (λ b. t.machine == id && not b) same)
    (λ off. rw off refl)) tasks (each_runs tasks id)

find_where : {X : Type 0} (p q : X → Bool) (xs : List X) → Each (λ x. p x ≡ q x) xs → find p xs ≡ find q xs
find_where p q [] same = refl
find_where p q (x ∷ xs) same =
    by_answer (q x)
    (λ t. let own = same.0 ∙ t in rw (t, own) refl)
    (λ f. let own = same.0 ∙ f in rw (f, own) (find_where p q xs same.1))

option_map-twice : {X Y Z : Type 0} (f : X → Y) (g : Y → Z) (o : Option X) → option_map g (option_map f o) ≡ option_map (λ x. g (f x)) o
option_map-twice f g None = refl
option_map-twice f g (Some x) = refl

-- another task of the job, where the victims in a list go, is one where those of them go that stand
pub same_job_is : (cell : Cell) (claim : Claim) → claim.spec.differ ≡ true
    → option_map SameJob (other_of_job cell.tasks claim.key.job claim.machine claim.victims) ≡ same_job cell claim
same_job_is cell claim differ =
    let standing = standing_victims cell.tasks claim in
    let same : find (stays_of_job claim.key.job claim.machine claim.victims) cell.tasks ≡ rival cell claim standing =
    find_where (stays_of_job claim.key.job claim.machine claim.victims) (stays_of_job claim.key.job claim.machine standing) cell.tasks
    (each_map (λ t. stays_on claim.machine standing t ≡ stays_on claim.machine claim.victims t)
    (λ t. stays_of_job claim.key.job claim.machine claim.victims t ≡ stays_of_job claim.key.job claim.machine standing t)
    (λ t is. ap (λ b. t.key.job == claim.key.job && b) (sym is)) cell.tasks (each_stays cell.tasks claim.machine claim.victims)) in
    option_map-twice (λ (t : Task). t.key) SameJob (find (stays_of_job claim.key.job claim.machine claim.victims) cell.tasks)
    ∙ ap (option_map (λ (t : Task). SameJob t.key)) same
    ∙ ap (λ b. if b then option_map (λ (t : Task). SameJob t.key) (rival cell claim standing) else None) (sym differ)

-- no name stands before itself
abbrev pub Once : List TaskKey → Type 0
Once [] = Unit {0}
Once (key ∷ keys) = Each (λ other. same_key other key ≡ false) keys × Once keys

pub filter_once : (p : TaskKey → Bool) (keys : List TaskKey) → Once keys → Once (filter p keys)
filter_once p [] once = tt
filter_once p (k ∷ keys) once =
    by_answer (p k)
    (λ h. rw h (each_filter (λ other. same_key other k ≡ false) p keys once.0, filter_once p keys once.1))
    (λ h. rw h (filter_once p keys once.1))

once_first : (keys : List TaskKey) → Once (first_mentions keys)
once_first [] = tt
once_first (k ∷ keys) = (
  each_map (λ other. not (same_key other k) ≡ true) (λ other. same_key other k ≡ false) (λ other h. not-true _ h) _ (each_passes (λ other. not (same_key other k)) (first_mentions keys)),
  filter_once (λ other. not (same_key other k)) (first_mentions keys) (once_first keys),
)

-- names of which none stands before itself are their first mentions
pub mentions_once : (keys : List TaskKey) → Once keys → first_mentions keys ≡ keys
mentions_once [] once = refl
mentions_once (key ∷ keys) once =
    ap (λ ks. key ∷ ks)
    (ap (filter (λ other. not (same_key other key))) (mentions_once keys once.1)
    ∙ filter_every (λ other. not (same_key other key)) keys (each_map (λ other. same_key other key ≡ false) (λ other. not (same_key other key) ≡ true) (λ other f. ap not f) keys once.0))

-- what is known of victims that stand
pub record AreStanding (tasks : List Task) (id : ℕ) (keys : List TaskKey) : Type 0 where
  pub runs : Each (λ key. runs_on tasks id key ≡ true) keys
  pub once : Once keys

pub are_standing : (tasks : List Task) (claim : Claim) → AreStanding tasks claim.machine (standing_victims tasks claim)
are_standing tasks claim = record {
  runs = each_passes (runs_on tasks claim.machine) (first_mentions claim.victims);
  once = filter_once (runs_on tasks claim.machine) (first_mentions claim.victims) (once_first claim.victims);
}

pub once_take : (n : ℕ) (keys : List TaskKey) → Once keys → Once (take n keys)
once_take zero keys once = tt
once_take (suc n) [] once = tt
once_take (suc n) (k ∷ keys) once = (each_take (λ other. same_key other k ≡ false) n keys once.0, once_take n keys once.1)

-- the first of them stand too
pub first_standing : (tasks : List Task) (id n : ℕ) (keys : List TaskKey) → AreStanding tasks id keys → AreStanding tasks id (take n keys)
first_standing tasks id n keys standing = record {
  runs = each_take (λ key. runs_on tasks id key ≡ true) n keys standing.runs;
  once = once_take n keys standing.once;
}

-- none of the later ones is among the first
pub later_apart : (n : ℕ) (keys : List TaskKey) → Once keys → Each (λ key. is_among key (take n keys) ≡ false) (drop n keys)
later_apart zero keys once = each_of _ (λ key. refl) keys
later_apart (suc n) [] once = tt
later_apart (suc n) (k ∷ keys) once =
    each_both (λ key. same_key key k ≡ false) (λ key. is_among key (take n keys) ≡ false) (λ key. is_among key (k ∷ take n keys) ≡ false)
    (λ key differ rest. or_from _ _ differ rest) (drop n keys) (each_drop (λ key. same_key key k ≡ false) n keys once.0) (later_apart n keys once.1)

-- they are no more than the claim lists
pub standing_fewer : (tasks : List Task) (claim : Claim) → length (standing_victims tasks claim) ≤ length claim.victims
standing_fewer tasks claim =
    let some = filter_fewer (runs_on tasks claim.machine) (first_mentions claim.victims) in
    let first = mentions claim.victims in
    omega (arith, some, first)
  where
    mentions : (keys : List TaskKey) → length (first_mentions keys) ≤ length keys
    mentions [] = omega arith
    mentions (k ∷ keys) =
        let some = filter_fewer (λ other. not (same_key other k)) (first_mentions keys) in
        let rest = mentions keys in
        omega (arith, some, rest)

-- said of each place
pub stand : (tasks : List Task) (id : ℕ) (keys : List TaskKey) → AreStanding tasks id keys → Stand tasks id keys
stand tasks id keys standing = at keys standing.runs standing.once
  where
    here : {X : Type 0} (P : X → Type 0) (xs : List X) (place : ℕ) (x : X) → Each P xs → slice_get xs place ≡ Some x → P x
    here P [] place x each is = absurd (none-some x is)
    here P (y ∷ xs) zero x each is = subst P (same_Some y x is) each.0
    here P (y ∷ xs) (suc place) x each is = here P xs place x each.1 is

    at : (ks : List TaskKey) → Each (λ key. runs_on tasks id key ≡ true) ks → Once ks → (place : ℕ) (key : TaskKey) → slice_get ks place ≡ Some key
        → (runs_on tasks id key ≡ true) × (is_among key (take place ks) ≡ false)
    at [] runs once place key is = absurd (none-some key is)
    at (k ∷ ks) runs once zero key is = (subst (λ x. runs_on tasks id x ≡ true) (same_Some k key is) runs.0, refl)
    at (k ∷ ks) runs once (suc place) key is =
        let rest = at ks runs.1 once.1 place key is in
        (rest.0, or_from _ _ (here (λ other. same_key other k ≡ false) ks place key once.0 is) rest.1)

-- whether a victim stands behind those that were gathered
abbrev pub stands_behind : List Task → ℕ → List TaskKey → TaskKey → Bool
stands_behind tasks id before key = runs_on tasks id key && not (is_among key before)

-- those that were gathered, and those of the victims from a place on that stand behind them, are all that stand
abbrev pub AreGathered : List Task → ℕ → List TaskKey → ℕ → List TaskKey → Type 0
AreGathered tasks id keys i found =
    found ++ filter (stands_behind tasks id found) (first_mentions (drop i keys)) ≡ filter (runs_on tasks id) (first_mentions keys)

pub gathered_none : (tasks : List Task) (id : ℕ) (keys : List TaskKey) → AreGathered tasks id keys 0 []
gathered_none tasks id keys = filter_alike (stands_behind tasks id []) (runs_on tasks id) (λ k. and_true (runs_on tasks id k)) (first_mentions keys)
  where
    and_true : (b : Bool) → (b && true) ≡ b
    and_true true = refl
    and_true false = refl

module _ (tasks : List Task) (id : ℕ) (keys : List TaskKey) (i : ℕ) (key : TaskKey) (below : i < length keys) (is : key ≡ get_or keys i key) (found : List TaskKey) where
  next_victim : drop i keys ≡ key ∷ drop (i + 1) keys
  next_victim = drop_more keys i key below ∙ ap (λ (k : TaskKey). k ∷ drop (i + 1) keys) (sym is)

  -- one more victim that stands
  pub gathered_more : true ≡ stands_behind tasks id found key → AreGathered tasks id keys i found → AreGathered tasks id keys (i + 1) (found ++ key ∷ [])
  gathered_more stands so =
      let rest = first_mentions (drop (i + 1) keys) in
      let others : TaskKey → Bool = λ other. not (same_key other key) in
      let behind : TaskKey → Bool = stands_behind tasks id found in
      let same : filter behind (filter others rest) ≡ filter (stands_behind tasks id (found ++ key ∷ [])) rest =
      filter_and behind others rest ∙ filter_alike (λ k. behind k && others k) (stands_behind tasks id (found ++ key ∷ []))
      (λ k. parts (runs_on tasks id k) (is_among k found) (same_key k key)
      ∙ ap (λ b. runs_on tasks id k && not b) (sym (list_any-append (same_key k) found (key ∷ []) ∙ ap (λ b. is_among k found || b) (or-false (same_key k key))))) rest in
      append_assoc found (key ∷ []) (filter (stands_behind tasks id (found ++ key ∷ [])) rest)
      ∙ ap (λ ks. found ++ key ∷ ks) (sym same)
      ∙ ap (λ b. found ++ (if b then key ∷ filter behind (filter others rest) else filter behind (filter others rest))) stands
      ∙ ap (λ ks. found ++ filter behind (first_mentions ks)) (sym next_victim)
      ∙ so
    where
      parts : (a b c : Bool) → ((a && not b) && not c) ≡ (a && not (b || c))
      parts true true c = refl
      parts true false c = refl
      parts false b c = refl

  -- one that doesn't
  pub gathered_same : false ≡ stands_behind tasks id found key → AreGathered tasks id keys i found → AreGathered tasks id keys (i + 1) found
  gathered_same falls so =
      let rest = first_mentions (drop (i + 1) keys) in
      let others : TaskKey → Bool = λ other. not (same_key other key) in
      let behind : TaskKey → Bool = stands_behind tasks id found in
      let same : filter behind (filter others rest) ≡ filter behind rest =
      filter_and behind others rest ∙ filter_alike (λ k. behind k && others k) behind
      (λ k.
      by_answer (same_key k key)
      (λ t. let own : behind k ≡ false = ap behind (key_same k key t) ∙ sym falls in ap (λ b. b && others k) own ∙ sym own)
      (λ f. ap (λ b. behind k && not b) f ∙ and_true (behind k))) rest in
      ap (λ ks. found ++ ks) (sym same)
      ∙ ap (λ b. found ++ (if b then key ∷ filter behind (filter others rest) else filter behind (filter others rest))) falls
      ∙ ap (λ ks. found ++ filter behind (first_mentions ks)) (sym next_victim)
      ∙ so
    where
      and_true : (b : Bool) → (b && true) ≡ b
      and_true true = refl
      and_true false = refl

pub gathered_all : (tasks : List Task) (id : ℕ) (keys : List TaskKey) (i : ℕ) (found : List TaskKey) → length keys ≤ i → AreGathered tasks id keys i found
    → found ≡ filter (runs_on tasks id) (first_mentions keys)
gathered_all tasks id keys i found past so =
    sym (append-nil found) ∙ ap (λ ks. found ++ filter (stands_behind tasks id found) (first_mentions ks)) (sym (drop_all i keys past)) ∙ so

-- a task that comes behind the last of some isn't among them
pub behind_last : (tasks : List Task) (keys : List TaskKey) (last : Option Task) (key : TaskKey) (task : Task) → ComesLast tasks keys last → task_at tasks key ≡ Some task
    → comes_behind last task ≡ true → is_among key keys ≡ false
behind_last tasks keys None key task none at behind = ap (is_among key) none
behind_last tasks keys (Some last) key task each at behind = by keys each
  where
    by : (ks : List TaskKey) → Each (λ k. (t : Task) → task_at tasks k ≡ Some t → goes_before last t ≡ false) ks → is_among key ks ≡ false
    by [] each = refl
    by (k ∷ ks) each =
        by_answer (same_key key k)
        (λ t. absurd (both_ways _ (each.0 task (ap (task_at tasks) (sym (key_same key k t)) ∙ at)) behind))
        (λ f. rw f (by ks each.1))

each_push : {X : Type 0} (P : X → Type 0) (xs : List X) (x : X) → Each P xs → P x → Each P (xs ++ x ∷ [])
each_push P [] x each here = (here, tt)
each_push P (y ∷ xs) x each here = (each.0, each_push P xs x each.1 here)

-- it comes last of them and itself
pub last_behind : (tasks : List Task) (keys : List TaskKey) (last : Option Task) (key : TaskKey) (task : Task) → ComesLast tasks keys last → task_at tasks key ≡ Some task
    → comes_behind last task ≡ true → ComesLast tasks (keys ++ key ∷ []) (Some task)
last_behind tasks keys None key task none at behind =
    subst (λ ks. ComesLast tasks (ks ++ key ∷ []) (Some task)) (sym none) (own tasks key task at, tt)
  where
    own : (ts : List Task) (k : TaskKey) (t : Task) → task_at ts k ≡ Some t → (x : Task) → task_at ts k ≡ Some x → goes_before t x ≡ false
    own ts k t at x is = subst (λ (y : Task). goes_before t y ≡ false) (same_Some _ _ (sym at ∙ is)) (irreflexive goes_before rank_strict t)
last_behind tasks keys (Some last) key task each at behind =
    each_push (λ k. (t : Task) → task_at tasks k ≡ Some t → goes_before task t ≡ false) keys key
    (each_map (λ k. (t : Task) → task_at tasks k ≡ Some t → goes_before last t ≡ false) (λ k. (t : Task) → task_at tasks k ≡ Some t → goes_before task t ≡ false)
    (λ k not_behind t is. further t (not_behind t is)) keys each)
    (λ x is. subst (λ (y : Task). goes_before task y ≡ false) (same_Some _ _ (sym at ∙ is)) (irreflexive goes_before rank_strict task))
  where
    further : (t : Task) → goes_before last t ≡ false → goes_before task t ≡ false
    further t earlier = elim (or_cases (goes_before last t) (goes_before t task) (rank_strict.link last task t behind)) [
      | inl e ↦ absurd (both_ways _ earlier e)
      | inr e ↦ rank_strict.asym t task e
    ]

-- and one that doesn't comes no later than the last
pub last_still : (tasks : List Task) (keys : List TaskKey) (last : Option Task) (key : TaskKey) (task : Task) → ComesLast tasks keys last → task_at tasks key ≡ Some task
    → comes_behind last task ≡ false → ComesLast tasks (keys ++ key ∷ []) last
last_still tasks keys None key task none at behind = absurd (both_ways _ behind refl)
last_still tasks keys (Some last) key task each at behind =
    each_push (λ k. (t : Task) → task_at tasks k ≡ Some t → goes_before last t ≡ false) keys key each
    (λ x is. subst (λ (y : Task). goes_before last y ≡ false) (same_Some _ _ (sym at ∙ is)) behind)
