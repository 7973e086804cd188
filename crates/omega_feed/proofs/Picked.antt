-- The requests of the open jobs are those of all jobs.
use Rattle.std.proofs.Common.{◌≡◌, ℕ, zero, suc, ◌+◌, ◌<◌, ◌≤◌, Bool, true, false, cond, ◌||◌, ◌==◌, List, [], ◌∷◌, ◌++◌, Option, Some, None, map, drop, length, refl, subst, ap, sym, ◌∙◌, inl, inr, arith, add-one}
use Rattle.std.specs.Prelude.{slice_get, option_and_then, is_some}
use Rattle.std.specs.BTreeMap.{is_at}
use Rattle.std.specs.BTreeSet as tree
use Rattle.std.specs.BTreeSet.{BTreeSet}
use Rattle.std.specs.List.{filter, filter_map, list_any, cons_option, AllByRecursion as Each}
use Rattle.std.specs.List.Sorted.{IsStrictlySortedBy}
use Rattle.std.specs.Ordering.{nat_cmp}
use Rattle.std.specs.declared.cmp.Ordering.TheVariants.{Less, Equal, Greater}
use Rattle.std.proofs.lemmas.Map.Keys.{sorted_head, sorted_tail}
use Rattle.std.proofs.lemmas.Bool.{lt-ltb, le-ltb, eq-eqb, ne_eqb, eqb-true, cases_eq, cases_order, cases_Bool, both_ways, or_cases}
use Rattle.omega_model.proofs.Lists.{by_answer, any_none, each_map, each_of_all, filter_none}
use Rattle.omega_model.specs.Cell.{Cell}
use Rattle.omega_model.specs.ExtraTasks.{capacity_in_all, free_indexes, running_extras, used_in, wanted_of}
use Rattle.omega_model.specs.Extras.{extras, target}
use Rattle.omega_model.specs.Requests.{request_of, is_waiting}
use Rattle.omega_model.specs.Wanted.{WantedTask}
use Rattle.omega_feed.specs.Asked.{Asked, activities_in, held_indexes, is_task_of, asked_extra, asked_extras, asked_wish, asked_wishes, extras_after, job_request, asked_requests}
use Rattle.omega_feed.specs.Index.{StandsAt, place_request}
use Rattle.omega_feed.specs.Open.{HasItsExtras, IsQuiet, OpenPlaces, OthersAreQuiet, RunsIfOf, is_open}
use Rattle.omega_feed.proofs.HeldExtras.{few_extras, none_missing, none_wanted}
use Rattle.omega_feed.specs.declared.jobs.RoutedJob.{RoutedJob}

-- numbers that rise
abbrev pub Up : List ℕ → Type 0
Up [] = Unit {0}
Up (p ∷ ps) = Each (λ q. p < q) ps × Up ps

slice_of_drop : {X : Type 0} (xs : List X) (base : ℕ) (y : X) (rest : List X) → drop base xs ≡ y ∷ rest → (slice_get xs base ≡ Some y) × (drop (base + 1) xs ≡ rest)
slice_of_drop [] zero y rest e = absurd (cc)
slice_of_drop [] (suc base) y rest e = absurd (cc)
slice_of_drop (x ∷ xs) zero y rest e = (cc, cc)
slice_of_drop (x ∷ xs) (suc base) y rest e = let later = slice_of_drop xs base y rest e in (later.0, rw add-one (rw add-one at later.1))

past : {X : Type 0} (xs : List X) (base place : ℕ) → drop base xs ≡ [] → base ≤ place → slice_get xs place ≡ None
past [] base place e h = refl
past (x ∷ xs) zero place e h = absurd (cc)
past (x ∷ xs) (suc base) zero e h = absurd (omega arith)
past (x ∷ xs) (suc base) (suc place) e h = past xs base place e (omega arith)

-- whether a number is among these
abbrev pub has : ℕ → List ℕ → Bool
has p ps = list_any (λ q. q == p) ps

-- what an item at a place gives, if there is one
abbrev pub from_place : {X Y : Type 0} → (X → Option Y) → List X → ℕ → Option Y
from_place f xs p = option_and_then f (slice_get xs p)

none_of : {Y : Type 0} (h : ℕ → Option Y) (ps : List ℕ) → Each (λ p. h p ≡ None) ps → filter_map h ps ≡ []
none_of h [] e = refl
none_of h (p ∷ ps) e = ap (λ z. cons_option z (filter_map h ps)) e.0 ∙ none_of h ps e.1

none_here : {Y : Type 0} (o : Option Y) → (is_some o ≡ true → ⊥) → o ≡ None
none_here None f = refl
none_here (Some y) f = absurd (f refl)

not_in : (base : ℕ) (ps : List ℕ) → Each (λ q. base < q) ps → has base ps ≡ false
not_in base ps e = any_none (λ q. q == base) ps (each_map (λ q. base < q) (λ q. (q == base) ≡ false) (λ q h. ne_eqb q base (λ d. omega arith)) ps e)

past_first : (q p : ℕ) (ps : List ℕ) → p < q → has q (p ∷ ps) ≡ true → has q ps ≡ true
past_first q p ps h e =
    elim (or_cases (p == q) (has q ps) e) [ inl d ↦ let same : p ≡ q = eqb-true _ _ d in absurd (omega arith) | inr d ↦ d ]

-- what items give from a place on, if each that gives something is among the places
picked : {X Y : Type 0} (f : X → Option Y) (xs rest : List X) (base : ℕ) (places : List ℕ)
    → drop base xs ≡ rest → Up places → Each (λ p. base ≤ p) places
    → ((p : ℕ) → base ≤ p → is_some (from_place f xs p) ≡ true → has p places ≡ true)
    → filter_map (from_place f xs) places ≡ filter_map f rest
picked f xs [] base places e up low covers =
    none_of (from_place f xs) places
    (each_map (λ p. base ≤ p) (λ p. from_place f xs p ≡ None) (λ p h. ap (option_and_then f) (past xs base p e h)) places low)
picked f xs (x ∷ rest) base [] e up low covers =
    let split = slice_of_drop xs base x rest e in
    let here : from_place f xs base ≡ f x = ap (option_and_then f) split.0 in
    let none : f x ≡ None = none_here (f x) (λ s. both_ways _ refl (covers base (omega arith) (ap is_some here ∙ s))) in
    rw none (picked f xs rest (base + 1) [] split.1 tt tt (λ p h s. covers p (omega arith) s))
picked f xs (x ∷ rest) base (p ∷ ps) e up low covers =
    let split = slice_of_drop xs base x rest e in
    let here : from_place f xs base ≡ f x = ap (option_and_then f) split.0 in
    let first = low.0 in
    elim (cases_eq p base) [
      | inl same ↦
          ap (λ z. cons_option z (filter_map (from_place f xs) ps)) (ap (from_place f xs) same ∙ here)
          ∙ ap (cons_option (f x))
          (picked f xs rest (base + 1) ps split.1 up.1
          (each_map (λ q. p < q) (λ q. base + 1 ≤ q) (λ q h. omega arith) ps up.0)
          (λ q h s. past_first q p ps (omega arith) (covers q (omega arith) s)))
      | inr ne ↦
          let away : base < p = omega arith in
          let none : f x ≡ None = none_here (f x) (λ s. both_ways _
          (not_in base (p ∷ ps) (away, each_map (λ q. p < q) (λ q. base < q) (λ q h. omega arith) ps up.0))
          (covers base (omega arith) (ap is_some here ∙ s))) in
          picked f xs rest (base + 1) (p ∷ ps) split.1 up
          (omega arith, each_map (λ q. p < q) (λ q. base + 1 ≤ q) (λ q h. omega arith) ps up.0)
          (λ q h s. covers q (omega arith) s)
          ∙ ap (λ z. cons_option z (filter_map f rest)) (sym none)
    ]

filter_map_chosen : {X Y : Type 0} (p : X → Bool) (h : X → Option Y) (xs : List X) → filter_map (λ x. cond (p x) (h x) None) xs ≡ filter_map h (filter p xs)
filter_map_chosen p h [] = refl
filter_map_chosen p h (x ∷ xs) = by_cases (p x) (filter_map_chosen p h xs) where
  by_cases : (b : Bool) → filter_map (λ x. cond (p x) (h x) None) xs ≡ filter_map h (filter p xs)
      → cons_option (cond b (h x) None) (filter_map (λ x. cond (p x) (h x) None) xs) ≡ filter_map h (cond b (x ∷ filter p xs) (filter p xs))
  by_cases true e = ap (cons_option (h x)) e
  by_cases false e = e

less_is : (p q : ℕ) → nat_cmp p q ≡ Less → p < q
less_is p q e =
    elim (cases_order p q) [
      | inl same ↦ let other : nat_cmp p q ≡ Equal = rw (le-ltb p q (omega arith), eq-eqb p q same) refl in absurd (differ (sym e ∙ other))
      | inr (inl less) ↦ less
      | inr (inr more) ↦ let other : nat_cmp p q ≡ Greater = rw (le-ltb p q (omega arith), ne_eqb p q (λ d. omega arith)) refl in absurd (differs (sym e ∙ other))
    ] where
      differ : Less ≡ Equal → ⊥
      differ d = cc

      differs : Less ≡ Greater → ⊥
      differs d = cc

up_from : (ps : List ℕ) → IsStrictlySortedBy nat_cmp ps → Up ps
up_from [] s = tt
up_from (p ∷ ps) s = (bounds ps (sorted_head nat_cmp p ps s), up_from ps (sorted_tail nat_cmp p ps s)) where
  bounds : (qs : List ℕ) → Each (λ q. nat_cmp p q ≡ Less) qs → Each (λ q. p < q) qs
  bounds [] h = tt
  bounds (q ∷ qs) h = (less_is p q h.0, bounds qs h.1)

each_from_zero : (ps : List ℕ) → Each (λ p. 0 ≤ p) ps
each_from_zero [] = tt
each_from_zero (p ∷ ps) = (omega arith, each_from_zero ps)

pub same_place : (p q : ℕ) → is_at (nat_cmp p) q ≡ (q == p)
same_place p q =
    elim (cases_order p q) [
      | inl e ↦ rw (le-ltb p q (omega arith), eq-eqb p q e, eq-eqb q p (sym e)) refl
      | inr (inl less) ↦ rw (lt-ltb p q less, ne_eqb q p (λ d. omega arith)) refl
      | inr (inr more) ↦ rw (le-ltb p q (omega arith), ne_eqb p q (λ d. omega arith), ne_eqb q p (λ d. omega arith)) refl
    ]

has_place : (p : ℕ) (ps : List ℕ) → list_any (is_at (nat_cmp p)) ps ≡ has p ps
has_place p [] = refl
has_place p (q ∷ ps) = ap (λ b. b || list_any (is_at (nat_cmp p)) ps) (same_place p q) ∙ ap (λ b. (q == p) || b) (has_place p ps)

-- without a wanted task there are no extras
no_extras : (asked : Asked) (cell : Cell) (job : ℕ) (activities : Option ℕ) → extras_after asked cell job activities [] ≡ []
no_extras asked cell job None = refl
no_extras asked cell job (Some activities) = refl

-- nor with all that a job should have
no_more : (asked : Asked) (cell : Cell) (job : ℕ) (its : HasItsExtras asked cell.tasks job) (models : List WantedTask) → models ≡ wanted_of job asked.tasks
    → extras_after asked cell job (Some its.activities) models ≡ []
no_more asked cell job its [] same = refl
no_more asked cell job its (model ∷ others) same =
    let count : ℕ = extras asked.extra its.activities (length (model ∷ others)) (length (running_extras cell job)) model.spec.need (used_in cell) (capacity_in_all cell) in
    let few = few_extras job cell.tasks its.extras its.once its.run in
    let enough = subst (λ (own : List WantedTask). target asked.extra its.activities (length own) ≤ length own + length its.extras) (sym same) its.enough in
    let none : count ≡ 0 =
    none_missing asked.extra its.activities (length (model ∷ others)) (length (running_extras cell job)) model.spec.need (used_in cell) (capacity_in_all cell) (omega (arith, few, enough)) in
    ap (λ (n : ℕ). map (asked_extra asked.constraints model) (free_indexes (held_indexes cell job) n)) none

-- a task of a quiet job doesn't wait
waits_not : (cell : Cell) (job : ℕ) (task : WantedTask) → RunsIfOf job cell.tasks task → is_waiting cell job task ≡ false
waits_not cell job task runs = by_answer (is_task_of job task) (λ t. rw (t, runs t) refl) (λ f. rw f refl)

-- a quiet job wishes for nothing
quiet_wishes : (asked : Asked) (cell : Cell) (job : ℕ) → IsQuiet asked cell.tasks job → asked_wishes asked cell job ≡ []
quiet_wishes asked cell job quiet =
    let idle : filter (is_waiting cell job) asked.tasks ≡ [] =
    filter_none (is_waiting cell job) asked.tasks
    (each_map (RunsIfOf job cell.tasks) (λ task. is_waiting cell job task ≡ false) (waits_not cell job) asked.tasks
    (each_of_all (RunsIfOf job cell.tasks) asked.tasks quiet.running)) in
    let none : asked_extras asked cell job ≡ [] = elim quiet.no_extras [
      | inl e ↦ ap (λ z. extras_after asked cell job z (wanted_of job asked.tasks)) e
      | inr (inl e) ↦
          ap (extras_after asked cell job (activities_in asked.activities job)) (none_wanted job asked.tasks e)
          ∙ no_extras asked cell job (activities_in asked.activities job)
      | inr (inr its) ↦
          ap (λ z. extras_after asked cell job z (wanted_of job asked.tasks)) its.has ∙ no_more asked cell job its (wanted_of job asked.tasks) refl
    ] in
    ap (λ z. map (asked_wish asked.constraints) z ++ asked_extras asked cell job) idle ∙ none

-- each job of a scheduler that isn't at one of these places is quiet
abbrev pub OwnAreQuiet : Asked → Cell → ℕ → List ℕ → Type 0
OwnAreQuiet asked cell scheduler places = (place job : ℕ) → StandsAt asked.jobs place job scheduler → list_any (is_at (nat_cmp place)) places ≡ false → IsQuiet asked cell.tasks job

-- each job with a request is at one of the places
covered : (asked : Asked) (cell : Cell) (scheduler : ℕ) (places : List ℕ) → OwnAreQuiet asked cell scheduler places
    → (p : ℕ) → is_some (place_request asked cell scheduler p) ≡ true → has p places ≡ true
covered asked cell scheduler places quiet p some =
    elim (cases_Bool (has p places)) [
      | inl e ↦ e
      | inr closed ↦ absurd (by_cases (slice_get asked.jobs p) refl some (has_place p places ∙ closed))
    ] where
      at_job : (job : RoutedJob) (b : Bool) → (job.scheduler == scheduler) ≡ b → is_some (cond b (job_request asked cell job) None) ≡ true
          → (job.scheduler ≡ scheduler → IsQuiet asked cell.tasks job.job) → ⊥
      at_job job true own s q = both_ways _ (ap (λ z. is_some (request_of job.job z)) (quiet_wishes asked cell job.job (q (eqb-true _ _ own)))) s
      at_job job false own s q = both_ways _ refl s

      by_cases : (o : Option RoutedJob) → slice_get asked.jobs p ≡ o
          → is_some (option_and_then (λ (job : RoutedJob). cond (job.scheduler == scheduler) (job_request asked cell job) None) o) ≡ true
          → list_any (is_at (nat_cmp p)) places ≡ false
          → ⊥
      by_cases None is s closed = both_ways _ refl s
      by_cases (Some job) is s closed =
          at_job job (job.scheduler == scheduler) refl s (λ own. quiet p job.job (subst (λ (n : ℕ). StandsAt asked.jobs p job.job n) own is) closed)

-- the requests at a scheduler's open places are all its requests
pub picked_requests : (places : OpenPlaces) (asked : Asked) (cell : Cell) (scheduler : ℕ) (own : BTreeSet ℕ) → OthersAreQuiet places asked cell.tasks
    → ((place : ℕ) → tree.contains nat_cmp own place ≡ is_open places scheduler place) → IsStrictlySortedBy nat_cmp own.keys
    → filter_map (place_request asked cell scheduler) own.keys ≡ asked_requests asked cell scheduler
picked_requests places asked cell scheduler own quiet same sorted =
    picked (λ job. cond (job.scheduler == scheduler) (job_request asked cell job) None) asked.jobs asked.jobs 0 own.keys refl
    (up_from own.keys sorted) (each_from_zero own.keys)
    (λ p h s. covered asked cell scheduler own.keys (λ place job at closed. quiet place job scheduler at (sym (same place) ∙ closed)) p s)
    ∙ filter_map_chosen (λ job. job.scheduler == scheduler) (job_request asked cell) asked.jobs
