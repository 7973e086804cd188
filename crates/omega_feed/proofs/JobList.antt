-- Jobs in order of their first task row, and the places at which they are found.
use Rattle.std.proofs.Common.{◌≡◌, ℕ, zero, suc, Bool, true, false, cond, not, ◌&&◌, ◌||◌, ◌==◌, List, [], ◌∷◌, ◌++◌, Option, Some, None, map, length, refl, ap, sym, ◌∙◌, ◌⊎◌, inl, inr, append_assoc, append-nil}
use Rattle.std.specs.Prelude.{is_some, ◌↔◌, option_and_then}
use Rattle.std.specs.BTreeMap as tree
use Rattle.std.specs.BTreeMap.{BTreeMap}
use Rattle.std.specs.List.{filter, filter_map, fold, list_any}
use Rattle.std.specs.Ordering.{nat_cmp}
use Rattle.std.proofs.lemmas.Bool.{eq-eqb, ne_eqb, eqb-true, cases_eq, cases_Bool}
use Rattle.std.proofs.lemmas.List.Folds.{list_any-append}
use Rattle.omega_model.specs.Feed.{feed, each_once}
use Rattle.omega_model.specs.Fields.{ActivityFields, TaskFields}
use Rattle.omega_model.specs.Plan.{first_item}
use Rattle.omega_model.specs.Requests.{job_of_row, jobs_in_order}
use Rattle.omega_model.specs.Routing.{class_in, class_of}
use Rattle.omega_model.specs.declared.rows.Row.{Row}
use Rattle.omega_model.specs.declared.rows.Row.TheVariants.{Machine, Attr, Task}
use Rattle.omega_model.specs.declared.rows.TraceTables.{TraceTables}
use Rattle.omega_model.specs.declared.settings.Settings.{Settings}
use Rattle.omega_machines.proofs.Finding.{apart}
use Rattle.omega_feed.specs.Asked.{home, routed, is_job, with_job}
use Rattle.omega_feed.specs.Events.{task_rows}
use Rattle.omega_feed.specs.Index.{job_at, AreFound, StandsAt}
use Rattle.omega_feed.specs.declared.jobs.JobPlace.{JobPlace}
use Rattle.omega_feed.specs.declared.jobs.RoutedJob.{RoutedJob}

pub any_at : (job : ℕ) (jobs : List RoutedJob) (place : ℕ) → job_at jobs place ≡ Some job → list_any (is_job job) jobs ≡ true
any_at job [] place is = absurd (cc)
any_at job (other ∷ jobs) zero is =
    let same : other.job ≡ job = cc in rw (eq-eqb _ _ same) refl
any_at job (other ∷ jobs) (suc place) is = rw (any_at job jobs place is) (or_true (is_job job other)) where
  or_true : (b : Bool) → (b || true) ≡ true
  or_true true = refl
  or_true false = refl

pub at_any : (job : ℕ) (jobs : List RoutedJob) → list_any (is_job job) jobs ≡ true → (place : ℕ) × (job_at jobs place ≡ Some job)
at_any job [] is = absurd (cc)
at_any job (other ∷ jobs) is = by_cases (is_job job other) refl is (at_any job jobs) where
  by_cases : (b : Bool) → is_job job other ≡ b → (b || list_any (is_job job) jobs) ≡ true
      → (list_any (is_job job) jobs ≡ true → (place : ℕ) × (job_at jobs place ≡ Some job))
      → (place : ℕ) × (job_at (other ∷ jobs) place ≡ Some job)
  by_cases true same e later = (0, ap Some (eqb-true _ _ same))
  by_cases false same e later = let at = later e in (suc at.0, at.1)

kept_at : (job : ℕ) (jobs : List RoutedJob) (new : RoutedJob) (place : ℕ) → job_at jobs place ≡ Some job → job_at (jobs ++ new ∷ []) place ≡ Some job
kept_at job [] new place is = absurd (cc)
kept_at job (other ∷ jobs) new zero is = is
kept_at job (other ∷ jobs) new (suc place) is = kept_at job jobs new place is

new_at : (jobs : List RoutedJob) (new : RoutedJob) → job_at (jobs ++ new ∷ []) (length jobs) ≡ Some new.job
new_at [] new = refl
new_at (other ∷ jobs) new = new_at jobs new

which_at : (job : ℕ) (jobs : List RoutedJob) (new : RoutedJob) (place : ℕ) → job_at (jobs ++ new ∷ []) place ≡ Some job
    → (job_at jobs place ≡ Some job) ⊎ ((place ≡ length jobs) × (new.job ≡ job))
which_at job [] new zero is = inr (refl, cc)
which_at job [] new (suc place) is = absurd (cc)
which_at job (other ∷ jobs) new zero is = inl is
which_at job (other ∷ jobs) new (suc place) is =
    elim (which_at job jobs new place is) [ inl e ↦ inl e | inr e ↦ inr (ap suc e.0, e.1) ]

-- a job that isn't among these has no place
pub absent : (places : BTreeMap ℕ ℕ) (jobs : List RoutedJob) → AreFound places jobs → (job : ℕ) → list_any (is_job job) jobs ≡ false → tree.get nat_cmp places job ≡ None
absent places jobs found job none = by_cases (tree.get nat_cmp places job) refl where
  by_cases : (o : Option ℕ) → tree.get nat_cmp places job ≡ o → o ≡ None
  by_cases None is = refl
  by_cases (Some place) is = let both : true ≡ false = sym (any_at job jobs place ((found job place).0 is)) ∙ none in absurd (cc)

-- whether a place was found for a job is whether it is among the jobs
pub has_placed : (jobs : List RoutedJob) (job : ℕ) (found : Option ℕ) → ((place : ℕ) → (found ≡ Some place) ↔ (job_at jobs place ≡ Some job))
    → is_some found ≡ list_any (is_job job) jobs
has_placed jobs job None is =
    elim (cases_Bool (list_any (is_job job) jobs)) [
      | inl e ↦ let at = at_any job jobs e in absurd (nothing at.0 ((is at.0).1 at.1))
      | inr e ↦ sym e
    ] where
      nothing : (place : ℕ) → None ≡ Some place → ⊥
      nothing place e = cc
has_placed jobs job (Some place) is = sym (any_at job jobs place ((is place).0 refl))

-- a job that is seen at a place is found there
pub placed_at : (places : BTreeMap ℕ ℕ) (jobs : List RoutedJob) → AreFound places jobs → (job seen : ℕ) → job_at jobs seen ≡ Some job
    → (place : ℕ) → (Some seen ≡ Some place) ↔ (job_at jobs place ≡ Some job)
placed_at places jobs found job seen at place = (
  λ is. ap (λ o. option_and_then (λ n. job_at jobs n) o) (sym is) ∙ at,
  λ there. sym ((found job seen).1 at) ∙ (found job place).1 there,
)

-- this is where a job stands among these, and its scheduler
abbrev pub AreStands : List RoutedJob → ℕ → Option JobPlace → Type 0
AreStands jobs job found = (place scheduler : ℕ) → (found ≡ Some (record { place = place; scheduler = scheduler })) ↔ StandsAt jobs place job scheduler

-- one more job is found at the end
pub found_more : (places more : BTreeMap ℕ ℕ) (jobs : List RoutedJob) (new : RoutedJob) (n : ℕ) → AreFound places jobs
    → tree.get nat_cmp places new.job ≡ None
    → n ≡ length jobs
    → tree.Updates nat_cmp places more new.job (Some n)
    → AreFound more (jobs ++ new ∷ [])
found_more places more jobs new n found none end u job place =
    elim (cases_eq new.job job) [
      | inl same ↦ (λ is. there same is, λ is. here same is)
      | inr ne ↦ (λ is. kept_at job jobs new place ((found job place).0 (sym (u.2 job (apart _ _ ne)) ∙ is)), λ is. back ne is)
    ] where
      there : new.job ≡ job → tree.get nat_cmp more job ≡ Some place → job_at (jobs ++ new ∷ []) place ≡ Some job
      there same is =
          let one : Some n ≡ Some place = sym u.1 ∙ ap (λ z. tree.get nat_cmp more z) same ∙ is in
          let at : length jobs ≡ place = cc in
          ap (λ z. job_at (jobs ++ new ∷ []) z) (sym at) ∙ new_at jobs new ∙ ap Some same

      nothing : None ≡ Some place → ⊥
      nothing e = cc

      here : new.job ≡ job → job_at (jobs ++ new ∷ []) place ≡ Some job → tree.get nat_cmp more job ≡ Some place
      here same is =
          elim (which_at job jobs new place is) [
            | inl e ↦ absurd (nothing (sym none ∙ ap (λ z. tree.get nat_cmp places z) same ∙ (found job place).1 e))
            | inr e ↦ ap (λ z. tree.get nat_cmp more z) (sym same) ∙ u.1 ∙ ap Some (end ∙ sym e.0)
          ]

      back : (new.job ≡ job → ⊥) → job_at (jobs ++ new ∷ []) place ≡ Some job → tree.get nat_cmp more job ≡ Some place
      back ne is =
          elim (which_at job jobs new place is) [
            | inl e ↦ u.2 job (apart _ _ ne) ∙ (found job place).1 e
            | inr e ↦ absurd (ne e.1)
          ]

-- jobs are found as before once a new number was put in and taken out again
pub still_found : (places more less : BTreeMap ℕ ℕ) (jobs : List RoutedJob) (number n : ℕ) → AreFound places jobs
    → tree.get nat_cmp places number ≡ None
    → tree.Updates nat_cmp places more number (Some n)
    → tree.Updates nat_cmp more less number None
    → AreFound less jobs
still_found places more less jobs number n found none put gone job place =
    (λ is. (found job place).0 (sym same ∙ is), λ is. same ∙ (found job place).1 is) where
      same : tree.get nat_cmp less job ≡ tree.get nat_cmp places job
      same =
          elim (cases_eq number job) [
            | inl one ↦ ap (λ z. tree.get nat_cmp less z) (sym one) ∙ gone.1 ∙ sym none ∙ ap (λ z. tree.get nat_cmp places z) one
            | inr ne ↦ gone.2 job (apart _ _ ne) ∙ put.2 job (apart _ _ ne)
          ]

-- one more number at the end, unless it is there
abbrev pub add_once : List ℕ → ℕ → List ℕ
add_once ns n = cond (list_any (λ m. m == n) ns) ns (ns ++ n ∷ [])

-- whether a number isn't among these
abbrev is_new : List ℕ → ℕ → Bool
is_new ns m = not (list_any (λ k. k == m) ns)

filter_twice : (p q r : ℕ → Bool) → ((m : ℕ) → (q m && p m) ≡ r m) → (ms : List ℕ) → filter p (filter q ms) ≡ filter r ms
filter_twice p q r f [] = refl
filter_twice p q r f (m ∷ ms) = by_cases (q m) (p m) (r m) refl (f m) (filter_twice p q r f ms) where
  by_cases : (b c d : Bool) → p m ≡ c → (b && c) ≡ d → filter p (filter q ms) ≡ filter r ms
      → filter p (cond b (m ∷ filter q ms) (filter q ms)) ≡ cond d (m ∷ filter r ms) (filter r ms)
  by_cases true c d pm is e = rw (pm, is, e) refl
  by_cases false c d pm is e = rw (← is) e

gone : (acc : List ℕ) (n : ℕ) → list_any (λ m. m == n) acc ≡ true → (m : ℕ) → (not (m == n) && is_new acc m) ≡ is_new acc m
gone acc n has m =
    elim (cases_eq m n) [
      | inl e ↦ rw (eq-eqb m n e, ap (λ z. list_any (λ k. k == z) acc) e, has) refl
      | inr ne ↦ rw (ne_eqb m n ne) refl
    ]

newer : (acc : List ℕ) (n m : ℕ) → (not (m == n) && is_new acc m) ≡ is_new (acc ++ n ∷ []) m
newer acc n m =
    elim (cases_eq m n) [
      | inl e ↦ rw (list_any-append (λ k. k == m) acc (n ∷ []), eq-eqb m n e, eq-eqb n m (sym e)) (shut (list_any (λ k. k == m) acc))
      | inr ne ↦ rw (list_any-append (λ k. k == m) acc (n ∷ []), ne_eqb m n ne, ne_eqb n m (λ e. ne (sym e))) (open' (list_any (λ k. k == m) acc))
    ] where
      shut : (b : Bool) → false ≡ not (b || true)
      shut true = refl
      shut false = refl

      open' : (b : Bool) → not b ≡ not (b || false)
      open' true = refl
      open' false = refl

fold_once : (acc ns : List ℕ) → fold add_once acc ns ≡ acc ++ filter (is_new acc) (each_once ns)
fold_once acc [] = sym (append-nil acc)
fold_once acc (n ∷ ns) = by_cases (list_any (λ m. m == n) acc) refl (fold_once acc ns) (fold_once (acc ++ n ∷ []) ns) where
  by_cases : (b : Bool) → list_any (λ m. m == n) acc ≡ b
      → fold add_once acc ns ≡ acc ++ filter (is_new acc) (each_once ns)
      → fold add_once (acc ++ n ∷ []) ns ≡ (acc ++ n ∷ []) ++ filter (is_new (acc ++ n ∷ [])) (each_once ns)
      → fold add_once (cond b acc (acc ++ n ∷ [])) ns ≡ acc ++ filter (is_new acc) (n ∷ filter (λ m. not (m == n)) (each_once ns))
  by_cases true is old new =
      old ∙ rw is (ap (λ z. acc ++ z) (sym (filter_twice (is_new acc) (λ m. not (m == n)) (is_new acc) (gone acc n is) (each_once ns))))
  by_cases false is old new =
      new ∙ append_assoc acc (n ∷ []) _
      ∙ rw is (ap (λ z. acc ++ n ∷ z) (sym (filter_twice (is_new acc) (λ m. not (m == n)) (is_new (acc ++ n ∷ [])) (newer acc n) (each_once ns))))

all_new : (ms : List ℕ) → filter (is_new []) ms ≡ ms
all_new [] = refl
all_new (m ∷ ms) = ap (λ z. m ∷ z) (all_new ms)

-- numbers added once, one after the other
pub each_added : (ns : List ℕ) → fold add_once [] ns ≡ each_once ns
each_added ns = fold_once [] ns ∙ all_new (each_once ns)

-- a job with its scheduler, where its tasks have this class
abbrev pub classed : Settings → List ActivityFields → Option ℕ → ℕ → RoutedJob
classed settings activities class job = record { job = job; scheduler = home settings activities class job }

-- the jobs after one more row: a new one is routed by the row's class, or as it has activities
abbrev pub note_job : Settings → List ActivityFields → List RoutedJob → Row → List RoutedJob
note_job settings activities jobs (Machine row) = jobs
note_job settings activities jobs (Attr row) = jobs
note_job settings activities jobs (Task row) = with_job jobs (classed settings activities (Some row.class) row.key.job)

both_false : (a b : Bool) → (a || (b || false)) ≡ false → (a ≡ false) × (b ≡ false)
both_false true b e = absurd (cc)
both_false false true e = absurd (cc)
both_false false false e = (refl, refl)

-- the class of a job by the first of these rows that is one of its tasks
abbrev first_class : List Row → ℕ → Option ℕ
first_class rows job = first_item (filter_map (class_in job) rows)

module _ (settings : Settings) (activities : List ActivityFields) (class : ℕ → Option ℕ) where
  -- a job with the scheduler for its class
  abbrev routed_by : ℕ → RoutedJob
  routed_by job = classed settings activities (class job) job

  any_routed : (job : ℕ) (ns : List ℕ) → list_any (is_job job) (map routed_by ns) ≡ list_any (λ m. m == job) ns
  any_routed job [] = refl
  any_routed job (n ∷ ns) = ap (λ z. (n == job) || z) (any_routed job ns)

  map_push : (ns : List ℕ) (n : ℕ) → map routed_by (ns ++ n ∷ []) ≡ map routed_by ns ++ routed_by n ∷ []
  map_push [] n = refl
  map_push (m ∷ ns) n = ap (λ z. routed_by m ∷ z) (map_push ns n)

  with_routed : (ns : List ℕ) (job : ℕ) (given : Option ℕ) → (list_any (λ m. m == job) ns ≡ false → class job ≡ given)
      → with_job (map routed_by ns) (classed settings activities given job) ≡ map routed_by (add_once ns job)
  with_routed ns job given is = rw (any_routed job ns) (by_cases (list_any (λ m. m == job) ns) is) where
    by_cases : (b : Bool) → (b ≡ false → class job ≡ given)
        → cond b (map routed_by ns) (map routed_by ns ++ classed settings activities given job ∷ []) ≡ map routed_by (cond b ns (ns ++ job ∷ []))
    by_cases true is = refl
    by_cases false is = ap (λ (c : Option ℕ). map routed_by ns ++ classed settings activities c job ∷ []) (sym (is refl)) ∙ sym (map_push ns job)

  -- of a job that isn't noted yet the class is that of its first row among those that remain
  abbrev IsFirst : List ℕ → List Row → Type 0
  IsFirst ns rows = (job : ℕ) → list_any (λ m. m == job) ns ≡ false → class job ≡ first_class rows job

  past : (ns : List ℕ) (n job : ℕ) → list_any (λ m. m == job) (add_once ns n) ≡ false
      → (list_any (λ m. m == job) ns ≡ false) × ((n == job) ≡ false)
  past ns n job is = by_cases (list_any (λ m. m == n) ns) refl is where
    by_cases : (b : Bool) → list_any (λ m. m == n) ns ≡ b → list_any (λ m. m == job) (cond b ns (ns ++ n ∷ [])) ≡ false
        → (list_any (λ m. m == job) ns ≡ false) × ((n == job) ≡ false)
    by_cases true has none = (
      none,
      elim (cases_eq n job) [
        | inl same ↦ let both : true ≡ false = sym has ∙ ap (λ z. list_any (λ m. m == z) ns) same ∙ none in absurd (cc)
        | inr ne ↦ ne_eqb n job ne
      ],
    )
    by_cases false has none = both_false (list_any (λ m. m == job) ns) (n == job) (sym (list_any-append (λ m. m == job) ns (n ∷ [])) ∙ none)

  fold_routed : (ns : List ℕ) (rows : List Row) → IsFirst ns rows
      → fold (note_job settings activities) (map routed_by ns) rows ≡ map routed_by (fold add_once ns (filter_map job_of_row rows))
  fold_routed ns [] first = refl
  fold_routed ns (Machine row ∷ rows) first = fold_routed ns rows first
  fold_routed ns (Attr row ∷ rows) first = fold_routed ns rows first
  fold_routed ns (Task row ∷ rows) first =
      ap (λ z. fold (note_job settings activities) z rows) (with_routed ns row.key.job (Some row.class) (λ none. first row.key.job none ∙ here))
      ∙ fold_routed (add_once ns row.key.job) rows later where
        here : first_class (Task row ∷ rows) row.key.job ≡ Some row.class
        here = rw (eq-eqb row.key.job row.key.job refl) refl

        later : IsFirst (add_once ns row.key.job) rows
        later job none = let past = past ns row.key.job job none in first job past.0 ∙ rw past.1 refl

-- the jobs noted from row to row are those of the trace in order of their first task row
jobs_noted : (settings : Settings) (trace : TraceTables)
    → fold (note_job settings trace.activities) [] (feed trace) ≡ map (routed settings trace) (jobs_in_order (feed trace))
jobs_noted settings trace =
    fold_routed settings trace.activities (class_of trace) [] (feed trace) (λ job none. refl)
    ∙ ap (map (routed settings trace)) (each_added (filter_map job_of_row (feed trace)))

-- the jobs with that of one more task row
abbrev pub note_task : Settings → List ActivityFields → List RoutedJob → TaskFields → List RoutedJob
note_task settings activities jobs row = note_job settings activities jobs (Task row)

-- of all rows only those of tasks are noted
tasks_noted : (settings : Settings) (activities : List ActivityFields) (jobs : List RoutedJob) (rows : List Row)
    → fold (note_task settings activities) jobs (task_rows rows) ≡ fold (note_job settings activities) jobs rows
tasks_noted settings activities jobs [] = refl
tasks_noted settings activities jobs (Machine row ∷ rows) = tasks_noted settings activities jobs rows
tasks_noted settings activities jobs (Attr row ∷ rows) = tasks_noted settings activities jobs rows
tasks_noted settings activities jobs (Task row ∷ rows) = tasks_noted settings activities (note_task settings activities jobs row) rows

-- the jobs noted from task row to task row are those of the trace in order of their first task row
pub task_jobs_noted : (settings : Settings) (trace : TraceTables)
    → fold (note_task settings trace.activities) [] (task_rows (feed trace)) ≡ map (routed settings trace) (jobs_in_order (feed trace))
task_jobs_noted settings trace = tasks_noted settings trace.activities [] (feed trace) ∙ jobs_noted settings trace
