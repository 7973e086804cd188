-- Jobs of which nothing waits, and how they stay so.
use Rattle.std.proofs.Common.{eq-eqb, ◌≡◌, ◌≤◌, ◌<◌, ◌+◌, ◌⊎◌, ℕ, Bool, true, false, cond, not, ◌||◌, ◌==◌, List, [], ◌∷◌, ◌++◌, None, length, refl, ap, sym, subst, ◌∙◌, inl, inr, arith}
use Rattle.std.proofs.lemmas.List.{append-nil}
use Rattle.std.specs.Prelude.{is_some}
use Rattle.std.specs.List.{All, filter, list_any}
use Rattle.std.proofs.lemmas.Bool.{eqb-true, cases_eq, cases_order, cases_Bool, both_ways, ne_eqb, or_cases, or_left, or_right}
use Rattle.std.proofs.lemmas.List.Elements.{All-append, All-cons, All-filter, All-head, All-nil, All-tail, filter-append}
use Rattle.std.proofs.lemmas.List.Folds.{list_any-append}
use Rattle.omega_model.specs.Cell.{task_at}
use Rattle.omega_model.specs.ExtraTasks.{wanted_of}
use Rattle.omega_model.specs.Extras.{target}
use Rattle.omega_model.specs.Keys.{key_lt}
use Rattle.omega_model.specs.Wanted.{WantedTask, with_wanted, is_named}
use Rattle.omega_model.specs.declared.cells.Spec.{Spec}
use Rattle.omega_model.specs.declared.cells.Task.{Task}
use Rattle.omega_model.specs.declared.cells.TaskKey.{TaskKey}
use Rattle.omega_feed.specs.Asked.{Asked, activities_in, is_task_of}
use Rattle.omega_feed.specs.Index.{StandsAt}
use Rattle.omega_feed.specs.Open.{HasItsExtras, IsOpen, IsQuiet, OpenPlaces, OthersAreQuiet, RunsIfOf, StayOpen, is_open}
use Rattle.omega_model.proofs.InOrder.{key_asym, key_same, tested_before}
use Rattle.omega_model.proofs.Lists.{by_answer}

-- a filter finds no task where there was none
any_filtered : (p q : WantedTask → Bool) (tasks : List WantedTask) → list_any p (filter q tasks) ≡ true → list_any p tasks ≡ true
any_filtered p q [] e = e
any_filtered p q (task ∷ tasks) e = by_cases (q task) e (any_filtered p q tasks) where
  by_cases : (b : Bool) → list_any p (cond b (task ∷ filter q tasks) (filter q tasks)) ≡ true → (list_any p (filter q tasks) ≡ true → list_any p tasks ≡ true)
      → (p task || list_any p tasks) ≡ true
  by_cases true e f = elim (or_cases (p task) (list_any p (filter q tasks)) e) [ inl d ↦ or_left (p task) (list_any p tasks) d | inr d ↦ or_right (p task) (list_any p tasks) (f d) ]
  by_cases false e f = or_right (p task) (list_any p tasks) (f e)

-- a job that has a task after one was put in had one before, or it is that task's
had_task : (job : ℕ) (key : TaskKey) (spec : Spec) (tasks : List WantedTask) → (key.job ≡ job → ⊥) → list_any (is_task_of job) (with_wanted key spec tasks) ≡ true
    → list_any (is_task_of job) tasks ≡ true
had_task job key spec tasks ne e =
    elim (or_cases _ _ (sym (list_any-append (is_task_of job) (filter (λ other. key_lt other.key key) tasks) _) ∙ e)) [
      | inl d ↦ any_filtered (is_task_of job) (λ other. key_lt other.key key) tasks d
      | inr d ↦ elim (or_cases (key.job == job) _ d) [
        | inl s ↦ absurd (ne (eqb-true _ _ s))
        | inr s ↦ any_filtered (is_task_of job) (λ other. key_lt key other.key) tasks s
      ]
    ]

-- a test that no task passes is passed by none that a filter leaves
none_filtered : (p q : WantedTask → Bool) (tasks : List WantedTask) → list_any p tasks ≡ false → list_any p (filter q tasks) ≡ false
none_filtered p q tasks none =
    elim (cases_Bool (list_any p (filter q tasks))) [ inl e ↦ absurd (both_ways _ none (any_filtered p q tasks e)) | inr e ↦ e ]

-- with no wanted task all are quiet
pub all_quiet : (places : OpenPlaces) (asked : Asked) (tasks : List Task) → asked.tasks ≡ [] → OthersAreQuiet places asked tasks
all_quiet places asked tasks none place job scheduler at closed = record {
  running = let P : List WantedTask → Type 0 = λ wanted. All (RunsIfOf job tasks) wanted in subst P (sym none) (All-nil _);
  no_extras = inr (inl (ap (list_any (is_task_of job)) none));
}

-- where what was open is open, all others are still quiet
pub still_quiet : (before after : OpenPlaces) (asked : Asked) (tasks : List Task) → StayOpen before after → OthersAreQuiet before asked tasks → OthersAreQuiet after asked tasks
still_quiet before after asked tasks stay quiet place job scheduler at closed =
    elim (cases_Bool (is_open before scheduler place)) [
      | inl e ↦ absurd (both_ways _ closed (stay scheduler place e))
      | inr e ↦ quiet place job scheduler at e
    ]

-- a job has its extras where as many other tasks are wanted of it
its_extras_with : (asked : Asked) (tasks : List Task) (job : ℕ) (wanted : List WantedTask) → wanted_of job wanted ≡ wanted_of job asked.tasks
    → HasItsExtras asked tasks job → HasItsExtras (record asked { tasks = wanted }) tasks job
its_extras_with asked tasks job wanted same its = record {
  activities = its.activities;
  has = its.has;
  extras = its.extras;
  once = its.once;
  run = its.run;
  enough = subst (λ (own : List WantedTask). target asked.extra its.activities (length own) ≤ length own + length its.extras) (sym same) its.enough;
}

-- the tasks of a job without a task of another
wanted_without : (job : ℕ) (key : TaskKey) → (key.job ≡ job → ⊥) → (tasks : List WantedTask)
    → wanted_of job (filter (λ task. not (is_named key task)) tasks) ≡ wanted_of job tasks
wanted_without job key ne [] = refl
wanted_without job key ne (task ∷ tasks) =
    let later = wanted_without job key ne tasks in
    by_answer (is_named key task)
    (λ named.
    let other : (task.key.job == job) ≡ false = ne_eqb task.key.job job (λ e. ne (sym (ap (λ (k : TaskKey). k.job) (key_same task.key key named)) ∙ e)) in
    rw (named, other) later)
    (λ unnamed.
    by_answer (task.key.job == job)
    (λ own. rw (unnamed, own) (ap (λ (rest : List WantedTask). task ∷ rest) later))
    (λ other. rw (unnamed, other) later))

-- with one more
module _ (job : ℕ) (key : TaskKey) where
  -- all tasks of a lower job stand before a key, and none behind it
  lower : job < key.job → (tasks : List WantedTask)
      → (wanted_of job (filter (λ task. key_lt task.key key) tasks) ≡ wanted_of job tasks) × (wanted_of job (filter (λ task. key_lt key task.key) tasks) ≡ [])
  lower less [] = (refl, refl)
  lower less (task ∷ tasks) =
      let later = lower less tasks in
      by_answer (task.key.job == job)
      (λ own.
      let is : task.key.job ≡ job = eqb-true _ _ own in
      let before : key_lt task.key key ≡ true = tested_before task.key key (inl (omega (arith, is, less))) in
      (rw (before, own) (ap (λ (rest : List WantedTask). task ∷ rest) later.0), rw (key_asym task.key key before) later.1))
      (λ other. (
        by_answer (key_lt task.key key) (λ t. rw (t, other) later.0) (λ f. rw (f, other) later.0),
        by_answer (key_lt key task.key) (λ t. rw (t, other) later.1) (λ f. rw f later.1),
      ))

  -- those of a higher job stand behind it
  higher : key.job < job → (tasks : List WantedTask)
      → (wanted_of job (filter (λ task. key_lt task.key key) tasks) ≡ []) × (wanted_of job (filter (λ task. key_lt key task.key) tasks) ≡ wanted_of job tasks)
  higher less [] = (refl, refl)
  higher less (task ∷ tasks) =
      let later = higher less tasks in
      by_answer (task.key.job == job)
      (λ own.
      let is : task.key.job ≡ job = eqb-true _ _ own in
      let behind : key_lt key task.key ≡ true = tested_before key task.key (inl (omega (arith, is, less))) in
      (rw (key_asym key task.key behind) later.0, rw (behind, own) (ap (λ (rest : List WantedTask). task ∷ rest) later.1)))
      (λ other. (
        by_answer (key_lt task.key key) (λ t. rw (t, other) later.0) (λ f. rw f later.0),
        by_answer (key_lt key task.key) (λ t. rw (t, other) later.1) (λ f. rw (f, other) later.1),
      ))

  wanted_with : (spec : Spec) → (key.job ≡ job → ⊥) → (tasks : List WantedTask) → wanted_of job (with_wanted key spec tasks) ≡ wanted_of job tasks
  wanted_with spec ne tasks =
      let front = filter (λ (other : WantedTask). key_lt other.key key) tasks in
      let back = filter (λ (other : WantedTask). key_lt key other.key) tasks in
      let apart : wanted_of job (with_wanted key spec tasks) ≡ wanted_of job front ++ wanted_of job back =
      filter-append (is_task_of job) front (record { key = key; spec = spec } ∷ back) ∙ rw (ne_eqb key.job job ne) refl in
      apart ∙ elim (cases_order key.job job) [
        | inl same ↦ absurd (ne same)
        | inr (inl less) ↦ let is = higher less tasks in rw (is.0, is.1) refl
        | inr (inr more) ↦ let is = lower more tasks in rw (is.0, is.1) (append-nil (wanted_of job tasks))
      ]

-- a job stays quiet with a task less of another job
quiet_without : (asked : Asked) (tasks : List Task) (job : ℕ) (key : TaskKey) → (key.job ≡ job → ⊥) → IsQuiet asked tasks job
    → IsQuiet (record asked { tasks = filter (λ task. not (is_named key task)) asked.tasks }) tasks job
quiet_without asked tasks job key ne q = record {
  running = All-filter (λ task. not (is_named key task)) (RunsIfOf job tasks) asked.tasks q.running;
  no_extras = elim q.no_extras [
    | inl e ↦ inl e
    | inr (inl e) ↦ inr (inl (none_filtered (is_task_of job) (λ task. not (is_named key task)) asked.tasks e))
    | inr (inr its) ↦ inr (inr (its_extras_with asked tasks job (filter (λ task. not (is_named key task)) asked.tasks) (wanted_without job key ne asked.tasks) its))
  ];
}

-- so do all that are, with a task less of a job that is open or has no activities
pub others_without : (before after : OpenPlaces) (asked : Asked) (tasks : List Task) (key : TaskKey) → StayOpen before after
    → IsOpen after asked key.job ⊎ (activities_in asked.activities key.job ≡ None) → OthersAreQuiet before asked tasks
    → OthersAreQuiet after (record asked { tasks = filter (λ task. not (is_named key task)) asked.tasks }) tasks
others_without before after asked tasks key stay own quiet place job scheduler at closed =
    let was : IsQuiet asked tasks job = still_quiet before after asked tasks stay quiet place job scheduler at closed in
    elim (cases_eq key.job job) [
      | inr ne ↦ quiet_without asked tasks job key ne was
      | inl e ↦ elim own [
        | inl opened ↦ absurd (both_ways _ closed (opened place scheduler (subst (λ (n : ℕ). StandsAt asked.jobs place n scheduler) (sym e) at)))
        | inr none ↦ record {
          running = All-filter (λ task. not (is_named key task)) (RunsIfOf job tasks) asked.tasks was.running;
          no_extras = inl (subst (λ (j : ℕ). activities_in asked.activities j ≡ None) e none);
        }
      ]
    ]

-- a job stays quiet with a task more of another job
quiet_with : (asked : Asked) (tasks : List Task) (job : ℕ) (key : TaskKey) (spec : Spec) → (key.job ≡ job → ⊥) → IsQuiet asked tasks job
    → IsQuiet (record asked { tasks = with_wanted key spec asked.tasks }) tasks job
quiet_with asked tasks job key spec ne q =
    let P : WantedTask → Type 0 = RunsIfOf job tasks in
    let new : WantedTask = record { key = key; spec = spec } in
    let front = filter (λ other. key_lt other.key key) asked.tasks in
    let back = filter (λ other. key_lt key other.key) asked.tasks in
    record {
      running =
          All-append P front (new ∷ back)
          (All-filter (λ other. key_lt other.key key) P asked.tasks q.running)
          (All-cons P new back (λ t. absurd (ne (eqb-true _ _ t))) (All-filter (λ other. key_lt key other.key) P asked.tasks q.running));
      no_extras = elim q.no_extras [
        | inl e ↦ inl e
        | inr (inl e) ↦ inr (inl (elim (cases_Bool (list_any (is_task_of job) (with_wanted key spec asked.tasks))) [
          | inl d ↦ absurd (both_ways _ e (had_task job key spec asked.tasks ne d))
          | inr d ↦ d
        ]))
        | inr (inr its) ↦ inr (inr (its_extras_with asked tasks job (with_wanted key spec asked.tasks) (wanted_with job key spec ne asked.tasks) its))
      ];
    }

-- with a task more of a job that is open all others are quiet
pub others_with : (before after : OpenPlaces) (asked : Asked) (tasks : List Task) (key : TaskKey) (spec : Spec)
    → StayOpen before after → IsOpen after asked key.job → OthersAreQuiet before asked tasks
    → OthersAreQuiet after (record asked { tasks = with_wanted key spec asked.tasks }) tasks
others_with before after asked tasks key spec stay opened quiet place job scheduler at closed =
    elim (cases_eq key.job job) [
      | inl e ↦ absurd (both_ways _ closed (opened place scheduler (subst (λ (n : ℕ). StandsAt asked.jobs place n scheduler) (sym e) at)))
      | inr ne ↦ quiet_with asked tasks job key spec ne (still_quiet before after asked tasks stay quiet place job scheduler at closed)
    ]

-- a wanted task that is named runs, if it is of a job each of whose wanted tasks runs
named_runs : (tasks : List Task) (job : ℕ) (key : TaskKey) (wanted : List WantedTask) → list_any (is_named key) wanted ≡ true
    → All (RunsIfOf job tasks) wanted → (key.job == job) ≡ true → is_some (task_at tasks key) ≡ true
named_runs tasks job key [] named all own = absurd (cc)
named_runs tasks job key (task ∷ wanted) named all own = elim (or_cases (is_named key task) (list_any (is_named key) wanted) named) [
  | inl here ↦
      subst (λ (k : TaskKey). (k.job == job) ≡ true → is_some (task_at tasks k) ≡ true) (key_same task.key key here)
      (All-head (RunsIfOf job tasks) task wanted all) own
  | inr later ↦ named_runs tasks job key wanted later (All-tail (RunsIfOf job tasks) task wanted all) own
]

-- a job stays quiet where a task that is wanted of one without activities is wanted otherwise
quiet_again : (asked : Asked) (tasks : List Task) (job : ℕ) (key : TaskKey) (spec : Spec) → list_any (is_named key) asked.tasks ≡ true
    → activities_in asked.activities key.job ≡ None → IsQuiet asked tasks job → IsQuiet (record asked { tasks = with_wanted key spec asked.tasks }) tasks job
quiet_again asked tasks job key spec named none q =
    elim (cases_Bool (key.job == job)) [
      | inr ne ↦ quiet_with asked tasks job key spec (λ e. absurd (both_ways _ ne (eq-eqb key.job job e))) q
      | inl own ↦
          let P : WantedTask → Type 0 = RunsIfOf job tasks in
          let new : WantedTask = record { key = key; spec = spec } in
          let front = filter (λ other. key_lt other.key key) asked.tasks in
          let back = filter (λ other. key_lt key other.key) asked.tasks in
          record {
            running =
                All-append P front (new ∷ back)
                (All-filter (λ other. key_lt other.key key) P asked.tasks q.running)
                (All-cons P new back (named_runs tasks job key asked.tasks named q.running) (All-filter (λ other. key_lt key other.key) P asked.tasks q.running));
            no_extras = inl (subst (λ (j : ℕ). activities_in asked.activities j ≡ None) (eqb-true key.job job own) none);
          }
    ]

-- so do all that were
pub others_again : (places : OpenPlaces) (asked : Asked) (tasks : List Task) (key : TaskKey) (spec : Spec) → list_any (is_named key) asked.tasks ≡ true
    → activities_in asked.activities key.job ≡ None → OthersAreQuiet places asked tasks → OthersAreQuiet places (record asked { tasks = with_wanted key spec asked.tasks }) tasks
others_again places asked tasks key spec named none quiet place job scheduler at closed = quiet_again asked tasks job key spec named none (quiet place job scheduler at closed)
