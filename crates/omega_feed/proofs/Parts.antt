-- The wanted tasks of many jobs, those of each job by themselves: what changes at the place of one, and what is found there.
use Rattle.std.proofs.Common.{◌≡◌, ℕ, ◌<◌, ◌≤◌, Bool, true, false, cond, not, ◌&&◌, ◌||◌, ◌==◌, List, [], ◌∷◌, ◌++◌, length, get_or, set, take, drop, zero, suc, refl, ap, sym, subst, ◌∙◌, inl, inr, arith, append_assoc, append-nil, nat_lt}
use Rattle.std.specs.List.{All, filter, flat_map, insert, list_any, AllByRecursion as Each}
use Rattle.std.specs.Prelude.{is_some}
use Rattle.std.proofs.lemmas.Bool.{and_parts, both_ways, cases_Bool, eq-eqb, ne_eqb}
use Rattle.std.proofs.lemmas.List.{set-get_or, take-append-drop}
use Rattle.std.proofs.lemmas.List.Elements.{All-cons, All-head, All-nil, All-tail, filter-append}
use Rattle.omega_model.proofs.Lists.{by_answer, each_filter, each_passes, all_of_each, each_append, each_back, each_front, each_map, filter_every, filter_none, each_at}
use Rattle.omega_model.specs.ExtraTasks.{HasLowIndex, first_extra, is_wanted, wanted_of}
use Rattle.omega_model.specs.Cell.{task_at}
use Rattle.omega_model.specs.Keys.{key_lt}
use Rattle.omega_model.specs.Wanted.{WantedTask, with_wanted, is_named}
use Rattle.omega_model.specs.declared.cells.Spec.{Spec}
use Rattle.omega_model.specs.declared.cells.Task.{Task}
use Rattle.omega_model.specs.declared.cells.TaskKey.{TaskKey}
use Rattle.omega_running.proofs.Lists.{filter_left, filter_right}
use Rattle.omega_feed.specs.Asked.{is_task_of}
use Rattle.omega_feed.specs.Open.{RunsIfOf}
use Rattle.omega_feed.specs.Parts.{AreParts, BelongsAt, IsPlainTaskOf, NeverFall, StandsAt, joined, waiting_jobs}
use Rattle.omega_feed.proofs.KeyOrder.{by_job}

each_insert : (P : ℕ → Type 0) (ns : List ℕ) (i n : ℕ) → Each P ns → P n → Each P (insert ns i n)
each_insert P ns i n e h =
    let parts : Each P (take i ns ++ drop i ns) = subst (Each P) (sym (take-append-drop i ns)) e in
    each_append P (take i ns) (n ∷ drop i ns) (each_front P (take i ns) (drop i ns) parts) (h, each_back P (take i ns) (drop i ns) parts)

pub rise : (jobs : List ℕ) (parts : List (List WantedTask)) → AreParts jobs parts → NeverFall jobs
rise [] parts p i j le less = absurd (omega (arith, less))
rise (k ∷ ks) [] p i j le less = absurd p
rise (k ∷ ks) (ts ∷ rest) p zero zero le less = omega arith
rise (k ∷ ks) (ts ∷ rest) p zero (suc j) le less = let under = each_at (λ n. k < n) ks j 0 p.0 (omega (arith, less)) in omega (arith, under)
rise (k ∷ ks) (ts ∷ rest) p (suc i) zero le less = absurd (omega (arith, le))
rise (k ∷ ks) (ts ∷ rest) p (suc i) (suc j) le less = rise ks rest p.2 i j (omega (arith, le)) (omega (arith, less))

pub as_many : (jobs : List ℕ) (parts : List (List WantedTask)) → AreParts jobs parts → length parts ≡ length jobs
as_many [] [] p = refl
as_many [] (ts ∷ rest) p = absurd p
as_many (j ∷ js) [] p = absurd p
as_many (j ∷ js) (ts ∷ rest) p = let same = as_many js rest p.2 in omega (arith, same)

each_low : (jobs : List ℕ) (parts : List (List WantedTask)) → AreParts jobs parts → Each HasLowIndex (joined parts)
each_low [] [] p = tt
each_low [] (ts ∷ rest) p = absurd p
each_low (j ∷ js) [] p = absurd p
each_low (j ∷ js) (ts ∷ rest) p = each_append HasLowIndex ts (joined rest) (each_map (IsPlainTaskOf j) HasLowIndex (λ task is. is.1) ts p.1) (each_low js rest p.2)

-- none of the tasks is an extra
pub all_low : (jobs : List ℕ) (parts : List (List WantedTask)) → AreParts jobs parts → All HasLowIndex (joined parts)
all_low jobs parts p = all_of_each HasLowIndex (joined parts) (each_low jobs parts p)

-- the tasks of lower and of greater jobs
lower_tasks : (j job : ℕ) (tasks : List WantedTask) → j < job → Each (IsPlainTaskOf j) tasks → Each (λ task. task.key.job < job) tasks
lower_tasks j job tasks under = each_map (IsPlainTaskOf j) (λ task. task.key.job < job) (λ task is. let same = is.0 in omega (arith, same, under)) tasks

greater_tasks : (job : ℕ) (jobs : List ℕ) (parts : List (List WantedTask)) → Each (λ other. job < other) jobs → AreParts jobs parts → Each (λ task. job < task.key.job) (joined parts)
greater_tasks job [] [] e p = tt
greater_tasks job [] (ts ∷ rest) e p = absurd p
greater_tasks job (j ∷ js) [] e p = absurd p
greater_tasks job (j ∷ js) (ts ∷ rest) e p =
    each_append (λ task. job < task.key.job) ts (joined rest)
    (each_map (IsPlainTaskOf j) (λ task. job < task.key.job) (λ task is. let same = is.0 in let under = e.0 in omega (arith, same, under)) ts p.1)
    (greater_tasks job js rest e.1 p.2)

-- the tasks of the job at a place among all, and what becomes of all where others come in their place
pub record Splits (jobs : List ℕ) (parts : List (List WantedTask)) (job place : ℕ) : Type 0 where
  pub before : List WantedTask
  pub after : List WantedTask
  pub lower : Each (λ task. task.key.job < job) before
  pub greater : Each (λ task. job < task.key.job) after
  pub own : Each (IsPlainTaskOf job) (get_or parts place [])
  pub is : joined parts ≡ before ++ (get_or parts place [] ++ after)
  pub set_is : (tasks : List WantedTask) → joined (set parts place tasks) ≡ before ++ (tasks ++ after)
  pub set_parts : (tasks : List WantedTask) → Each (IsPlainTaskOf job) tasks → AreParts jobs (set parts place tasks)

pub splits : (jobs : List ℕ) (parts : List (List WantedTask)) (job place : ℕ) → AreParts jobs parts → StandsAt jobs job place → Splits jobs parts job place
splits [] parts job place p at = absurd (let less = at.0 in omega (arith, less))
splits (j ∷ js) [] job place p at = absurd p
splits (j ∷ js) (ts ∷ rest) job zero p at =
    record {
      before = [];
      after = joined rest;
      lower = tt;
      greater = greater_tasks job js rest (subst (λ n. Each (λ other. n < other) js) at.1 p.0) p.2;
      own = subst (λ n. Each (IsPlainTaskOf n) ts) at.1 p.1;
      is = refl;
      set_is = λ tasks. refl;
      set_parts = λ tasks e. (p.0, subst (λ n. Each (IsPlainTaskOf n) tasks) (sym at.1) e, p.2);
    }
splits (j ∷ js) (ts ∷ rest) job (suc i) p at =
    let less : i < length js = let within = at.0 in omega (arith, within) in
    let r = splits js rest job i p.2 (less, at.1) in
    let under : j < job = subst (λ n. j < n) at.1 (each_at (λ n. j < n) js i 0 p.0 less) in
    record {
      before = ts ++ r.before;
      after = r.after;
      lower = each_append (λ task. task.key.job < job) ts r.before (lower_tasks j job ts under p.1) r.lower;
      greater = r.greater;
      own = r.own;
      is = ap (λ z. ts ++ z) r.is ∙ sym (append_assoc ts r.before (get_or rest i [] ++ r.after));
      set_is = λ tasks. ap (λ z. ts ++ z) (r.set_is tasks) ∙ sym (append_assoc ts r.before (tasks ++ r.after));
      set_parts = λ tasks e. (p.0, p.1, r.set_parts tasks e);
    }

-- a place between the tasks of two jobs, and what becomes of all with a job there that has no tasks
pub record Gap (jobs : List ℕ) (parts : List (List WantedTask)) (job place : ℕ) : Type 0 where
  pub before : List WantedTask
  pub after : List WantedTask
  pub lower : Each (λ task. task.key.job < job) before
  pub greater : Each (λ task. job < task.key.job) after
  pub is : joined parts ≡ before ++ after
  pub put_is : joined (insert parts place []) ≡ joined parts
  pub put_parts : AreParts (insert jobs place job) (insert parts place [])

pub gap : (jobs : List ℕ) (parts : List (List WantedTask)) (job place : ℕ) → AreParts jobs parts → BelongsAt jobs job place → Gap jobs parts job place
gap [] [] job zero p at = record { before = []; after = []; lower = tt; greater = tt; is = refl; put_is = refl; put_parts = (tt, tt, tt) }
gap [] [] job (suc i) p at = absurd (let within = at.0 in omega (arith, within))
gap [] (ts ∷ rest) job place p at = absurd p
gap (j ∷ js) [] job place p at = absurd p
gap (j ∷ js) (ts ∷ rest) job zero p at =
    let under : job < j = at.2 0 (omega arith) (omega arith) in
    let later : Each (λ other. job < other) js = each_map (λ other. j < other) (λ other. job < other) (λ other h. omega (arith, under, h)) js p.0 in
    record {
      before = [];
      after = joined (ts ∷ rest);
      lower = tt;
      greater = greater_tasks job (j ∷ js) (ts ∷ rest) (under, later) p;
      is = refl;
      put_is = refl;
      put_parts = ((under, later), tt, p);
    }
gap (j ∷ js) (ts ∷ rest) job (suc i) p at =
    let within : i ≤ length js = let known = at.0 in omega (arith, known) in
    let r = gap js rest job i p.2 (within, λ k less. at.1 (suc k) (omega (arith, less)), λ k le less. at.2 (suc k) (omega (arith, le)) (omega (arith, less))) in
    let under : j < job = at.1 0 (omega arith) in
    record {
      before = ts ++ r.before;
      after = r.after;
      lower = each_append (λ task. task.key.job < job) ts r.before (lower_tasks j job ts under p.1) r.lower;
      greater = r.greater;
      is = ap (λ z. ts ++ z) r.is ∙ sym (append_assoc ts r.before r.after);
      put_is = ap (λ z. ts ++ z) r.put_is;
      put_parts = (each_insert (λ other. j < other) js i job p.0 under, p.1, r.put_parts);
    }

not_lower : (job : ℕ) (tasks : List WantedTask) → Each (λ task. task.key.job < job) tasks → Each (λ task. is_task_of job task ≡ false) tasks
not_lower job = each_map (λ task. task.key.job < job) (λ task. is_task_of job task ≡ false) (λ task less. ne_eqb _ _ (λ e. omega (arith, e, less)))

not_greater : (job : ℕ) (tasks : List WantedTask) → Each (λ task. job < task.key.job) tasks → Each (λ task. is_task_of job task ≡ false) tasks
not_greater job = each_map (λ task. job < task.key.job) (λ task. is_task_of job task ≡ false) (λ task less. ne_eqb _ _ (λ e. omega (arith, e, less)))

-- the tasks of a job are those at its place
pub part_is : (jobs : List ℕ) (parts : List (List WantedTask)) (job place : ℕ) → AreParts jobs parts → StandsAt jobs job place → get_or parts place [] ≡ filter (is_task_of job) (joined parts)
part_is jobs parts job place p at =
    let s = splits jobs parts job place p at in
    let part : List WantedTask = get_or parts place [] in
    sym (ap (filter (is_task_of job)) s.is
    ∙ filter_right (is_task_of job) s.before (part ++ s.after) (not_lower job s.before s.lower)
    ∙ filter_left (is_task_of job) part s.after (not_greater job s.after s.greater)
    ∙ filter_every (is_task_of job) part (each_map (IsPlainTaskOf job) (λ task. is_task_of job task ≡ true) (λ task is. eq-eqb _ _ is.0) part s.own))

-- a job without a place has none
pub no_part : (jobs : List ℕ) (parts : List (List WantedTask)) (job place : ℕ) → AreParts jobs parts → BelongsAt jobs job place → filter (is_task_of job) (joined parts) ≡ []
no_part jobs parts job place p at =
    let g = gap jobs parts job place p at in
    ap (filter (is_task_of job)) g.is
    ∙ filter_right (is_task_of job) g.before g.after (not_lower job g.before g.lower)
    ∙ filter_none (is_task_of job) g.after (not_greater job g.after g.greater)

-- one part is changed: what all are then
pub record AreNow (jobs : List ℕ) (parts : List (List WantedTask)) (tasks : List WantedTask) : Type 0 where
  pub parts_are : AreParts jobs parts
  pub is : joined parts ≡ tasks

around : {X : Type 0} (before left right after : List X) (x : X) → (before ++ (left ++ [])) ++ x ∷ (right ++ after) ≡ before ++ ((left ++ x ∷ right) ++ after)
around before left right after x =
    ap (λ z. (before ++ z) ++ x ∷ (right ++ after)) (append-nil left)
    ∙ append_assoc before left (x ∷ (right ++ after))
    ∙ ap (λ z. before ++ z) (sym (append_assoc left (x ∷ right) after))

-- a task is put in
pub put_at : (jobs : List ℕ) (parts : List (List WantedTask)) (place : ℕ) (key : TaskKey) (spec : Spec) → AreParts jobs parts → StandsAt jobs key.job place → key.index < first_extra
    → AreNow jobs (set parts place (with_wanted key spec (get_or parts place []))) (with_wanted key spec (joined parts))
put_at jobs parts place key spec p at low =
    let s = splits jobs parts key.job place p at in
    let part : List WantedTask = get_or parts place [] in
    let front : WantedTask → Bool = λ other. key_lt other.key key in
    let back : WantedTask → Bool = λ other. key_lt key other.key in
    let task : WantedTask = record { key = key; spec = spec } in
    let fronts : filter front (joined parts) ≡ s.before ++ (filter front part ++ []) =
    ap (filter front) s.is
    ∙ filter-append front s.before (part ++ s.after)
    ∙ (λ i. filter_every front s.before (each_map (λ t. t.key.job < key.job) (λ t. front t ≡ true) (λ t less. (by_job t.key key less).2) s.before s.lower) i ++ filter-append front part s.after i)
    ∙ ap (λ z. s.before ++ (filter front part ++ z)) (filter_none front s.after (each_map (λ t. key.job < t.key.job) (λ t. front t ≡ false) (λ t less. (by_job key t.key less).3) s.after s.greater)) in
    let backs : filter back (joined parts) ≡ filter back part ++ s.after =
    ap (filter back) s.is
    ∙ filter_right back s.before (part ++ s.after) (each_map (λ t. t.key.job < key.job) (λ t. back t ≡ false) (λ t less. (by_job t.key key less).3) s.before s.lower)
    ∙ filter-append back part s.after
    ∙ ap (λ z. filter back part ++ z) (filter_every back s.after (each_map (λ t. key.job < t.key.job) (λ t. back t ≡ true) (λ t less. (by_job key t.key less).2) s.after s.greater)) in
    let own : Each (IsPlainTaskOf key.job) (with_wanted key spec part) =
    each_append (IsPlainTaskOf key.job) (filter front part) (task ∷ filter back part)
    (each_filter (IsPlainTaskOf key.job) front part s.own) ((refl, low), each_filter (IsPlainTaskOf key.job) back part s.own) in
    record {
      parts_are = s.set_parts (with_wanted key spec part) own;
      is = s.set_is (with_wanted key spec part) ∙ sym ((λ i. fronts i ++ task ∷ backs i) ∙ around s.before (filter front part) (filter back part) s.after task);
    }

-- a task is taken out
pub taken_at : (jobs : List ℕ) (parts : List (List WantedTask)) (place : ℕ) (key : TaskKey) → AreParts jobs parts → StandsAt jobs key.job place
    → AreNow jobs (set parts place (filter (λ task. not (is_named key task)) (get_or parts place []))) (filter (λ task. not (is_named key task)) (joined parts))
taken_at jobs parts place key p at =
    let s = splits jobs parts key.job place p at in
    let part : List WantedTask = get_or parts place [] in
    let stays : WantedTask → Bool = λ task. not (is_named key task) in
    let all : filter stays (joined parts) ≡ s.before ++ (filter stays part ++ s.after) =
    ap (filter stays) s.is
    ∙ filter-append stays s.before (part ++ s.after)
    ∙ (λ i. filter_every stays s.before (each_map (λ t. t.key.job < key.job) (λ t. stays t ≡ true) (λ t less. ap not (by_job t.key key less).5) s.before s.lower) i ++ filter-append stays part s.after i)
    ∙ ap (λ z. s.before ++ (filter stays part ++ z)) (filter_every stays s.after (each_map (λ t. key.job < t.key.job) (λ t. stays t ≡ true) (λ t less. ap not (by_job key t.key less).4) s.after s.greater)) in
    record {
      parts_are = s.set_parts (filter stays part) (each_filter (IsPlainTaskOf key.job) stays part s.own);
      is = s.set_is (filter stays part) ∙ sym all;
    }

-- the tasks at a place
pub found_at : (parts : List (List WantedTask)) (place : ℕ) (tasks : List WantedTask) → place < length parts → tasks ≡ get_or parts place tasks → tasks ≡ get_or parts place []
found_at [] place tasks less e = absurd (omega (arith, less))
found_at (ts ∷ rest) zero tasks less e = e
found_at (ts ∷ rest) (suc i) tasks less e = found_at rest i tasks (omega (arith, less)) e

-- the same, of tasks that were looked up at the place and of what was made of them
module _ (jobs : List ℕ) (parts : List (List WantedTask)) (place : ℕ) (key : TaskKey) (tasks new : List WantedTask) (p : AreParts jobs parts) (at : StandsAt jobs key.job place)
    (found : tasks ≡ get_or parts place tasks) where
  here : tasks ≡ get_or parts place []
  here = let within = at.0 in let same = as_many jobs parts p in found_at parts place tasks (omega (arith, within, same)) found

  pub put_now : (spec : Spec) → key.index < first_extra → new ≡ with_wanted key spec tasks → AreNow jobs (set parts place new) (with_wanted key spec (joined parts))
  put_now spec low is =
      subst (λ (ts : List WantedTask). AreNow jobs (set parts place ts) (with_wanted key spec (joined parts)))
      (sym (is ∙ ap (with_wanted key spec) here))
      (put_at jobs parts place key spec p at low)

  pub taken_now : new ≡ filter (λ task. not (is_named key task)) tasks → AreNow jobs (set parts place new) (filter (λ task. not (is_named key task)) (joined parts))
  taken_now is =
      subst (λ (ts : List WantedTask). AreNow jobs (set parts place ts) (filter (λ task. not (is_named key task)) (joined parts)))
      (sym (is ∙ ap (filter (λ task. not (is_named key task))) here))
      (taken_at jobs parts place key p at)

  pub kept_now : new ≡ tasks → AreNow jobs (set parts place new) (joined parts)
  kept_now is =
      let same : set parts place new ≡ parts = ap (set parts place) (is ∙ here) ∙ set-get_or parts place [] in
      record { parts_are = subst (AreParts jobs) (sym same) p; is = ap joined same }

-- where the task isn't there because its job has no place
pub none_taken : (key : TaskKey) (tasks : List WantedTask) → filter (is_task_of key.job) tasks ≡ [] → tasks ≡ filter (λ task. not (is_named key task)) tasks
none_taken key [] none = refl
none_taken key (t ∷ ts) none =
    by_answer (is_task_of key.job t)
    (λ yes. absurd (let full : t ∷ filter (is_task_of key.job) ts ≡ [] = sym (rw yes refl) ∙ none in cc))
    (λ no. let rest : filter (is_task_of key.job) ts ≡ [] = sym (rw no refl) ∙ none in
    let other : is_named key t ≡ false = rw no refl in
    rw other (ap (λ z. t ∷ z) (none_taken key ts rest)))

-- a test that tasks of one job alone pass finds among those what it finds among all
any_in_part : (p q : WantedTask → Bool) → ((task : WantedTask) → p task ≡ true → q task ≡ true) → (tasks : List WantedTask) → list_any p (filter q tasks) ≡ list_any p tasks
any_in_part p q f [] = refl
any_in_part p q f (t ∷ ts) =
    by_answer (q t)
    (λ yes. rw yes (ap (λ z. p t || z) (any_in_part p q f ts)))
    (λ no. let fails : p t ≡ false = elim (cases_Bool (p t)) [ inl e ↦ absurd (both_ways _ no (f t e)) | inr e ↦ e ] in
    rw (no, fails) (any_in_part p q f ts))

pub named_in_part : (key : TaskKey) (tasks : List WantedTask) → list_any (is_named key) (filter (is_task_of key.job) tasks) ≡ list_any (is_named key) tasks
named_in_part key tasks = any_in_part (is_named key) (is_task_of key.job) (λ task e. (and_parts _ _ e).0) tasks

pub any_of_part : (job : ℕ) (tasks : List WantedTask) → list_any (is_task_of job) (filter (is_task_of job) tasks) ≡ list_any (is_task_of job) tasks
any_of_part job tasks = any_in_part (is_task_of job) (is_task_of job) (λ task e. e) tasks

pub wanted_in_part : (job : ℕ) (tasks : List WantedTask) → is_wanted (filter (is_task_of job) tasks) job ≡ is_wanted tasks job
wanted_in_part job tasks = any_in_part (λ task. task.key.job == job && nat_lt task.key.index first_extra) (is_task_of job) (λ task e. (and_parts _ _ e).0) tasks

pub of_part : (job : ℕ) (tasks : List WantedTask) → wanted_of job (filter (is_task_of job) tasks) ≡ wanted_of job tasks
of_part job tasks = filter_every (is_task_of job) (filter (is_task_of job) tasks) (each_passes (is_task_of job) tasks)

-- all tasks of a job run where those at its place do
pub run_in_part : (job : ℕ) (running : List Task) (tasks : List WantedTask) → All (RunsIfOf job running) (filter (is_task_of job) tasks) → All (RunsIfOf job running) tasks
run_in_part job running [] all = All-nil _
run_in_part job running (t ∷ ts) all = by_cases (is_task_of job t) refl (run_in_part job running ts) all where
  by_cases : (b : Bool) → is_task_of job t ≡ b → (All (RunsIfOf job running) (filter (is_task_of job) ts) → All (RunsIfOf job running) ts)
      → All (RunsIfOf job running) (cond b (t ∷ filter (is_task_of job) ts) (filter (is_task_of job) ts)) → All (RunsIfOf job running) (t ∷ ts)
  by_cases true e rest all = All-cons (RunsIfOf job running) t ts (All-head (RunsIfOf job running) t (filter (is_task_of job) ts) all) (rest (All-tail (RunsIfOf job running) t (filter (is_task_of job) ts) all))
  by_cases false e rest all = All-cons (RunsIfOf job running) t ts (λ is. absurd (both_ways _ e is)) (rest all)

-- the jobs of the tasks that don't run, part by part
pub waiting_both : (running : List Task) (ts others : List WantedTask) → waiting_jobs running (ts ++ others) ≡ waiting_jobs running ts ++ waiting_jobs running others
waiting_both running [] others = refl
waiting_both running (t ∷ ts) others =
    by_answer (not (is_some (task_at running t.key)))
    (λ yes. rw yes (ap (λ z. t.key.job ∷ z) (waiting_both running ts others)))
    (λ no. rw no (waiting_both running ts others))

pub waiting_joined : (running : List Task) (parts : List (List WantedTask)) → flat_map (waiting_jobs running) parts ≡ waiting_jobs running (joined parts)
waiting_joined running [] = refl
waiting_joined running (ts ∷ rest) = ap (λ z. waiting_jobs running ts ++ z) (waiting_joined running rest) ∙ sym (waiting_both running ts (joined rest))
