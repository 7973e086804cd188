-- Jobs that have all the extras that they should have.
use Rattle.std.proofs.Common.{◌≡◌, ℕ, suc, ◌≤◌, ◌-◌, ◌+◌, true, false, List, [], ◌∷◌, Some, length, refl, sym, ap, subst, ◌∙◌, inl, inr, arith}
use Rattle.std.specs.Prelude.{is_some, nat_le}
use Rattle.std.specs.List.{All, IsDistinct, filter, list_any}
use Rattle.std.specs.Cmp.{IsEquivalence}
use Rattle.std.proofs.lemmas.Bool.{and_from, and_parts, eq-eqb, eqb-true, le-leb, leb-true, or_cases, or_left, or_parts, or_right}
use Rattle.std.proofs.lemmas.List.{length-map}
use Rattle.std.proofs.lemmas.List.Elements.{All-cons, All-head, All-nil, All-tail}
use Rattle.std.proofs.lemmas.Map.Made.{length-le_from_is_member}
use Rattle.omega_model.proofs.InOrder.{key_itself, key_same, same_key-sym}
use Rattle.omega_model.proofs.Lists.{by_answer}
use Rattle.omega_model.specs.Cell.{keys_of, task_at}
use Rattle.omega_model.specs.ExtraTasks.{first_extra, is_extra_of, wanted_of}
use Rattle.omega_model.specs.Extras.{extras, target}
use Rattle.omega_model.specs.Keys.{same_key}
use Rattle.omega_model.specs.Wanted.{WantedTask}
use Rattle.omega_model.specs.declared.cells.Need.{Need}
use Rattle.omega_model.specs.declared.cells.Task.{Task}
use Rattle.omega_model.specs.declared.cells.TaskKey.{TaskKey}
use Rattle.omega_model.specs.declared.settings.Extra.{Extra}
use Rattle.omega_running.specs.Kept.{KeysRise}
use Rattle.omega_running.specs.Order.{precedes}
use Rattle.omega_running.specs.declared.orders.Order.TheVariants.{ByKey}
use Rattle.omega_running.proofs.Kept.{rises_filter}
use Rattle.omega_board.proofs.Sounds.{names_distinct}
use Rattle.omega_feed.specs.Asked.{Asked, activities_in, is_task_of}
use Rattle.omega_feed.specs.Open.{HasItsExtras, IsRunningExtra}
use Rattle.omega_feed.proofs.ExtraIndexes.{allowed_within}

-- a job has none wanted, where none is wanted of it
pub none_wanted : (job : ℕ) (tasks : List WantedTask) → list_any (is_task_of job) tasks ≡ false → wanted_of job tasks ≡ []
none_wanted job [] none = refl
none_wanted job (task ∷ tasks) none =
    let parts = or_parts (is_task_of job task) (list_any (is_task_of job) tasks) none in
    rw parts.0 (none_wanted job tasks parts.1)

-- and none is, where it has none
pub wants_none : (job : ℕ) (tasks : List WantedTask) → length (wanted_of job tasks) ≡ 0 → list_any (is_task_of job) tasks ≡ false
wants_none job [] none = refl
wants_none job (task ∷ tasks) none =
    by_answer (is_task_of job task)
    (λ own. absurd (some (length (wanted_of job tasks)) (rw own at none)))
    (λ other. rw other (wants_none job tasks (rw other at none)))
  where
    some : (n : ℕ) → suc n ≡ 0 → ⊥
    some n e = omega (arith, e)

-- where no more are missing there are none
pub none_missing : (choice : Extra) (activities wanted running : ℕ) (need used capacity : Need) → target choice activities wanted ≤ wanted + running
    → extras choice activities wanted running need used capacity ≡ 0
none_missing choice activities wanted running need used capacity enough =
    let bound = allowed_within choice (target choice activities wanted - wanted - running) need used capacity in
    omega (arith, enough, bound)

-- a job's running extras have distinct names
pub extras_once : (job : ℕ) (tasks : List Task) → KeysRise tasks → IsDistinct same_key (keys_of (filter (is_extra_of job) tasks))
extras_once job tasks rise =
    names_distinct (filter (is_extra_of job) tasks) (rises_filter (precedes ByKey) (is_extra_of job) tasks rise)

-- names are of one task or of two
same_names : IsEquivalence same_key
same_names = record {
  refl = key_itself;
  symm = λ a b. by_answer (same_key a b)
      (λ t. t ∙ sym (ap (λ (k : TaskKey). same_key b k) (key_same a b t) ∙ key_itself b))
      (λ f. f ∙ sym (same_key-sym a b f));
  congr = λ a b c t. ap (λ (k : TaskKey). same_key k c) (key_same a b t);
}

-- a task that is found under a job's name of an extra is one of the job's extras
extra_there : (job : ℕ) (key : TaskKey) (tasks : List Task) → key.job ≡ job → first_extra ≤ key.index → is_some (task_at tasks key) ≡ true
    → list_any (same_key key) (keys_of (filter (is_extra_of job) tasks)) ≡ true
extra_there job key [] own high runs = absurd (cc)
extra_there job key (t ∷ ts) own high runs =
    by_answer (same_key t.key key)
    (λ here.
    let is : t.key ≡ key = key_same t.key key here in
    let passes : is_extra_of job t ≡ true =
    and_from _ _ (eq-eqb t.key.job job (ap (λ (k : TaskKey). k.job) is ∙ own))
    (ap (λ (k : TaskKey). nat_le first_extra k.index) is ∙ le-leb first_extra key.index high) in
    rw passes (or_left (same_key key t.key) _ (ap (same_key key) is ∙ key_itself key)))
    (λ other.
    let later = extra_there job key ts own high (rw other at runs) in
    by_answer (is_extra_of job t)
    (λ passes. rw passes (or_right (same_key key t.key) _ later))
    (λ fails. rw fails later))

-- each of some running extras is among all of the job
each_there : (job : ℕ) (tasks : List Task) (keys : List TaskKey) → All (IsRunningExtra tasks job) keys → (key : TaskKey)
    → list_any (same_key key) keys ≡ true → list_any (same_key key) (keys_of (filter (is_extra_of job) tasks)) ≡ true
each_there job tasks [] run key among = absurd (cc)
each_there job tasks (first ∷ keys) run key among = elim (or_cases (same_key key first) (list_any (same_key key) keys) among) [
  | inl here ↦
      let is : key ≡ first = key_same key first here in
      let runs : IsRunningExtra tasks job first = All-head (IsRunningExtra tasks job) first keys run in
      subst (λ (k : TaskKey). list_any (same_key k) (keys_of (filter (is_extra_of job) tasks)) ≡ true) (sym is)
      (extra_there job first tasks runs.job_is runs.extra runs.runs)
  | inr later ↦ each_there job tasks keys (All-tail (IsRunningExtra tasks job) first keys run) key later
]

-- so they are no more
pub few_extras : (job : ℕ) (tasks : List Task) (keys : List TaskKey) → IsDistinct same_key keys → All (IsRunningExtra tasks job) keys
    → length keys ≤ length (filter (is_extra_of job) tasks)
few_extras job tasks keys once run =
    let most : length keys ≤ length (keys_of (filter (is_extra_of job) tasks)) =
    length-le_from_is_member same_names keys (keys_of (filter (is_extra_of job) tasks)) once (each_there job tasks keys run) in
    subst (λ (n : ℕ). length keys ≤ n) (length-map (filter (is_extra_of job) tasks) (λ (task : Task). task.key)) most

-- a task that stands among some runs
runs_among : (key : TaskKey) (tasks : List Task) → list_any (λ (task : Task). same_key task.key key) tasks ≡ true → is_some (task_at tasks key) ≡ true
runs_among key [] among = absurd (cc)
runs_among key (t ∷ ts) among =
    by_answer (same_key t.key key) (λ here. rw here refl) (λ other. rw other (runs_among key ts (rw other at among)))

-- what is left of some tasks by the test of extras are running extras of all
left_run : (job : ℕ) (all tasks : List Task) → ((key : TaskKey) → list_any (λ (task : Task). same_key task.key key) tasks ≡ true → is_some (task_at all key) ≡ true)
    → All (IsRunningExtra all job) (keys_of (filter (is_extra_of job) tasks))
left_run job all [] within = All-nil _
left_run job all (t ∷ ts) within =
    let later = left_run job all ts (λ key among. within key (or_right (same_key t.key key) _ among)) in
    by_answer (is_extra_of job t)
    (λ passes.
    let parts = and_parts _ _ passes in
    rw passes (All-cons (IsRunningExtra all job) t.key (keys_of (filter (is_extra_of job) ts)) (record {
      job_is = eqb-true t.key.job job parts.0;
      extra = leb-true first_extra t.key.index parts.1;
      runs = within t.key (or_left _ _ (key_itself t.key));
    }) later))
    (λ fails. rw fails later)

-- all of a job's extras that run are such
pub extras_run : (job : ℕ) (tasks : List Task) → All (IsRunningExtra tasks job) (keys_of (filter (is_extra_of job) tasks))
extras_run job tasks = left_run job tasks tasks (λ key among. runs_among key tasks among)

-- a job of which so many tasks are wanted gets no extras where and only where it has all that it should have
module _ (asked : Asked) (tasks : List Task) (job activities : ℕ) (has : activities_in asked.activities job ≡ Some activities) (rise : KeysRise tasks) where
  pub has_all_extras : nat_le (target asked.extra activities (length (wanted_of job asked.tasks))) (length (wanted_of job asked.tasks) + length (filter (is_extra_of job) tasks)) ≡ true
      → HasItsExtras asked tasks job
  has_all_extras enough = record {
    activities = activities;
    has = has;
    extras = keys_of (filter (is_extra_of job) tasks);
    once = extras_once job tasks rise;
    run = extras_run job tasks;
    enough = subst (λ (n : ℕ). target asked.extra activities (length (wanted_of job asked.tasks)) ≤ length (wanted_of job asked.tasks) + n)
        (sym (length-map (filter (is_extra_of job) tasks) (λ (task : Task). task.key))) (leb-true _ _ enough);
  }

  pub its_extras_all : HasItsExtras asked tasks job
      → nat_le (target asked.extra activities (length (wanted_of job asked.tasks))) (length (wanted_of job asked.tasks) + length (filter (is_extra_of job) tasks)) ≡ true
  its_extras_all its =
      let few = few_extras job tasks its.extras its.once its.run in
      let same : its.activities ≡ activities = some_same _ _ (sym its.has ∙ has) in
      let enough = subst (λ (n : ℕ). target asked.extra n (length (wanted_of job asked.tasks)) ≤ length (wanted_of job asked.tasks) + length its.extras) same its.enough in
      le-leb _ _ (omega (arith, few, enough))
    where
      some_same : (a b : ℕ) → Some a ≡ Some b → a ≡ b
      some_same a b e = cc
