-- The extra tasks of MapReduce jobs: how many they are, and the indexes of those that run.
use Rattle.std.proofs.Common.{◌≡◌, ℕ, zero, suc, ◌+◌, ◌-◌, ◌*◌, ◌^◌, ◌<◌, ◌≤◌, Bool, true, ◌&&◌, ◌==◌, not, min, List, [], ◌∷◌, Option, Some, None, map, length, refl, ap, inl, inr, arith}
use Rattle.std.specs.List.{filter, last_or, range_with_len, AllByRecursion as Each}
use Rattle.std.specs.Prelude.{is_some, nat_lt, unwrap_or}
use Rattle.std.proofs.lemmas.Bool.{and_parts, eqb-true, leb-true, ltb-true, or_cases}
use Rattle.omega_model.proofs.Lists.{by_answer, each_both, each_map, each_passes}
use Rattle.omega_model.specs.Cell.{Cell, task_at}
use Rattle.omega_model.specs.ExtraTasks.{extra_wish, first_extra, free_indexes, is_extra_of, running_extras, wanted_of, wishes_after, used_in, capacity_in_all}
use Rattle.omega_model.specs.Extras.{allowed, extras, keeps_within, target}
use Rattle.omega_model.specs.Keys.{key_lt}
use Rattle.omega_model.specs.Requests.{is_waiting, request_of}
use Rattle.omega_model.specs.Wanted.{WantedTask}
use Rattle.omega_model.specs.declared.cells.Need.{Need}
use Rattle.omega_model.specs.declared.cells.Task.{Task}
use Rattle.omega_model.specs.declared.rows.Row.{Row}
use Rattle.omega_model.specs.declared.rows.TraceTables.{TraceTables}
use Rattle.omega_model.specs.declared.settings.Extra.{Extra}
use Rattle.omega_model.specs.declared.settings.Extra.TheVariants.{Max, Cap, Relative}
use Rattle.omega_model.specs.declared.settings.Settings.{Settings}
use Rattle.omega_model.specs.declared.wishes.Wish.{Wish}
use Rattle.omega_mapreduce.specs.Counted.{RiseFrom}
use Rattle.omega_running.specs.Kept.{KeysRise}
use Rattle.omega_running.proofs.Kept.{rises_filter}
use Rattle.omega_feed.specs.Asked.{asked_after, extras_after}
use Rattle.omega_feed.specs.Counted.{request_for}

-- what is at most a number that no fewer are, is at most the greatest of 32 bits: beyond that no extra is missing
missing_narrow : (activities wanted running : ℕ) → activities < 2 ^ 32 → activities - min wanted 4294967295 - min running 4294967295 ≡ activities - wanted - running
missing_narrow activities wanted running few = omega (arith, few)

missing_relative : (activities wanted running : ℕ) → activities < 2 ^ 32
    → min activities (4 * min wanted 4294967295) - min wanted 4294967295 - min running 4294967295 ≡ min activities (4 * wanted) - wanted - running
missing_relative activities wanted running few = omega (arith, few)

-- counts beyond 32 bits change nothing
pub extras_narrow : (choice : Extra) (activities wanted running : ℕ) (need used capacity : Need) → activities < 2 ^ 32
    → extras choice activities (min wanted 4294967295) (min running 4294967295) need used capacity ≡ extras choice activities wanted running need used capacity
extras_narrow Max activities wanted running need used capacity few = missing_narrow activities wanted running few
extras_narrow (Cap percent) activities wanted running need used capacity few =
    ap (λ n. allowed (Cap percent) n need used capacity) (missing_narrow activities wanted running few)
extras_narrow Relative activities wanted running need used capacity few = missing_relative activities wanted running few

-- the last of some numbers, or what stood before them, is within a bound that all of them have
last_within : (passes : ℕ → Bool) (most start count : ℕ) (before : Option ℕ) → unwrap_or before 0 ≤ most → start + count ≤ most + 1
    → unwrap_or (last_or before (filter passes (range_with_len start count))) 0 ≤ most
last_within passes most start zero before low within = low
last_within passes most start (suc count) before low within =
    by_answer (passes start)
    (λ t. rw t (last_within passes most (start + 1) count (Some start) (omega (arith, within)) (omega (arith, within))))
    (λ f. rw f (last_within passes most (start + 1) count before low (omega (arith, within))))

-- no more extras are allowed than are missing
pub allowed_within : (choice : Extra) (count : ℕ) (need used capacity : Need) → allowed choice count need used capacity ≤ count
allowed_within Max count need used capacity = omega arith
allowed_within Relative count need used capacity = omega arith
allowed_within (Cap percent) count need used capacity = last_within (keeps_within percent need used capacity) count 0 (count + 1) None (omega arith) (omega arith)

target_within : (choice : Extra) (activities wanted : ℕ) → target choice activities wanted ≤ activities
target_within Max activities wanted = omega arith
target_within (Cap percent) activities wanted = omega arith
target_within Relative activities wanted = omega arith

-- with extras that are asked for there are no more than the activities
pub extras_room : (choice : Extra) (activities wanted running : ℕ) (need used capacity : Need)
    → 0 < extras choice activities wanted running need used capacity → running + extras choice activities wanted running need used capacity ≤ activities
extras_room choice activities wanted running need used capacity some =
    let bound = allowed_within choice (target choice activities wanted - wanted - running) need used capacity in
    let goal = target_within choice activities wanted in
    omega (arith, some, bound, goal)

-- the extras asked for are those of the trace
extras_same : (settings : Settings) (trace : TraceTables) (rows : List Row) (cell : Cell) (tasks : List WantedTask) (job : ℕ) (activities : Option ℕ) (models : List WantedTask)
    → models ≡ wanted_of job tasks
    → extras_after (asked_after settings trace rows) cell job activities models ≡ wishes_after settings trace cell tasks job activities models
extras_same settings trace rows cell tasks job None models same = refl
extras_same settings trace rows cell tasks job (Some activities) [] same = refl
extras_same settings trace rows cell tasks job (Some activities) (model ∷ others) same =
    ap (λ n. map (extra_wish trace model) (free_indexes (map (λ task. task.key.index) (running_extras cell job))
    (extras settings.extra activities n (length (running_extras cell job)) model.spec.need (used_in cell) (capacity_in_all cell)))) (ap length same)

pub extras_asked : (settings : Settings) (trace : TraceTables) (rows : List Row) (cell : Cell) (tasks : List WantedTask) (job : ℕ) (activities : Option ℕ)
    → extras_after (asked_after settings trace rows) cell job activities (wanted_of job tasks) ≡ wishes_after settings trace cell tasks job activities (wanted_of job tasks)
extras_asked settings trace rows cell tasks job activities = extras_same settings trace rows cell tasks job activities (wanted_of job tasks) refl

-- a job's wanted tasks that don't run
pub waiting_of : (cell : Cell) (job : ℕ) (tasks : List WantedTask) → filter (λ task. not (is_some (task_at cell.tasks task.key))) (wanted_of job tasks) ≡ filter (is_waiting cell job) tasks
waiting_of cell job [] = refl
waiting_of cell job (t ∷ ts) =
    by_answer (t.key.job == job)
    (λ own. by_answer (not (is_some (task_at cell.tasks t.key)))
    (λ idle. rw (own, idle) (ap (λ z. t ∷ z) (waiting_of cell job ts)))
    (λ busy. rw (own, busy) (waiting_of cell job ts)))
    (λ other. rw other (waiting_of cell job ts))

-- of two extras of a job the one that stands behind has the greater index
index_above : (job : ℕ) (t u : Task) → is_extra_of job t ≡ true → key_lt t.key u.key ≡ true → is_extra_of job u ≡ true → t.key.index + 1 ≤ u.key.index
index_above job t u one before other =
    let own : t.key.job ≡ job = eqb-true t.key.job job (and_parts _ _ one).0 in
    let its : u.key.job ≡ job = eqb-true u.key.job job (and_parts _ _ other).0 in
    elim (or_cases (nat_lt t.key.job u.key.job) (t.key.job == u.key.job && nat_lt t.key.index u.key.index) before) [
      | inl lower ↦ absurd (same own its (ltb-true _ _ lower))
      | inr later ↦ next (ltb-true _ _ (and_parts _ _ later).1)
    ]
  where
    same : t.key.job ≡ job → u.key.job ≡ job → t.key.job < u.key.job → ⊥
    same own its lower = omega (arith, own, its, lower)

    next : t.key.index < u.key.index → t.key.index + 1 ≤ u.key.index
    next less = omega (arith, less)

-- so the indexes of a job's extras rise
indexes_rise : (job from : ℕ) (tasks : List Task) → KeysRise tasks → Each (λ task. is_extra_of job task ≡ true) tasks → Each (λ (task : Task). from ≤ task.key.index) tasks
    → RiseFrom from (map (λ (task : Task). task.key.index) tasks)
indexes_rise job from [] rise own high = tt
indexes_rise job from (t ∷ ts) rise own high = (
  high.0,
  indexes_rise job (t.key.index + 1) ts rise.1 own.1
      (each_both (λ (u : Task). key_lt t.key u.key ≡ true) (λ u. is_extra_of job u ≡ true) (λ (u : Task). t.key.index + 1 ≤ u.key.index)
      (λ u before is. index_above job t u own.0 before is) ts rise.0 own.1),
)

-- those of its running extras do, from the first index of extras on
pub extras_rise : (job : ℕ) (tasks : List Task) → KeysRise tasks → RiseFrom first_extra (map (λ (task : Task). task.key.index) (filter (is_extra_of job) tasks))
extras_rise job tasks rise =
    let own : Each (λ task. is_extra_of job task ≡ true) (filter (is_extra_of job) tasks) = each_passes (is_extra_of job) tasks in
    indexes_rise job first_extra (filter (is_extra_of job) tasks)
    (rises_filter (λ (a b : Task). key_lt a.key b.key) (is_extra_of job) tasks rise) own
    (each_map (λ task. is_extra_of job task ≡ true) (λ (task : Task). first_extra ≤ task.key.index)
    (λ task is. leb-true first_extra task.key.index (and_parts _ _ is).1) (filter (is_extra_of job) tasks) own)

-- a request that wishes for something
pub asked_for : (job : ℕ) (wishes : List Wish) → (wishes ≡ [] → ⊥) → request_of job wishes ≡ Some (request_for job wishes)
asked_for job [] some = absurd (some refl)
asked_for job (wish ∷ wishes) some = refl
