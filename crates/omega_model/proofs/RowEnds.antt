-- The entries of a task row are ends of tasks, and each of them runs once those before it have ended.
use Rattle.std.proofs.Common.{◌≡◌, ◌≤◌, ◌<◌, ℕ, Bool, true, false, List, [], ◌∷◌, ◌++◌, map, Option, Some, None, refl, sym, ap, subst, ◌∙◌, arith, inr}
use Rattle.std.specs.Prelude.{if◌then◌else◌, option_to_list}
use Rattle.std.specs.List.{filter, fold, zip, AllByRecursion as Each}
use Rattle.std.proofs.lemmas.Bool.{and_parts, eqb-true, leb-true}
use Rattle.std.proofs.lemmas.Option.{none-some, same_Some}
use Rattle.omega_model.proofs.Growing.{state_push}
use Rattle.omega_model.proofs.InOrder.{Rise, key_differs, key_itself, key_same, rise_filter, rise_with, same_key-sym, tested_before}
use Rattle.omega_model.proofs.Lists.{by_answer, each_both, each_filter, each_map, each_passes, found_passes}
use Rattle.omega_model.specs.Cell.{Cell, task_at}
use Rattle.omega_model.specs.ExtraTasks.{ends_of_extras, first_extra, is_extra_of, is_wanted, running_extras}
use Rattle.omega_model.specs.Fields.{TaskFields}
use Rattle.omega_model.specs.Keys.{key_lt, same_key}
use Rattle.omega_model.specs.Reply.{admits, task_of, tasks_after_claim}
use Rattle.omega_model.specs.RowEntries.{task_entries}
use Rattle.omega_model.specs.State.{goes_on, state, step, tasks_after}
use Rattle.omega_model.specs.Wanted.{WantedTask, end_of, ends}
use Rattle.omega_model.specs.declared.cells.Task.{Task}
use Rattle.omega_model.specs.declared.cells.TaskKey.{TaskKey}
use Rattle.omega_model.specs.declared.claims.Claim.{Claim}
use Rattle.omega_model.specs.declared.claims.Judgement.{Judgement}
use Rattle.omega_model.specs.declared.entries.Entry.{Entry}
use Rattle.omega_model.specs.declared.entries.Entry.TheVariants.{Round, MachineAdd, MachineUpdate, MachineRemove, AttrSet, AttrDelete, End, Commit}

-- tasks stay in order of name whatever is answered to claims
claim_rises : (tasks : List Task) (claim : Claim) (judgement : Judgement) → Rise tasks → Rise (tasks_after_claim tasks (claim, judgement))
claim_rises tasks claim judgement rise =
    by_answer (admits judgement)
    (λ t. rw t (rise_with (task_of claim) _ (rise_filter _ tasks rise)))
    (λ f. rw f rise)

claims_rise : (tasks : List Task) (decided : List (Claim × Judgement)) → Rise tasks → Rise (fold tasks_after_claim tasks decided)
claims_rise tasks [] rise = rise
claims_rise tasks ((claim, judgement) ∷ decided) rise =
    claims_rise (tasks_after_claim tasks (claim, judgement)) decided (claim_rises tasks claim judgement rise)

entry_rises : (tasks : List Task) (entry : Entry) → Rise tasks → Rise (tasks_after tasks entry)
entry_rises tasks (Round number) rise = rise
entry_rises tasks (MachineAdd machine cap) rise = rise_filter _ tasks rise
entry_rises tasks (MachineUpdate machine cap) rise = rise_filter _ tasks rise
entry_rises tasks (MachineRemove machine) rise = rise_filter _ tasks rise
entry_rises tasks (AttrSet machine name value) rise = rise
entry_rises tasks (AttrDelete machine name) rise = rise
entry_rises tasks (End key machine) rise = rise_filter _ tasks rise
entry_rises tasks (Commit scheduler seen txn reply) rise = claims_rise tasks (zip txn.claims reply) rise

rises_from : (cell : Cell) (history : List Entry) → Rise cell.tasks → Rise (fold step cell history).tasks
rises_from cell [] rise = rise
rises_from cell (entry ∷ history) rise = rises_from (step cell entry) history (entry_rises cell.tasks entry rise)

-- the running tasks of every history stand in order of name
pub state_rises : (history : List Entry) → Rise (state history).tasks
state_rises history = rises_from _ history tt

-- a search passes over what it doesn't want
found_later : (key : TaskKey) (first task : Task) (tasks : List Task) → same_key first.key key ≡ false → task_at tasks key ≡ Some task
    → task_at (first ∷ tasks) key ≡ Some task
found_later key first task tasks other found = rw other found

-- each of some tasks in order is found by its name
each_found : (tasks : List Task) → Rise tasks → Each (λ task. task_at tasks task.key ≡ Some task) tasks
each_found [] rise = tt
each_found (first ∷ tasks) rise = (
  rw (key_itself first.key) refl,
  each_both (λ task. key_lt first.key task.key ≡ true) (λ task. task_at tasks task.key ≡ Some task) (λ task. task_at (first ∷ tasks) task.key ≡ Some task)
      (λ task less found. found_later task.key first task tasks (key_differs first.key task.key less) found)
      tasks rise.0 (each_found tasks rise.1),
)

-- what is found is found among fewer, if it stays
found_still : (p : Task → Bool) (key : TaskKey) (task : Task) (tasks : List Task) → p task ≡ true → task_at tasks key ≡ Some task
    → task_at (filter p tasks) key ≡ Some task
found_still p key task [] stays found = absurd (none-some task found)
found_still p key task (first ∷ tasks) stays found =
    by_answer (same_key first.key key)
    (λ t. let here : first ≡ task = same_Some first task (rw t at found) in
    let first_stays : p first ≡ true = ap p here ∙ stays in
    rw (first_stays, t) (ap (λ x. Some x) here))
    (λ f. let rest : task_at (filter p tasks) key ≡ Some task = found_still p key task tasks stays (rw f at found) in
    by_answer (p first) (λ t. rw (t, f) rest) (λ g. rw g rest))

-- the end of a running task
abbrev pub end_task : Task → Entry
end_task task = End task.key task.machine

-- these tasks end one after the other: each runs once those before it have ended
abbrev pub EndInTurn : List Entry → List Task → Type 0
EndInTurn history [] = Unit {0}
EndInTurn history (task ∷ some) = (task_at (state history).tasks task.key ≡ Some task) × EndInTurn (history ++ end_task task ∷ []) some

-- these tasks run
abbrev Run : List Entry → List Task → Type 0
Run history some = Each (λ task. task_at (state history).tasks task.key ≡ Some task) some

-- a task that runs still does once another has ended
run_on : (history : List Entry) (ended : Task) (some : List Task) → Each (λ other. key_lt ended.key other.key ≡ true) some → Run history some
    → Run (history ++ end_task ended ∷ []) some
run_on history ended some others run =
    each_both (λ other. key_lt ended.key other.key ≡ true) (λ task. task_at (state history).tasks task.key ≡ Some task)
    (λ task. task_at (state (history ++ end_task ended ∷ [])).tasks task.key ≡ Some task)
    (λ other less runs.
    let apart : same_key other.key ended.key ≡ false = same_key-sym ended.key other.key (key_differs ended.key other.key less) in
    let stays : goes_on ended.key ended.machine other ≡ true = rw apart refl in
    subst (λ (cell : Cell). task_at cell.tasks other.key ≡ Some other) (sym (state_push history (end_task ended)))
    (found_still (goes_on ended.key ended.machine) other.key other (state history).tasks stays runs))
    some others run

-- running tasks in order of name may end one after the other
end_in_turn : (history : List Entry) (some : List Task) → Rise some → Run history some → EndInTurn history some
end_in_turn history [] rise run = tt
end_in_turn history (task ∷ some) rise run =
    (run.0, end_in_turn (history ++ end_task task ∷ []) some rise.1 (run_on history task some rise.0 run.1))

-- an extra's name stands behind that of a task of its job with a lower index
extra_behind : (key : TaskKey) (extra : Task) → key.index < first_extra → is_extra_of key.job extra ≡ true → key_lt key extra.key ≡ true
extra_behind key extra low is =
    let parts = and_parts _ _ is in
    let job : extra.key.job ≡ key.job = eqb-true _ _ parts.0 in
    let high : first_extra ≤ extra.key.index = leb-true _ _ parts.1 in
    tested_before key extra.key (inr (sym job, omega (arith, low, high)))

extras_rise : (history : List Entry) (job : ℕ) → Rise (running_extras (state history) job)
extras_rise history job = rise_filter (is_extra_of job) (state history).tasks (state_rises history)

extras_run : (history : List Entry) (job : ℕ) → Run history (running_extras (state history) job)
extras_run history job =
    each_filter (λ task. task_at (state history).tasks task.key ≡ Some task) (is_extra_of job) (state history).tasks
    (each_found (state history).tasks (state_rises history))

-- the tasks that end where this one does, if it runs: it and the extras of its job, or none of these
abbrev pub stopped_with : Cell → List WantedTask → ℕ → Option Task → List Task
stopped_with cell left job found = option_to_list found ++ (if is_wanted left job then [] else running_extras cell job)

-- the tasks that a task row ends on a cell, where it leaves these tasks wanted
abbrev pub stopped_by : Cell → List WantedTask → TaskFields → List Task
stopped_by cell left row = if ends row.code then stopped_with cell left row.key.job (task_at cell.tasks row.key) else []

stops_with : (cell : Cell) (left : List WantedTask) (job : ℕ) (found : Option Task)
    → end_of found ++ ends_of_extras cell left job ≡ map end_task (stopped_with cell left job found)
stops_with cell left job None = by_answer (is_wanted left job) (λ t. rw t refl) (λ f. rw f refl)
stops_with cell left job (Some task) = by_answer (is_wanted left job) (λ t. rw t refl) (λ f. rw f refl)

-- the entries of a task row are their ends
pub stops : (cell : Cell) (left : List WantedTask) (row : TaskFields) → task_entries cell left row ≡ map end_task (stopped_by cell left row)
stops cell left row =
    by_answer (ends row.code)
    (λ t. rw t (stops_with cell left row.key.job (task_at cell.tasks row.key)))
    (λ f. rw f refl)

stop_with : (history : List Entry) (key : TaskKey) (left : List WantedTask) (found : Option Task) → key.index < first_extra
    → task_at (state history).tasks key ≡ found → EndInTurn history (stopped_with (state history) left key.job found)
stop_with history key left None low is =
    by_answer (is_wanted left key.job)
    (λ t. rw t tt)
    (λ f. rw f (end_in_turn history (running_extras (state history) key.job) (extras_rise history key.job) (extras_run history key.job)))
stop_with history key left (Some task) low is =
    let same : task.key ≡ key = key_same task.key key (found_passes (λ (t : Task). same_key t.key key) (state history).tasks task is) in
    let runs : task_at (state history).tasks task.key ≡ Some task = ap (task_at (state history).tasks) same ∙ is in
    let extras : List Task = running_extras (state history) key.job in
    let behind : Each (λ other. key_lt task.key other.key ≡ true) extras =
    subst (λ (k : TaskKey). Each (λ (other : Task). key_lt k other.key ≡ true) extras) (sym same)
    (each_map (λ other. is_extra_of key.job other ≡ true) (λ other. key_lt key other.key ≡ true) (λ other. extra_behind key other low)
    extras (each_passes (is_extra_of key.job) (state history).tasks)) in
    by_answer (is_wanted left key.job)
    (λ t. rw t (end_in_turn history (task ∷ []) (tt, tt) (runs, tt)))
    (λ f. rw f (end_in_turn history (task ∷ extras) (behind, extras_rise history key.job) (runs, extras_run history key.job)))

-- they end one after the other, where the row's task is none of the extras
pub stop_in_turn : (history : List Entry) (left : List WantedTask) (row : TaskFields) → row.key.index < first_extra
    → EndInTurn history (stopped_by (state history) left row)
stop_in_turn history left row low =
    by_answer (ends row.code)
    (λ t. rw t (stop_with history row.key left (task_at (state history).tasks row.key) low refl))
    (λ f. rw f tt)
