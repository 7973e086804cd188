-- Which tasks run on after an entry: those that ran and that it may not stop.
use Rattle.std.specs.Prelude.{is_some}
use Rattle.std.proofs.Common.{◌≡◌, Bool, true, false, List, [], ◌∷◌, ◌++◌, refl, sym, ap, subst, ◌∙◌}
use Rattle.std.specs.List.{filter, flat_map, fold, zip}
use Rattle.std.proofs.lemmas.Bool.{not_from_false, or_parts}
use Rattle.std.proofs.lemmas.List.Folds.{list_any-append}
use Rattle.omega_model.proofs.InOrder.{key_same}
use Rattle.omega_model.proofs.Lists.{by_answer, find_filtered}
use Rattle.omega_model.specs.Cell.{keys_of, task_at, total, with_task, without}
use Rattle.omega_model.specs.Keys.{is_among, key_lt, same_key}
use Rattle.omega_model.specs.Need.{fits}
use Rattle.omega_model.specs.Reply.{admits, task_of, tasks_after_claim}
use Rattle.omega_model.specs.State.{excess, goes_on, ranked_on, tasks_after}
use Rattle.omega_model.specs.declared.cells.Need.{Need}
use Rattle.omega_model.specs.declared.cells.Task.{Task}
use Rattle.omega_model.specs.declared.cells.TaskKey.{TaskKey}
use Rattle.omega_model.specs.declared.claims.Claim.{Claim}
use Rattle.omega_model.specs.declared.claims.Judgement.{Judgement}
use Rattle.omega_model.specs.declared.entries.Entry.{Entry}
use Rattle.omega_model.specs.declared.entries.Entry.TheVariants.{Round, MachineAdd, MachineUpdate, MachineRemove, AttrSet, AttrDelete, End, Commit}
use Rattle.omega_running.proofs.InOrder.{key_apart}
use Rattle.omega_board.proofs.Tasks.{found_new, found_still}
use Rattle.omega_opening.specs.Reopening.{may_stop}

-- the task of this name runs
abbrev Runs : List Task → TaskKey → Type 0
Runs tasks key = is_some (task_at tasks key) ≡ true

-- a task that runs does so where others stand behind
runs_front : (xs ys : List Task) (key : TaskKey) → Runs xs key → Runs (xs ++ ys) key
runs_front [] ys key runs = absurd (cc)
runs_front (x ∷ xs) ys key runs =
    by_answer (same_key x.key key) (λ t. rw t refl) (λ f. rw f (runs_front xs ys key (rw f at runs)))

-- and where others stand before it
runs_behind : (xs ys : List Task) (key : TaskKey) → Runs ys key → Runs (xs ++ ys) key
runs_behind [] ys key runs = runs
runs_behind (x ∷ xs) ys key runs =
    by_answer (same_key x.key key) (λ t. rw t refl) (λ f. rw f (runs_behind xs ys key runs))

-- a task that a filter leaves wherever it stands runs on
runs_filtered : (p : Task → Bool) (tasks : List Task) (key : TaskKey) → ((t : Task) → t.key ≡ key → p t ≡ true) → Runs tasks key
    → Runs (filter p tasks) key
runs_filtered p tasks key stays runs =
    ap is_some (find_filtered (λ t. same_key t.key key) p (λ t same. stays t (key_same t.key key same)) tasks) ∙ runs

-- with one more task
runs_with : (task : Task) (tasks : List Task) (key : TaskKey) → Runs tasks key → Runs (with_task task tasks) key
runs_with task tasks key runs =
    let front : List Task = filter (λ o. key_lt o.key task.key) tasks in
    let back : List Task = filter (λ o. key_lt task.key o.key) tasks in
    by_answer (same_key key task.key)
    (λ same.
    subst (λ (k : TaskKey). Runs (with_task task tasks) k) (sym (key_same key task.key same)) (ap is_some (found_new task tasks)))
    (λ other.
    by_answer (key_lt key task.key)
    (λ before.
    runs_front front (task ∷ back) key
    (runs_filtered (λ o. key_lt o.key task.key) tasks key (λ t is. subst (λ (k : TaskKey). key_lt k task.key ≡ true) (sym is) before) runs))
    (λ not_before.
    let behind : key_lt task.key key ≡ true = (rw not_before at (key_apart key task.key)) ∙ not_from_false _ other in
    runs_behind front (task ∷ back) key
    (runs_behind (task ∷ []) back key
    (runs_filtered (λ o. key_lt task.key o.key) tasks key (λ t is. subst (λ (k : TaskKey). key_lt task.key k ≡ true) (sym is) behind) runs))))

-- without others
runs_without : (keys : List TaskKey) (tasks : List Task) (key : TaskKey) → is_among key keys ≡ false → Runs tasks key → Runs (without keys tasks) key
runs_without keys tasks key stays runs = ap is_some (found_still keys tasks key stays) ∙ runs

-- after a claim that doesn't evict it
runs_after_claim : (tasks : List Task) (claim : Claim) (judgement : Judgement) (key : TaskKey) → is_among key judgement.evicted ≡ false → Runs tasks key
    → Runs (tasks_after_claim tasks (claim, judgement)) key
runs_after_claim tasks claim judgement key stays runs =
    by_answer (admits judgement)
    (λ t. rw t (runs_with (task_of claim) _ key (runs_without judgement.evicted tasks key stays runs)))
    (λ f. rw f runs)

-- after claims none of which does
runs_after_claims : (tasks : List Task) (claims : List Claim) (reply : List Judgement) (key : TaskKey)
    → is_among key (flat_map (λ judgement. judgement.evicted) reply) ≡ false → Runs tasks key
    → Runs (fold tasks_after_claim tasks (zip claims reply)) key
runs_after_claims tasks [] reply key stays runs = runs
runs_after_claims tasks (claim ∷ claims) [] key stays runs = runs
runs_after_claims tasks (claim ∷ claims) (judgement ∷ reply) key stays runs =
    let rest : List TaskKey = flat_map (λ (other : Judgement). other.evicted) reply in
    let parts = or_parts (is_among key judgement.evicted) (is_among key rest) (sym (list_any-append (same_key key) judgement.evicted rest) ∙ stays) in
    runs_after_claims (tasks_after_claim tasks (claim, judgement)) claims reply key parts.1
    (runs_after_claim tasks claim judgement key parts.0 runs)

-- a name that isn't among all isn't among those in excess
not_in_excess : (cap : Need) (tasks : List Task) (key : TaskKey) → is_among key (keys_of tasks) ≡ false → is_among key (keys_of (excess cap tasks)) ≡ false
not_in_excess cap [] key none = refl
not_in_excess cap (task ∷ tasks) key none =
    let parts = or_parts (same_key key task.key) (is_among key (keys_of tasks)) none in
    by_answer (fits (total (task ∷ tasks)) cap)
    (λ t. rw t refl)
    (λ f. rw (f, parts.0) (not_in_excess cap tasks key parts.1))

-- after an entry that may not stop it
pub runs_after : (tasks : List Task) (entry : Entry) (key : TaskKey) → is_among key (may_stop tasks entry) ≡ false → Runs tasks key
    → Runs (tasks_after tasks entry) key
runs_after tasks (Round number) key stays runs = runs
runs_after tasks (MachineAdd machine cap) key stays runs =
    runs_without (keys_of (excess cap (ranked_on machine tasks))) tasks key (not_in_excess cap (ranked_on machine tasks) key stays) runs
runs_after tasks (MachineUpdate machine cap) key stays runs =
    runs_without (keys_of (excess cap (ranked_on machine tasks))) tasks key (not_in_excess cap (ranked_on machine tasks) key stays) runs
runs_after tasks (MachineRemove machine) key stays runs = runs_without (keys_of (ranked_on machine tasks)) tasks key stays runs
runs_after tasks (AttrSet machine name value) key stays runs = runs
runs_after tasks (AttrDelete machine name) key stays runs = runs
runs_after tasks (End ended machine) key stays runs =
    let other : same_key key ended ≡ false = (or_parts (same_key key ended) false stays).0 in
    runs_filtered (goes_on ended machine) tasks key
    (λ t is. let apart : same_key t.key ended ≡ false = ap (λ (k : TaskKey). same_key k ended) is ∙ other in rw apart refl) runs
runs_after tasks (Commit scheduler seen txn reply) key stays runs = runs_after_claims tasks txn.claims reply key stays runs
