-- What an entry or a claim doesn't touch: the tasks on other machines.
use Rattle.std.proofs.Common.{◌≡◌, ℕ, Bool, true, false, ◌&&◌, not, List, [], ◌∷◌, ◌++◌, Some, None, refl, sym, ap, ◌∙◌, subst, ◌==◌}
use Rattle.std.specs.List.{filter, fold, list_any, zip, AllByRecursion as Each}
use Rattle.std.specs.Option.{option_map_or}
use Rattle.std.proofs.lemmas.Bool.{both_ways, eqb-true, eq-eqb, not_from_false}
use Rattle.std.proofs.lemmas.List.Elements.{filter-append}
use Rattle.std.proofs.lemmas.Option.{same_Some}
use Rattle.omega_model.specs.Applying.{MayPlaceAll, PlacesInOrder}
use Rattle.omega_model.specs.Cell.{Cell, task_at, with_task, without, is_on, keys_of}
use Rattle.omega_model.specs.Judge.{judge_fine, runs_on}
use Rattle.omega_model.specs.Keys.{same_key, key_lt, is_among}
use Rattle.omega_model.specs.Reply.{task_of, tasks_placed, tasks_after_claim, after_claim}
use Rattle.omega_model.specs.State.{excess, ranked_on, tasks_after, goes_on}
use Rattle.omega_model.specs.Touches.{is_placed, touches, places_on}
use Rattle.omega_model.specs.declared.cells.Need.{Need}
use Rattle.omega_model.specs.declared.cells.Task.{Task}
use Rattle.omega_model.specs.declared.cells.TaskKey.{TaskKey}
use Rattle.omega_model.specs.declared.claims.Claim.{Claim}
use Rattle.omega_model.specs.declared.claims.Judgement.{Judgement}
use Rattle.omega_model.specs.declared.claims.Verdict.TheVariants.{Placed}
use Rattle.omega_model.specs.declared.entries.Entry.{Entry}
use Rattle.omega_model.specs.declared.entries.Entry.TheVariants.{Round, MachineAdd, MachineUpdate, MachineRemove, AttrSet, AttrDelete, End, Commit}
use Rattle.omega_model.proofs.InOrder.{key_same}
use Rattle.omega_model.proofs.Lists.{by_answer, each_map, each_both, each_of, each_front, filter_where, each_filter, each_passes, filter_and}
use Rattle.omega_running.specs.declared.orders.Order.TheVariants.{ByKey}
use Rattle.omega_running.specs.Order.{IsInOrder}
use Rattle.omega_board.proofs.Claims.{absent_still}
use Rattle.omega_board.proofs.Parts.{runs_on_is, found_on}
use Rattle.omega_board.proofs.Placed.{placed_so, is_placed-Placed}
use Rattle.omega_board.proofs.Places.{each_place}
use Rattle.omega_running.proofs.Ranked.{each_ranked}
use Rattle.omega_board.proofs.Ranks.{each_here, excess_first}
use Rattle.omega_board.proofs.Tasks.{parted, with_ordered, without_ordered}

-- where the tasks on a machine stay, they are the same
on_kept : (tasks : List Task) (id : ℕ) (p : Task → Bool) → Each (λ t. is_on id t ≡ true → p t ≡ true) tasks → filter (is_on id) (filter p tasks) ≡ filter (is_on id) tasks
on_kept tasks id p stay =
    filter_and (is_on id) p tasks ∙ filter_where (λ t. is_on id t && p t) (is_on id) tasks
    (each_map (λ t. is_on id t ≡ true → p t ≡ true) (λ t. (is_on id t && p t) ≡ is_on id t)
    (λ t stays. by_answer (is_on id t) (λ on. let stayed = stays on in rw (on, stayed) refl) (λ off. rw off refl)) tasks stay)

-- what holds of each name holds of one among them
pub among_each : (P : TaskKey → Type 0) (key : TaskKey) (keys : List TaskKey) → Each P keys → is_among key keys ≡ true → P key
among_each P key [] each among = absurd (both_ways false refl among)
among_each P key (k ∷ keys) each among =
    by_answer (same_key key k)
    (λ t. subst P (sym (key_same key k t)) each.0)
    (λ f. among_each P key keys each.1 (rw f at among))

-- where tasks of one machine stop, another has the same
on_without : (tasks : List Task) (machine id : ℕ) (keys : List TaskKey) → IsInOrder ByKey tasks → (machine == id) ≡ false → Each (λ k. runs_on tasks machine k ≡ true) keys
    → filter (is_on id) (without keys tasks) ≡ filter (is_on id) tasks
on_without tasks machine id keys order differ run =
    on_kept tasks id (λ t. not (is_among t.key keys))
    (each_map (λ t. task_at tasks t.key ≡ Some t) (λ t. is_on id t ≡ true → not (is_among t.key keys) ≡ true)
    (λ t here on. not_from_false _ (by_answer (is_among t.key keys) (λ among. absurd (elsewhere t here on among)) (λ f. f))) tasks (each_here tasks order))
  where
    elsewhere : (t : Task) → task_at tasks t.key ≡ Some t → is_on id t ≡ true → is_among t.key keys ≡ true → ⊥
    elsewhere t here on among =
        let found = found_on tasks machine t.key order (among_each (λ k. runs_on tasks machine k ≡ true) t.key keys run among) in
        let same : found.0 ≡ t = same_Some _ _ (sym found.1 ∙ here) in
        both_ways _ differ (eq-eqb _ _ (sym found.2 ∙ ap (λ (x : Task). x.machine) same ∙ eqb-true _ _ on))

-- what holds of the name of each task holds of each of their names
pub each_keys : (P : TaskKey → Type 0) (tasks : List Task) → Each (λ t. P t.key) tasks → Each P (keys_of tasks)
each_keys P [] each = tt
each_keys P (t ∷ tasks) each = (each.0, each_keys P tasks each.1)

-- the tasks on a machine in order of eviction run there
pub ranked_run : (tasks : List Task) (machine : ℕ) → IsInOrder ByKey tasks → Each (λ t. runs_on tasks machine t.key ≡ true) (ranked_on machine tasks)
ranked_run tasks machine order =
    each_ranked (λ t. runs_on tasks machine t.key ≡ true) (filter (is_on machine) tasks)
    (each_both (λ t. is_on machine t ≡ true) (λ t. task_at tasks t.key ≡ Some t) (λ t. runs_on tasks machine t.key ≡ true)
    (λ t on here. runs_on_is tasks machine t.key order ∙ ap (λ o. option_map_or (λ (x : Task). x.machine == machine) o false) here ∙ on)
    (filter (is_on machine) tasks) (each_passes (is_on machine) tasks) (each_filter (λ t. task_at tasks t.key ≡ Some t) (is_on machine) tasks (each_here tasks order)))

-- so do those in excess
excess_run : (tasks : List Task) (machine : ℕ) (cap : Need) → IsInOrder ByKey tasks
    → Each (λ k. runs_on tasks machine k ≡ true) (keys_of (excess cap (ranked_on machine tasks)))
excess_run tasks machine cap order =
    let first = excess_first cap (ranked_on machine tasks) in
    let P : Task → Type 0 = λ t. runs_on tasks machine t.key ≡ true in
    each_keys (λ k. runs_on tasks machine k ≡ true) (excess cap (ranked_on machine tasks))
    (each_front P (excess cap (ranked_on machine tasks)) first.others (subst (Each P) first.parts (ranked_run tasks machine order)))

-- a task of another machine changes nothing on this one
on_with : (task : Task) (tasks : List Task) (id : ℕ) → task_at tasks task.key ≡ None → IsInOrder ByKey tasks → is_on id task ≡ false → filter (is_on id) (with_task task tasks) ≡ filter (is_on id) tasks
on_with task tasks id absent order away =
    let front = filter (λ o. key_lt o.key task.key) tasks in
    let back = filter (λ o. key_lt task.key o.key) tasks in
    filter-append (is_on id) front (task ∷ back)
    ∙ ap (λ ts. filter (is_on id) front ++ ts) (rw away refl)
    ∙ sym (filter-append (is_on id) front back) ∙ ap (filter (is_on id)) (parted task tasks absent order)

-- a placed claim leaves the tasks in order, and changes the tasks of its own machine alone
pub record IsLocal (tasks after : List Task) (machine : ℕ) : Type 0 where
  pub ordered : IsInOrder ByKey after
  pub elsewhere : (id : ℕ) → (machine == id) ≡ false → filter (is_on id) after ≡ filter (is_on id) tasks

pub claim_local : (cell : Cell) (claim : Claim) (evicted : List TaskKey) → IsInOrder ByKey cell.tasks → judge_fine cell claim ≡ record { verdict = Placed; evicted = evicted }
    → IsLocal cell.tasks (tasks_placed cell.tasks claim evicted) claim.machine
claim_local cell claim evicted order judged =
    let known = placed_so cell claim evicted judged in
    let left = without evicted cell.tasks in
    let left_order = without_ordered evicted cell.tasks order in
    let absent : task_at left claim.key ≡ None = absent_still evicted cell.tasks claim.key known.absent in
    record {
      ordered = with_ordered (task_of claim) left absent left_order;
      elsewhere = λ id differ.
          on_with (task_of claim) left id absent left_order differ
          ∙ on_without cell.tasks claim.machine id evicted order differ
          (each_place (λ k. runs_on cell.tasks claim.machine k ≡ true) evicted (λ place key is. (known.stand place key is).0));
    }

-- a judgement that admits its claim says so
pub admitting : (judgement : Judgement) → is_placed judgement.verdict ≡ true → judgement ≡ record { verdict = Placed; evicted = judgement.evicted }
admitting judgement placed = let is = is_placed-Placed judgement.verdict placed in λ i. record { verdict = is i; evicted = judgement.evicted }

-- placed claims change the tasks of their machines alone
claims_elsewhere : (cell : Cell) (decided : List (Claim × Judgement)) (id : ℕ) → IsInOrder ByKey cell.tasks → MayPlaceAll cell decided → list_any (places_on id) decided ≡ false
    → filter (is_on id) (fold tasks_after_claim cell.tasks decided) ≡ filter (is_on id) cell.tasks
claims_elsewhere cell [] id order places none = refl
claims_elsewhere cell ((claim, judgement) ∷ decided) id order places none =
    by_answer (is_placed judgement.verdict)
    (λ t.
    let local = claim_local cell claim judgement.evicted order (places.0 t ∙ admitting judgement t) in
    let one : tasks_after_claim cell.tasks (claim, judgement) ≡ tasks_placed cell.tasks claim judgement.evicted = rw t refl in
    by_answer (claim.machine == id)
    (λ here. absurd (both_ways true (rw (t, here) at none) refl))
    (λ other.
    claims_elsewhere (after_claim cell (claim, judgement)) decided id (subst (IsInOrder ByKey) (sym one) local.ordered) places.1 (rw (t, other) at none)
    ∙ ap (filter (is_on id)) one ∙ local.elsewhere id other))
    (λ f.
    let one : tasks_after_claim cell.tasks (claim, judgement) ≡ cell.tasks = rw f refl in
    claims_elsewhere (after_claim cell (claim, judgement)) decided id (subst (IsInOrder ByKey) (sym one) order) places.1 (rw f at none)
    ∙ ap (filter (is_on id)) one)

-- a task of another machine goes on where one ends
goes_on_elsewhere : (key : TaskKey) (machine id : ℕ) → (machine == id) ≡ false → (t : Task) → is_on id t ≡ true → goes_on key machine t ≡ true
goes_on_elsewhere key machine id differ t on =
    let away : (t.machine == machine) ≡ false = by_answer (t.machine == machine)
    (λ here. absurd (both_ways _ differ (eq-eqb _ _ (sym (eqb-true _ _ here) ∙ eqb-true _ _ on)))) (λ f. f) in
    by_answer (same_key t.key key) (λ t. rw (t, away) refl) (λ f. rw f refl)

-- a machine that an entry doesn't touch has the tasks that it had
pub tasks_untouched : (cell : Cell) (entry : Entry) → IsInOrder ByKey cell.tasks → PlacesInOrder cell entry → (id : ℕ) → touches id entry ≡ false
    → filter (is_on id) (tasks_after cell.tasks entry) ≡ filter (is_on id) cell.tasks
tasks_untouched cell (Round number) order places id away = refl
tasks_untouched cell (MachineAdd machine cap) order places id away =
    on_without cell.tasks machine id (keys_of (excess cap (ranked_on machine cell.tasks))) order away (excess_run cell.tasks machine cap order)
tasks_untouched cell (MachineUpdate machine cap) order places id away =
    on_without cell.tasks machine id (keys_of (excess cap (ranked_on machine cell.tasks))) order away (excess_run cell.tasks machine cap order)
tasks_untouched cell (MachineRemove machine) order places id away =
    on_without cell.tasks machine id (keys_of (ranked_on machine cell.tasks)) order away
    (each_keys (λ k. runs_on cell.tasks machine k ≡ true) (ranked_on machine cell.tasks) (ranked_run cell.tasks machine order))
tasks_untouched cell (AttrSet machine name value) order places id away = refl
tasks_untouched cell (AttrDelete machine name) order places id away = refl
tasks_untouched cell (End key machine) order places id away =
    on_kept cell.tasks id (goes_on key machine) (each_of _ (goes_on_elsewhere key machine id away) cell.tasks)
tasks_untouched cell (Commit scheduler seen txn reply) order places id away = claims_elsewhere cell (zip txn.claims reply) id order places away
