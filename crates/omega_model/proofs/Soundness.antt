-- The state after each number of entries of a legal history is sound.
use Rattle.std.proofs.Common.{◌≡◌, ℕ, zero, suc, Bool, true, false, not, nat_eq, ◌&&◌, List, [], ◌∷◌, ◌++◌, length, map, take, Option, Some, None, refl, sym, ap, subst, ◌∙◌, ◌==◌}
use Rattle.std.specs.Prelude.{slice_get}
use Rattle.std.specs.List.{filter, fold, zip, IsDistinct, AllByRecursion as Each}
use Rattle.std.proofs.lemmas.Bool.{both_ways, eqb-true, eq-eqb, and_parts, false_from_ne_true}
use Rattle.std.proofs.lemmas.List.Elements.{All-from_recursion}
use Rattle.omega_model.specs.Cell.{Cell, empty_cell, machine_at, with_task, without, total, is_on, use_on, rest_on, keys_of}
use Rattle.omega_model.specs.Judge.{capacity_of, free_without, judge}
use Rattle.omega_model.specs.Keys.{is_among}
use Rattle.omega_model.specs.Legal.{Legal, Follows, Sound}
use Rattle.omega_model.specs.Machines.{numbers_of, change, ensured, added, updated, removed, attr_set, attr_deleted}
use Rattle.omega_model.specs.Need.{Fits, nothing, minus}
use Rattle.omega_model.specs.Reply.{admits, task_of, tasks_placed, tasks_after_claim, judgements, withdrawn_for, first_refused, by_mode}
use Rattle.omega_model.specs.State.{state, step, ranked_on, excess, goes_on}
use Rattle.omega_model.specs.declared.cells.Machine.{Machine}
use Rattle.omega_model.specs.declared.cells.Need.{Need}
use Rattle.omega_model.specs.declared.cells.Task.{Task}
use Rattle.omega_model.specs.declared.cells.TaskKey.{TaskKey}
use Rattle.omega_model.specs.declared.claims.Claim.{Claim}
use Rattle.omega_model.specs.declared.claims.Judgement.{Judgement}
use Rattle.omega_model.specs.declared.claims.Mode.{Mode}
use Rattle.omega_model.specs.declared.claims.Mode.TheVariants.{Incremental, Gang}
use Rattle.omega_model.specs.declared.claims.Rule.{Rule}
use Rattle.omega_model.specs.declared.entries.Entry.{Entry}
use Rattle.omega_model.specs.declared.entries.Entry.TheVariants.{Round, MachineAdd, MachineUpdate, MachineRemove, AttrSet, AttrDelete, End, Commit}
use Rattle.omega_model.proofs.Admitted.{IsAdmitted, admitted}
use Rattle.omega_model.proofs.Amounts.{fits_nothing, fits_trans, fits_beside, fits_tested, plus-nothing, total_fewer, total_with, rest_is}
use Rattle.omega_model.proofs.Growing.{state_push}
use Rattle.omega_model.proofs.InOrder.{key_asym, Rise, rise_filter, rise_with, each_with, names_distinct}
use Rattle.omega_model.proofs.Listed.{up_at, only_machine, numbers_changed, up_changed, up_unchanged, each_changed, listed_up, up_ensured, numbers_ensured, each_ensured}
use Rattle.omega_model.proofs.Lists.{by_answer, each_map, each_both, each_filter, filter_none, filter_and}
use Rattle.omega_model.proofs.Stopping.{rest_fits, none_left}

-- what these tasks use on a machine fits its capacity
abbrev pub IsWithin : List Task → Machine → Type 0
IsWithin tasks machine = Fits (use_on tasks machine.id) machine.cap

-- what the state of a legal history keeps: running tasks in order of name, each on a machine that is up,
-- no machine listed twice, and none used beyond its capacity
pub record Keeps (machines : List Machine) (tasks : List Task) : Type 0 where
  pub order : Rise tasks
  pub placed : Each (λ task. up_at machines task.machine ≡ true) tasks
  pub numbers : IsDistinct nat_eq (numbers_of machines)
  pub within : Each (IsWithin tasks) machines

pub sound_from : (cell : Cell) → Keeps cell.machines cell.tasks → Sound cell
sound_from cell keeps = record {
  keys = names_distinct cell.tasks keeps.order;
  placed = All-from_recursion _ cell.tasks keeps.placed;
  numbers = keeps.numbers;
  within = All-from_recursion _ cell.machines keeps.within;
}

-- some of the tasks use no more
use_fewer : (p : Task → Bool) (tasks : List Task) (id : ℕ) → Fits (use_on (filter p tasks) id) (use_on tasks id)
use_fewer p tasks id =
    subst (λ (n : Need). Fits n (use_on tasks id)) (ap total (sym (filter_and (is_on id) p tasks)))
    (total_fewer (λ t. is_on id t && p t) (is_on id) (λ t both. (and_parts _ _ both).0) tasks)

-- some tasks stop
fewer : (machines : List Machine) (tasks : List Task) (p : Task → Bool) → Keeps machines tasks → Keeps machines (filter p tasks)
fewer machines tasks p keeps = record {
  order = rise_filter p tasks keeps.order;
  placed = each_filter _ p tasks keeps.placed;
  numbers = keeps.numbers;
  within = each_map (IsWithin tasks) (IsWithin (filter p tasks)) (λ m fit. fits_trans _ _ _ (use_fewer p tasks m.id) fit) machines keeps.within;
}

-- no task is on a machine that isn't up
unused : (machines : List Machine) (tasks : List Task) (id : ℕ) → up_at machines id ≡ false → Each (λ task. up_at machines task.machine ≡ true) tasks
    → use_on tasks id ≡ nothing
unused machines tasks id down placed =
    ap total (filter_none (is_on id) tasks (each_map (λ (t : Task). up_at machines t.machine ≡ true) (λ t. is_on id t ≡ false)
    (λ t up. false_from_ne_true _ (λ here. both_ways _ down (ap (up_at machines) (sym (eqb-true _ _ here)) ∙ up))) tasks placed))

-- a machine is appended where it isn't listed
with_machine : (machines : List Machine) (tasks : List Task) (id : ℕ) → Keeps machines tasks → Keeps (ensured id machines) tasks
with_machine machines tasks id keeps = record {
  order = keeps.order;
  placed = each_map (λ t. up_at machines t.machine ≡ true) (λ t. up_at (ensured id machines) t.machine ≡ true)
      (λ t up. up_ensured id machines t.machine up) tasks keeps.placed;
  numbers = numbers_ensured id machines keeps.numbers;
  within = each_ensured (IsWithin tasks) id machines
      (λ absent. subst (λ (n : Need). Fits n nothing) (sym (unused machines tasks id (false_from_ne_true _ (λ up. both_ways _ absent (listed_up machines id up))) keeps.placed)) (fits_nothing nothing))
      keeps.within;
}

-- a listed machine is changed and some tasks stop: those on it that are left fit, and where it isn't up
-- any more, none is on it
changed_keeps : (machines : List Machine) (tasks : List Task) (id : ℕ) (f : Machine → Machine) (p : Task → Bool)
    → ((m : Machine) → (f m).id ≡ m.id)
    → ((m : Machine) → (m.id == id) ≡ true → IsWithin (filter p tasks) m → Fits (use_on (filter p tasks) m.id) (f m).cap)
    → Each (λ task. up_at (change id f machines) task.machine ≡ true) (filter p tasks)
    → Keeps machines tasks → Keeps (change id f machines) (filter p tasks)
changed_keeps machines tasks id f p same fit placed keeps =
    let few = fewer machines tasks p keeps in record {
      order = few.order;
      placed = placed;
      numbers = subst (IsDistinct nat_eq) (sym (numbers_changed id f same machines)) keeps.numbers;
      within = each_changed id f same (IsWithin (filter p tasks)) (IsWithin (filter p tasks))
          (λ m here old. subst (λ n. Fits (use_on (filter p tasks) n) (f m).cap) (sym (same m)) (fit m here old))
          (λ m other old. old) machines few.within;
    }

-- the tasks stay while a listed machine is changed
attrs_keep : (machines : List Machine) (tasks : List Task) (id : ℕ) (f : Machine → Machine)
    → ((m : Machine) → (f m).id ≡ m.id) → ((m : Machine) → (f m).cap ≡ m.cap) → ((m : Machine) → (f m).up ≡ m.up)
    → Keeps machines tasks → Keeps (change id f machines) tasks
attrs_keep machines tasks id f same cap up keeps = record {
  order = keeps.order;
  placed = each_map (λ t. up_at machines t.machine ≡ true) (λ t. up_at (change id f machines) t.machine ≡ true)
      (λ t. up_changed id f same (λ m was. up m ∙ was) machines t.machine) tasks keeps.placed;
  numbers = subst (IsDistinct nat_eq) (sym (numbers_changed id f same machines)) keeps.numbers;
  within = each_changed id f same (IsWithin tasks) (IsWithin tasks)
      (λ m here old. subst (λ n. Fits (use_on tasks n) (f m).cap) (sym (same m)) (subst (Fits (use_on tasks m.id)) (sym (cap m)) old))
      (λ m other old. old) machines keeps.within;
}

-- a machine gets a capacity, and the tasks in excess stop
resized : (machines : List Machine) (tasks : List Task) (id : ℕ) (cap : Need) (f : Machine → Machine)
    → ((m : Machine) → (f m).id ≡ m.id) → ((m : Machine) → (f m).cap ≡ cap) → ((m : Machine) → m.up ≡ true → (f m).up ≡ true)
    → Keeps machines tasks → Keeps (change id f machines) (without (keys_of (excess cap (ranked_on id tasks))) tasks)
resized machines tasks id cap f same capacity up keeps =
    let p : Task → Bool = λ t. not (is_among t.key (keys_of (excess cap (ranked_on id tasks)))) in
    changed_keeps machines tasks id f p same
    (λ m here old. subst (Fits (use_on (filter p tasks) m.id)) (sym (capacity m))
    (subst (λ n. Fits (use_on (filter p tasks) n) cap) (sym (eqb-true _ _ here)) (rest_fits cap id tasks)))
    (each_map (λ t. up_at machines t.machine ≡ true) (λ t. up_at (change id f machines) t.machine ≡ true)
    (λ t. up_changed id f same up machines t.machine) (filter p tasks) (each_filter _ p tasks keeps.placed))
    keeps

-- a machine goes down, and all its tasks stop
taken_down : (machines : List Machine) (tasks : List Task) (id : ℕ) → Keeps machines tasks
    → Keeps (change id removed machines) (without (keys_of (ranked_on id tasks)) tasks)
taken_down machines tasks id keeps =
    let p : Task → Bool = λ t. not (is_among t.key (keys_of (ranked_on id tasks))) in
    changed_keeps machines tasks id removed p (λ m. refl) (λ m here old. old)
    (each_both (λ t. is_on id t ≡ false) (λ t. up_at machines t.machine ≡ true) (λ t. up_at (change id removed machines) t.machine ≡ true)
    (λ t away. up_unchanged id removed (λ m. refl) machines t.machine away)
    (filter p tasks) (none_left id tasks) (each_filter _ p tasks keeps.placed))
    keeps

-- a claim is placed
placed_keeps : (machines : List Machine) (tasks : List Task) (claim : Claim) (gone : List TaskKey) → Keeps machines tasks
    → IsAdmitted (record { machines = machines; tasks = tasks }) claim gone → Keeps machines (tasks_placed tasks claim gone)
placed_keeps machines tasks claim gone keeps known = record {
  order = rise_with task left (rise_filter _ tasks keeps.order);
  placed = each_with (λ t. up_at machines t.machine ≡ true) task left known.up (each_filter _ _ tasks keeps.placed);
  numbers = keeps.numbers;
  within = each_both (IsWithin tasks) (λ m. (m.id == claim.machine) ≡ true → machine_at machines claim.machine ≡ Some m) (IsWithin (with_task task left))
      fitting machines keeps.within (only_machine machines claim.machine (machine_at machines claim.machine) keeps.numbers refl);
}
  where
    task : Task
    task = task_of claim

    left : List Task
    left = without gone tasks

    -- a machine uses no more than before, unless the claim is on it
    fitting : (m : Machine) → IsWithin tasks m → ((m.id == claim.machine) ≡ true → machine_at machines claim.machine ≡ Some m) → IsWithin (with_task task left) m
    fitting m old found =
        let cell : Cell = record { machines = machines; tasks = tasks } in
        let before : Fits (use_on left m.id) m.cap = fits_trans _ _ _ (use_fewer (λ t. not (is_among t.key gone)) tasks m.id) old in
        let sum = total_with (is_on m.id) task left (λ o less. key_asym o.key task.key less) in
        fits_trans _ _ _ sum
        (by_answer (is_on m.id task)
        (λ here. rw here
        (let own : claim.machine ≡ m.id = eqb-true _ _ here in
        let cap : capacity_of (machine_at machines claim.machine) ≡ m.cap = ap capacity_of (found (eq-eqb _ _ (sym own))) in
        let rest : rest_on tasks claim.machine gone ≡ use_on left m.id = ap (λ n. rest_on tasks n gone) own ∙ rest_is tasks m.id gone in
        let free : free_without cell claim gone ≡ minus m.cap (use_on left m.id) = λ i. minus (cap i) (rest i) in
        let fit : Fits claim.spec.need (free_without cell claim gone) = fits_tested _ _ (and_parts _ _ known.room).0 in
        fits_beside claim.spec.need (use_on left m.id) m.cap (subst (Fits claim.spec.need) free fit) before))
        (λ other. rw other (subst (λ (n : Need). Fits n m.cap) (sym (plus-nothing (use_on left m.id))) before)))

-- a claim was answered
answered_keeps : (machines : List Machine) (tasks : List Task) (claim : Claim) (judgement : Judgement) → Keeps machines tasks
    → (admits judgement ≡ true → Keeps machines (tasks_placed tasks claim judgement.evicted))
    → Keeps machines (tasks_after_claim tasks (claim, judgement))
answered_keeps machines tasks claim judgement keeps placed =
    by_answer (admits judgement) (λ t. rw t (placed t)) (λ f. rw f keeps)

judged_keeps : (history : List Entry) (seen : ℕ) (machines : List Machine) (tasks : List Task) (rule : Rule) (claim : Claim) → Keeps machines tasks
    → Keeps machines (tasks_after_claim tasks (claim, judge history seen (record { machines = machines; tasks = tasks }) rule claim))
judged_keeps history seen machines tasks rule claim keeps =
    let cell : Cell = record { machines = machines; tasks = tasks } in
    answered_keeps machines tasks claim (judge history seen cell rule claim) keeps
    (λ t. placed_keeps machines tasks claim (judge history seen cell rule claim).evicted keeps (admitted history seen cell rule claim t))

-- claims were judged in order
claims_keep : (history : List Entry) (seen : ℕ) (machines : List Machine) (tasks : List Task) (rule : Rule) (claims : List Claim) → Keeps machines tasks
    → Keeps machines (fold tasks_after_claim tasks (zip claims (judgements history seen (record { machines = machines; tasks = tasks }) rule claims)))
claims_keep history seen machines tasks rule [] keeps = keeps
claims_keep history seen machines tasks rule (claim ∷ claims) keeps =
    claims_keep history seen machines
    (tasks_after_claim tasks (claim, judge history seen (record { machines = machines; tasks = tasks }) rule claim)) rule claims
    (judged_keeps history seen machines tasks rule claim keeps)

-- a withdrawn claim changes no task
pub withdrawn_same : (place : ℕ) (tasks : List Task) (claims : List Claim) (reply : List Judgement)
    → fold tasks_after_claim tasks (zip claims (map (withdrawn_for place) reply)) ≡ tasks
withdrawn_same place tasks [] reply = refl
withdrawn_same place tasks (claim ∷ claims) [] = refl
withdrawn_same place tasks (claim ∷ claims) (judgement ∷ reply) =
    ap (λ ts. fold tasks_after_claim ts (zip claims (map (withdrawn_for place) reply)))
    (by_answer (admits judgement) (λ t. rw t refl) (λ f. rw f (rw f refl)))
    ∙ withdrawn_same place tasks claims reply

-- a transaction was answered
reply_keeps : (history : List Entry) (seen : ℕ) (machines : List Machine) (tasks : List Task) (rule : Rule) (mode : Mode) (claims : List Claim) → Keeps machines tasks
    → Keeps machines (fold tasks_after_claim tasks (zip claims (by_mode mode (judgements history seen (record { machines = machines; tasks = tasks }) rule claims))))
reply_keeps history seen machines tasks rule Incremental claims keeps = claims_keep history seen machines tasks rule claims keeps
reply_keeps history seen machines tasks rule Gang claims keeps =
    let told = judgements history seen (record { machines = machines; tasks = tasks }) rule claims in
    by_answer (first_refused told == length told)
    (λ t. rw t (claims_keep history seen machines tasks rule claims keeps))
    (λ f. rw f (subst (Keeps machines) (sym (withdrawn_same (first_refused told) tasks claims told)) keeps))

-- one more entry
step_keeps : (before : List Entry) (entry : Entry) → Follows before entry → Keeps (state before).machines (state before).tasks
    → Keeps (step (state before) entry).machines (step (state before) entry).tasks
step_keeps before (Round number) follows keeps = keeps
step_keeps before (MachineAdd machine cap) follows keeps =
    resized (ensured machine (state before).machines) (state before).tasks machine cap (added cap) (λ m. refl) (λ m. refl) (λ m up. refl)
    (with_machine (state before).machines (state before).tasks machine keeps)
step_keeps before (MachineUpdate machine cap) follows keeps =
    resized (ensured machine (state before).machines) (state before).tasks machine cap (updated cap) (λ m. refl) (λ m. refl) (λ m up. up)
    (with_machine (state before).machines (state before).tasks machine keeps)
step_keeps before (MachineRemove machine) follows keeps =
    taken_down (ensured machine (state before).machines) (state before).tasks machine
    (with_machine (state before).machines (state before).tasks machine keeps)
step_keeps before (AttrSet machine name value) follows keeps =
    attrs_keep (ensured machine (state before).machines) (state before).tasks machine (attr_set name value) (λ m. refl) (λ m. refl) (λ m. refl)
    (with_machine (state before).machines (state before).tasks machine keeps)
step_keeps before (AttrDelete machine name) follows keeps =
    attrs_keep (ensured machine (state before).machines) (state before).tasks machine (attr_deleted name) (λ m. refl) (λ m. refl) (λ m. refl)
    (with_machine (state before).machines (state before).tasks machine keeps)
step_keeps before (End key machine) follows keeps = fewer (state before).machines (state before).tasks (goes_on key machine) keeps
step_keeps before (Commit scheduler seen txn reply) follows keeps =
    subst (λ told. Keeps (state before).machines (fold tasks_after_claim (state before).tasks (zip txn.claims told))) (sym follows.1)
    (reply_keeps before seen (state before).machines (state before).tasks txn.rule txn.mode txn.claims keeps)

empty_keeps : Keeps empty_cell.machines empty_cell.tasks
unfolding IsDistinct
empty_keeps = record { order = tt; placed = tt; numbers = tt; within = tt }

-- the entries before a place and the one there
taken_more : (history : List Entry) (n : ℕ) (entry : Entry) → slice_get history n ≡ Some entry → take (suc n) history ≡ take n history ++ entry ∷ []
taken_more [] n entry is = absurd (cc is)
taken_more (first ∷ history) zero entry is = let same : first ≡ entry = cc is in ap (λ e. e ∷ []) same
taken_more (first ∷ history) (suc n) entry is = ap (λ es. first ∷ es) (taken_more history n entry is)

-- behind the end there is nothing more to take
taken_all : (history : List Entry) (n : ℕ) → slice_get history n ≡ None → take (suc n) history ≡ take n history
taken_all [] zero none = refl
taken_all [] (suc n) none = refl
taken_all (first ∷ history) zero none = absurd (cc none)
taken_all (first ∷ history) (suc n) none = ap (λ es. first ∷ es) (taken_all history n none)

states_keep : (history : List Entry) → Legal history → (n : ℕ) → Keeps (state (take n history)).machines (state (take n history)).tasks
states_keep history legal zero = empty_keeps
states_keep history legal (suc n) = next (slice_get history n) refl (states_keep history legal n)
  where
    next : (o : Option Entry) → slice_get history n ≡ o → Keeps (state (take n history)).machines (state (take n history)).tasks
        → Keeps (state (take (suc n) history)).machines (state (take (suc n) history)).tasks
    next None is keeps = subst (λ es. Keeps (state es).machines (state es).tasks) (sym (taken_all history n is)) keeps
    next (Some entry) is keeps =
        subst (λ es. Keeps (state es).machines (state es).tasks) (sym (taken_more history n entry is))
        (subst (λ (cell : Cell). Keeps cell.machines cell.tasks) (sym (state_push (take n history) entry))
        (step_keeps (take n history) entry (legal n entry is) keeps))

-- no state of a legal history is unsound
pub states_sound : (history : List Entry) → Legal history → (n : ℕ) → Sound (state (take n history))
states_sound history legal n = sound_from (state (take n history)) (states_keep history legal n)
