-- What the states of a history keep, each of whose entries could be applied to the state before it.
use Rattle.std.proofs.Common.{◌≡◌, ℕ, ◌+◌, ◌<◌, ◌≤◌, inl, inr, List, [], ◌∷◌, ◌++◌, length, map, take, slice_get, Some, refl, sym, ap, ap₂, ◌∙◌, subst, arith, append_assoc, length-append, ◌==◌}
use Rattle.std.specs.List.{filter, fold, zip, AllByRecursion as Each}
use Rattle.std.proofs.lemmas.Bool.{both_ways}
use Rattle.std.proofs.lemmas.List.{length-map, take_all}
use Rattle.omega_model.specs.Applying.{EachMayApply, MayApply, MayPlaceAll, ListsOrHasRoom}
use Rattle.omega_model.specs.Cell.{Cell, empty_cell, keys_of}
use Rattle.omega_model.specs.Fields.{greatest}
use Rattle.omega_model.specs.Judge.{judge_fine}
use Rattle.omega_model.specs.Legal.{Legal, Follows, Sound}
use Rattle.omega_model.specs.Machines.{is_listed, change, ensured, new_machine, added, updated, removed, attr_set, attr_deleted}
use Rattle.omega_model.specs.Need.{Fits}
use Rattle.omega_model.specs.Reply.{admits, tasks_after_claim, after_claim, judgements}
use Rattle.omega_model.specs.State.{state, step, displaced, goes_on}
use Rattle.omega_model.specs.Touches.{seq}
use Rattle.omega_model.specs.declared.cells.Machine.{Machine}
use Rattle.omega_model.specs.declared.cells.Task.{Task}
use Rattle.omega_model.specs.declared.claims.Claim.{Claim}
use Rattle.omega_model.specs.declared.claims.Judgement.{Judgement}
use Rattle.omega_model.specs.declared.claims.Mode.TheVariants.{Incremental}
use Rattle.omega_model.specs.declared.claims.Rule.TheVariants.{Fine}
use Rattle.omega_model.specs.declared.entries.Entry.{Entry}
use Rattle.omega_model.specs.declared.entries.Entry.TheVariants.{Round, MachineAdd, MachineUpdate, MachineRemove, AttrSet, AttrDelete, End, Commit}
use Rattle.omega_model.proofs.Growing.{state_push, legal_push}
use Rattle.omega_model.proofs.Lists.{by_answer, each_append}
use Rattle.omega_model.proofs.Soundness.{states_sound}
use Rattle.omega_running.specs.declared.orders.Order.TheVariants.{ByKey}
use Rattle.omega_running.specs.Order.{IsInOrder, precedes}
use Rattle.omega_running.proofs.Kept.{rises_filter}
use Rattle.omega_board.proofs.Tasks.{without_ordered}
use Rattle.omega_board.proofs.Untouched.{admitting, claim_local}

-- each of these entries may be applied to the cell after those before it
abbrev pub MayAll : Cell → List Entry → Type 0
MayAll cell [] = Unit {0}
MayAll cell (entry ∷ later) = ((seqs : ℕ → ℕ) × MayApply cell seqs entry) × MayAll (step cell entry) later

-- behind others, an entry stands at their number
behind_at : {X : Type 0} (xs : List X) (y : X) (ys : List X) → slice_get (xs ++ y ∷ ys) (length xs) ≡ Some y
behind_at [] y ys = refl
behind_at (x ∷ xs) y ys = behind_at xs y ys

front_of : {X : Type 0} (xs ys : List X) → take (length xs) (xs ++ ys) ≡ xs
front_of [] ys = refl
front_of (x ∷ xs) ys = ap (λ zs. x ∷ zs) (front_of xs ys)

pub may_all : (before later : List Entry) → EachMayApply (before ++ later) → MayAll (state before) later
may_all before [] may = tt
may_all before (entry ∷ later) may =
    let one : MayApply (state (take (length before) (before ++ entry ∷ later))) (seq (take (length before) (before ++ entry ∷ later))) entry =
    may (length before) entry (behind_at before entry later) in
    let here : MayApply (state before) (seq before) entry = subst (λ h. MayApply (state h) (seq h) entry) (front_of before (entry ∷ later)) one in
    let rest : MayAll (state (before ++ entry ∷ [])) later = may_all (before ++ entry ∷ []) later (subst EachMayApply (sym (append_assoc before (entry ∷ []) later)) may) in
    ((seq before, here), subst (λ (c : Cell). MayAll c later) (state_push before entry) rest)

pub may_front : (cell : Cell) (front back : List Entry) → MayAll cell (front ++ back) → MayAll cell front
may_front cell [] back may = tt
may_front cell (entry ∷ front) back may = (may.0, may_front (step cell entry) front back may.1)

pub may_back : (cell : Cell) (front back : List Entry) → MayAll cell (front ++ back) → MayAll (fold step cell front) back
may_back cell [] back may = may
may_back cell (entry ∷ front) back may = may_back (step cell entry) front back may.1

-- a legal history goes the same way: its commits claim, under the fine rule and one by one, what was placed
abbrev placed_of : List (Claim × Judgement) → List (Claim × Judgement)
placed_of decided = filter (λ d. admits d.1) decided

abbrev as_fine : Entry → Entry
as_fine (Commit scheduler seen txn reply) =
    Commit scheduler 0 (record { job = txn.job; rule = Fine; mode = Incremental; claims = map (λ d. d.0) (placed_of (zip txn.claims reply)) })
    (map (λ d. d.1) (placed_of (zip txn.claims reply)))
as_fine (Round number) = Round number
as_fine (MachineAdd machine cap) = MachineAdd machine cap
as_fine (MachineUpdate machine cap) = MachineUpdate machine cap
as_fine (MachineRemove machine) = MachineRemove machine
as_fine (AttrSet machine name value) = AttrSet machine name value
as_fine (AttrDelete machine name) = AttrDelete machine name
as_fine (End key machine) = End key machine

zip_apart : (ds : List (Claim × Judgement)) → zip (map (λ d. d.0) ds) (map (λ d. d.1) ds) ≡ ds
zip_apart [] = refl
zip_apart (d ∷ ds) = ap (λ es. d ∷ es) (zip_apart ds)

only_placed : (tasks : List Task) (decided : List (Claim × Judgement)) → fold tasks_after_claim tasks (placed_of decided) ≡ fold tasks_after_claim tasks decided
only_placed tasks [] = refl
only_placed tasks ((claim, judgement) ∷ decided) =
    by_answer (admits judgement)
    (λ t.
    let kept : placed_of ((claim, judgement) ∷ decided) ≡ (claim, judgement) ∷ placed_of decided = rw t refl in
    ap (fold tasks_after_claim tasks) kept ∙ only_placed (tasks_after_claim tasks (claim, judgement)) decided)
    (λ f.
    let kept : placed_of ((claim, judgement) ∷ decided) ≡ placed_of decided = rw f refl in
    let same : tasks_after_claim tasks (claim, judgement) ≡ tasks = rw f refl in
    ap (fold tasks_after_claim tasks) kept ∙ only_placed tasks decided ∙ ap (λ ts. fold tasks_after_claim ts decided) (sym same))

fine_step : (cell : Cell) (entry : Entry) → step cell (as_fine entry) ≡ step cell entry
fine_step cell (Round number) = refl
fine_step cell (MachineAdd machine cap) = refl
fine_step cell (MachineUpdate machine cap) = refl
fine_step cell (MachineRemove machine) = refl
fine_step cell (AttrSet machine name value) = refl
fine_step cell (AttrDelete machine name) = refl
fine_step cell (End key machine) = refl
fine_step cell (Commit scheduler seen txn reply) =
    let same : fold tasks_after_claim cell.tasks (zip (map (λ d. d.0) (placed_of (zip txn.claims reply))) (map (λ d. d.1) (placed_of (zip txn.claims reply)))) ≡ fold tasks_after_claim cell.tasks (zip txn.claims reply) =
    ap (fold tasks_after_claim cell.tasks) (zip_apart (placed_of (zip txn.claims reply))) ∙ only_placed cell.tasks (zip txn.claims reply) in
    λ i. record { machines = cell.machines; tasks = same i }

fine_judged : (before : List Entry) (cell : Cell) (decided : List (Claim × Judgement)) → MayPlaceAll cell decided
    → map (λ d. d.1) (placed_of decided) ≡ judgements before 0 cell Fine (map (λ d. d.0) (placed_of decided))
fine_judged before cell [] may = refl
fine_judged before cell ((claim, judgement) ∷ decided) may =
    by_answer (admits judgement)
    (λ t.
    let told : judge_fine cell claim ≡ judgement = may.0 t in
    let rest = fine_judged before (after_claim cell (claim, judgement)) decided may.1 in
    rw t (ap₂ (λ (j : Judgement) js. j ∷ js) (sym told) (rest ∙ ap (λ (j : Judgement). judgements before 0 (after_claim cell (claim, j)) Fine (map (λ d. d.0) (placed_of decided))) (sym told))))
    (λ f.
    let same : after_claim cell (claim, judgement) ≡ cell = rw f refl in
    rw f (fine_judged before cell decided (subst (λ (c : Cell). MayPlaceAll c decided) same may.1)))

fine_follows : (before : List Entry) (entry : Entry) (seqs : ℕ → ℕ) → MayApply (state before) seqs entry → Follows before (as_fine entry)
fine_follows before (Round number) seqs may = tt
fine_follows before (MachineAdd machine cap) seqs may = tt
fine_follows before (MachineUpdate machine cap) seqs may = tt
fine_follows before (MachineRemove machine) seqs may = tt
fine_follows before (AttrSet machine name value) seqs may = tt
fine_follows before (AttrDelete machine name) seqs may = tt
fine_follows before (End key machine) seqs may = tt
fine_follows before (Commit scheduler seen txn reply) seqs may = (omega arith, fine_judged before (state before) (zip txn.claims reply) may.places)

fine_legal : (before later : List Entry) → Legal before → MayAll (state before) later → Legal (before ++ map as_fine later) × (state (before ++ map as_fine later) ≡ fold step (state before) later)
fine_legal before [] legal may = (subst Legal (sym (append-nil before)) legal, ap state (append-nil before))
  where
    append-nil : (xs : List Entry) → xs ++ [] ≡ xs
    append-nil [] = refl
    append-nil (x ∷ xs) = ap (λ ys. x ∷ ys) (append-nil xs)
fine_legal before (entry ∷ later) legal may =
    let next : List Entry = before ++ as_fine entry ∷ [] in
    let stepped : state next ≡ step (state before) entry = state_push before (as_fine entry) ∙ fine_step (state before) entry in
    let rest = fine_legal next later (legal_push before (as_fine entry) legal (fine_follows before entry may.0.0 may.0.1)) (subst (λ (c : Cell). MayAll c later) (sym stepped) may.1) in
    let same : next ++ map as_fine later ≡ before ++ as_fine entry ∷ map as_fine later = append_assoc before (as_fine entry ∷ []) (map as_fine later) in (
      subst Legal same rest.0,
      ap state (sym same) ∙ rest.1 ∙ ap (λ (c : Cell). fold step c later) stepped,
    )

-- so the state is sound
pub applied_sound : (history : List Entry) → MayAll empty_cell history → Sound (state history)
applied_sound history may =
    let legal = fine_legal [] history (λ place entry is. absurd (cc)) may in
    let all : take (length (map as_fine history)) (map as_fine history) ≡ map as_fine history = take_all (length (map as_fine history)) (map as_fine history) (omega arith) in
    subst Sound (ap state all ∙ legal.1) (states_sound (map as_fine history) legal.0 (length (map as_fine history)))

-- its tasks are in order, its machines are few, and their capacities are in range
pub record IsHeld (cell : Cell) : Type 0 where
  pub ordered : IsInOrder ByKey cell.tasks
  pub few : length cell.machines ≤ 65536
  pub caps : Each (λ row. Fits row.cap greatest) cell.machines

claims_ordered : (cell : Cell) (decided : List (Claim × Judgement)) → IsInOrder ByKey cell.tasks → MayPlaceAll cell decided → IsInOrder ByKey (fold tasks_after_claim cell.tasks decided)
claims_ordered cell [] order may = order
claims_ordered cell ((claim, judgement) ∷ decided) order may =
    claims_ordered (after_claim cell (claim, judgement)) decided
    (by_answer (admits judgement)
    (λ t. rw t (claim_local cell claim judgement.evicted order (may.0 t ∙ admitting judgement t)).ordered)
    (λ f. rw f order))
    may.1

few_changed : (id : ℕ) (f : Machine → Machine) (machines : List Machine) → length machines ≤ 65536 → ListsOrHasRoom machines id → length (change id f (ensured id machines)) ≤ 65536
few_changed id f machines few room =
    let long : length (change id f (ensured id machines)) ≡ length (ensured id machines) = length-map (ensured id machines) _ in
    by_answer (is_listed id machines)
    (λ t. let same : ensured id machines ≡ machines = rw t refl in omega (arith, long, few, ap length same))
    (λ f'.
    let more : ensured id machines ≡ machines ++ new_machine id ∷ [] = rw f' refl in
    let less : length machines < 65536 = elim room [ inl h ↦ h | inr h ↦ absurd (both_ways _ f' h) ] in
    let one : length (machines ++ new_machine id ∷ []) ≡ length machines + 1 = length-append machines (new_machine id ∷ []) in
    omega (arith, long, ap length more, one, less))

caps_changed : (id : ℕ) (f : Machine → Machine) → ((m : Machine) → Fits m.cap greatest → Fits (f m).cap greatest) → (machines : List Machine) → Each (λ row. Fits row.cap greatest) machines
    → Each (λ row. Fits row.cap greatest) (change id f (ensured id machines))
caps_changed id f keeps machines caps =
    changed_caps (ensured id machines)
    (by_answer (is_listed id machines)
    (λ t. rw t caps)
    (λ e. rw e (each_append (λ row. Fits row.cap greatest) machines (new_machine id ∷ []) caps ((omega arith, (omega arith, omega arith)), tt))))
  where
    changed_caps : (ms : List Machine) → Each (λ row. Fits row.cap greatest) ms → Each (λ row. Fits row.cap greatest) (change id f ms)
    changed_caps [] each = tt
    changed_caps (m ∷ ms) each =
        by_answer (m.id == id) (λ t. rw t (keeps m each.0, changed_caps ms each.1)) (λ e. rw e (each.0, changed_caps ms each.1))

held_step : (cell : Cell) (entry : Entry) (seqs : ℕ → ℕ) → MayApply cell seqs entry → IsHeld cell → IsHeld (step cell entry)
held_step cell (Round number) seqs may held = held
held_step cell (MachineAdd machine cap) seqs may held = record {
  ordered = without_ordered (keys_of (displaced cell.tasks (MachineAdd machine cap))) cell.tasks held.ordered;
  few = few_changed machine (added cap) cell.machines held.few may.machines;
  caps = caps_changed machine (added cap) (λ m _. may.capacity) cell.machines held.caps;
}
held_step cell (MachineUpdate machine cap) seqs may held = record {
  ordered = without_ordered (keys_of (displaced cell.tasks (MachineUpdate machine cap))) cell.tasks held.ordered;
  few = few_changed machine (updated cap) cell.machines held.few may.machines;
  caps = caps_changed machine (updated cap) (λ m _. may.capacity) cell.machines held.caps;
}
held_step cell (MachineRemove machine) seqs may held = record {
  ordered = without_ordered (keys_of (displaced cell.tasks (MachineRemove machine))) cell.tasks held.ordered;
  few = few_changed machine removed cell.machines held.few may.machines;
  caps = caps_changed machine removed (λ m fits. fits) cell.machines held.caps;
}
held_step cell (AttrSet machine name value) seqs may held = record {
  ordered = held.ordered;
  few = few_changed machine (attr_set name value) cell.machines held.few may.machines;
  caps = caps_changed machine (attr_set name value) (λ m fits. fits) cell.machines held.caps;
}
held_step cell (AttrDelete machine name) seqs may held = record {
  ordered = held.ordered;
  few = few_changed machine (attr_deleted name) cell.machines held.few may.machines;
  caps = caps_changed machine (attr_deleted name) (λ m fits. fits) cell.machines held.caps;
}
held_step cell (End key machine) seqs may held = record {
  ordered = rises_filter (precedes ByKey) (goes_on key machine) cell.tasks held.ordered;
  few = held.few;
  caps = held.caps;
}
held_step cell (Commit scheduler seen txn reply) seqs may held = record {
  ordered = claims_ordered cell (zip txn.claims reply) held.ordered may.places;
  few = held.few;
  caps = held.caps;
}

pub held_all : (cell : Cell) (later : List Entry) → MayAll cell later → IsHeld cell → IsHeld (fold step cell later)
held_all cell [] may held = held
held_all cell (entry ∷ later) may held = held_all (step cell entry) later may.1 (held_step cell entry may.0.0 may.0.1 held)

pub applied_held : (history : List Entry) → MayAll empty_cell history → IsHeld (state history)
applied_held history may = held_all empty_cell history may (record { ordered = tt; few = omega arith; caps = tt })
