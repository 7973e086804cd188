-- A board on which the row of a machine is put, and one that lists the machines of parts.
use Rattle.std.proofs.Common.{◌≡◌, ℕ, zero, suc, ◌+◌, ◌<◌, ◌≤◌, inl, inr, Bool, true, false, List, [], ◌∷◌, ◌++◌, length, take, get_or, slice_get, Some, IsTrue, refl, sym, ap, ◌∙◌, subst, arith, append_assoc, length-append, ◌==◌, if◌then◌else◌}
use Rattle.std.specs.List.{filter, AllByRecursion as Each}
use Rattle.std.specs.Option.{option_map, option_map_or}
use Rattle.std.proofs.lemmas.Bool.{both_ways, eqb-true, eq-eqb, or_left, or_right}
use Rattle.std.proofs.lemmas.List.{length-map, take_more}
use Rattle.std.proofs.lemmas.List.Sums.{fold-append}
use Rattle.std.proofs.lemmas.Option.{same_Some, none-some}
use Rattle.omega_model.specs.Applying.{ListsOrHasRoom}
use Rattle.omega_model.specs.Cell.{is_on, use_on}
use Rattle.omega_model.specs.Machines.{is_listed, numbers_of, change}
use Rattle.omega_model.specs.Need.{Fits, plus, minus}
use Rattle.omega_model.specs.declared.cells.Machine.{Machine}
use Rattle.omega_model.specs.declared.cells.Need.{Need}
use Rattle.omega_model.specs.declared.cells.Task.{Task}
use Rattle.omega_model.specs.declared.delta.Part.{Part}
use Rattle.omega_machines.specs.declared.MachineState.{MachineState}
use Rattle.omega_machines.specs.Table.{machines_of, state_at, seq_at, change_state, state_put, new_state, ensured_states, IsTable}
use Rattle.omega_machines.proofs.Laws.{machines_changed, state_changed, others_unchanged}
use Rattle.omega_board.specs.Board.{BoardState, IsBoard, IsCounted}
use Rattle.omega_board.specs.Putting.{listed_parts, with_row, MayPutRow}
use Rattle.omega_board.proofs.Boards.{changed_board}
use Rattle.omega_board.proofs.Entering.{state_listed}
use Rattle.omega_model.proofs.Amounts.{need_is}
use Rattle.omega_model.proofs.Lists.{by_answer, each_of, each_map}

-- a number that stands at a place is listed
pub there_listed : (machines : List Machine) (place id : ℕ) → slice_get (numbers_of machines) place ≡ Some id → is_listed id machines ≡ true
there_listed [] place id there = absurd (none-some id there)
there_listed (m ∷ ms) zero id there = or_left _ _ (eq-eqb _ _ (same_Some m.id id there))
there_listed (m ∷ ms) (suc place) id there = or_right _ _ (there_listed ms place id there)

-- where a filter leaves nothing, nothing passes
pub none_passing : {X : Type 0} (p : X → Bool) (xs : List X) → filter p xs ≡ [] → Each (λ x. p x ≡ false) xs
none_passing p [] none = tt
none_passing {X} p (x ∷ xs) none =
    by_answer (p x)
    (λ t. absurd (cons_nil x (filter p xs) (rw t at none)))
    (λ f. (f, none_passing p xs (rw f at none)))
  where
    cons_nil : (y : X) (ys : List X) → (y ∷ ys) ≡ [] → ⊥
    cons_nil y ys e = cc

module _ (machine : Machine) (used : Need) (seq : ℕ) where
  -- another row, under the number that a state has
  row_under : MachineState → MachineState
  row_under state = state_put (record machine { id = state.machine.id }) used seq

  -- on the machine of the row's number that is the row
  put_is : (table : List MachineState) → change_state machine.id (λ _. state_put machine used seq) table ≡ change_state machine.id row_under table
  unfolding row_under
  put_is [] = refl
  put_is (s ∷ ss) =
      by_answer (s.machine.id == machine.id)
      (λ t. rw t (λ i. state_put (record machine { id = sym (eqb-true _ _ t) i }) used seq ∷ put_is ss i))
      (λ f. rw f (ap (λ rest. s ∷ rest) (put_is ss)))

  module _ (table next : List MachineState) (put : next ≡ change_state machine.id (λ _. state_put machine used seq) table) where
    changed : next ≡ change_state machine.id row_under table
    changed = put ∙ put_is table

    -- the machines with the row in place of its machine's
    pub machines_put : machines_of next ≡ change machine.id (λ _. machine) (machines_of table)
    machines_put = ap machines_of put ∙ machines_changed machine.id (λ _. state_put machine used seq) table (λ _. machine) (λ s. refl)

    -- the board keeps what every board keeps
    pub row_board : (tasks : List Task) → IsBoard table tasks → IsTable next → used ≡ use_on tasks machine.id → Fits (use_on tasks machine.id) machine.cap
        → (machine.up ≡ false → filter (is_on machine.id) tasks ≡ []) → IsBoard next tasks
    unfolding row_under
    row_board tasks board bounded uses fits down =
        subst (λ t. IsBoard t tasks) (sym changed)
        (changed_board table tasks board machine.id row_under (λ s. refl) counts stays (subst IsTable changed bounded))
      where
        counts : (s : MachineState) → (s.machine.id == machine.id) ≡ true → IsCounted tasks s → IsCounted tasks (row_under s)
        counts s own was =
            let same : use_on tasks s.machine.id ≡ used = ap (use_on tasks) (eqb-true _ _ own) ∙ sym uses in
            let fit : Fits used machine.cap = subst (λ (n : Need). Fits n machine.cap) (sym uses) fits in
            ap (plus (minus machine.cap used)) same
            ∙ need_is (plus (minus machine.cap used) used) machine.cap (omega (arith, fit.0)) (omega (arith, fit.1.0)) (omega (arith, fit.1.1))

        stays : Each (λ t. is_on machine.id t ≡ true → (s : MachineState) → s.machine.up ≡ true → machine.up ≡ true) tasks
        stays =
            by_answer machine.up
            (λ t. each_of _ (λ _ _ _ _. t) tasks)
            (λ f. each_map (λ t. is_on machine.id t ≡ false) (λ t. is_on machine.id t ≡ true → (s : MachineState) → s.machine.up ≡ true → machine.up ≡ true)
            (λ t off on. absurd (both_ways _ off on)) tasks (none_passing (is_on machine.id) tasks (down f)))

    -- and the machine has the row's sequence number
    pub seqs_put : IsTrue (is_listed machine.id (machines_of table)) → (id : ℕ) → seq_at next id ≡ (if machine.id == id then seq else seq_at table id)
    unfolding row_under
    seqs_put listed id =
        by_answer (machine.id == id)
        (λ t.
        let known = state_listed table machine.id listed in
        let found : state_at next machine.id ≡ Some (row_under known.0) =
        ap (λ ts. state_at ts machine.id) changed ∙ state_changed machine.id row_under (λ s. refl) table ∙ ap (option_map row_under) known.1 in
        rw t (ap (seq_at next) (sym (eqb-true _ _ t)) ∙ ap (λ o. option_map_or (λ (s : MachineState). s.seq) o 0) found))
        (λ f.
        let other : state_at next id ≡ state_at table id =
        ap (λ ts. state_at ts id) changed ∙ others_unchanged machine.id row_under (λ s. refl) table id (λ same. both_ways _ f (eq-eqb _ _ (sym same))) in
        rw f (ap (λ o. option_map_or (λ (s : MachineState). s.seq) o 0) other))

-- a table that is made to list machines goes on from what it was
pub listed_on : (parts : List Part) (table : List MachineState) → (more : List MachineState) × (listed_parts table parts ≡ table ++ more)
listed_on [] table = ([], sym (append-nil table))
  where
    append-nil : (xs : List MachineState) → xs ++ [] ≡ xs
    append-nil [] = refl
    append-nil (x ∷ xs) = ap (λ ys. x ∷ ys) (append-nil xs)
listed_on (part ∷ parts) table =
    let one : (m : List MachineState) × (ensured_states part.machine.id table ≡ table ++ m) =
    by_answer (is_listed part.machine.id (machines_of table))
    (λ t. ([], rw t (sym (append-nil table))))
    (λ f. (new_state part.machine.id ∷ [], rw f refl)) in
    let rest = listed_on parts (ensured_states part.machine.id table) in
    (one.0 ++ rest.0, rest.1 ∙ ap (λ ts. ts ++ rest.0) one.1 ∙ append_assoc table one.0 rest.0)
  where
    append-nil : (xs : List MachineState) → xs ++ [] ≡ xs
    append-nil [] = refl
    append-nil (x ∷ xs) = ap (λ ys. x ∷ ys) (append-nil xs)

-- so what was there comes back when the others are cut off
pub cut_back : (parts : List Part) (table : List MachineState) (n : ℕ) → n ≡ length table → take n (listed_parts table parts) ≡ table
cut_back parts table n is =
    let on = listed_on parts table in
    ap (take n) on.1 ∙ ap (λ k. take k (table ++ on.0)) is ∙ take_front table on.0
  where
    take_front : (xs ys : List MachineState) → take (length xs) (xs ++ ys) ≡ xs
    take_front [] ys = refl
    take_front (x ∷ xs) ys = ap (λ zs. x ∷ zs) (take_front xs ys)

-- the next machine finds room where all do
pub list_room : (table : List MachineState) (parts : List Part) (i : ℕ) (part : Part) → length (listed_parts table parts) ≤ 65536 → i < length parts → part ≡ get_or parts i part
    → ListsOrHasRoom (machines_of (listed_parts table (take i parts))) part.machine.id
list_room table [] i part few below is = absurd (omega (arith, below))
list_room table (first ∷ parts) zero part few below is =
    by_answer (is_listed part.machine.id (machines_of table))
    (λ t. inr t)
    (λ f.
    let same : part ≡ first = is in
    let none : is_listed first.machine.id (machines_of table) ≡ false = ap (λ (p : Part). is_listed p.machine.id (machines_of table)) (sym same) ∙ f in
    let on = listed_on parts (table ++ new_state first.machine.id ∷ []) in
    let all : listed_parts table (first ∷ parts) ≡ (table ++ new_state first.machine.id ∷ []) ++ on.0 = rw none on.1 in
    let long : length (listed_parts table (first ∷ parts)) ≡ (length table + 1) + length on.0 =
    ap length all ∙ length-append (table ++ new_state first.machine.id ∷ []) on.0 ∙ ap (λ n. n + length on.0) (length-append table (new_state first.machine.id ∷ [])) in
    inl (omega (arith, long, few, length-map table (λ (s : MachineState). s.machine))))
list_room table (first ∷ parts) (suc i) part few below is = list_room (ensured_states first.machine.id table) parts i part few (omega (arith, below)) is

-- and the table with it is that of one part more
pub list_more : (table : List MachineState) (parts : List Part) (i : ℕ) (part : Part) → i < length parts → part ≡ get_or parts i part
    → ensured_states part.machine.id (listed_parts table (take i parts)) ≡ listed_parts table (take (i + 1) parts)
list_more table parts i part below is =
    sym (ap (listed_parts table) (take_more parts i part below ∙ ap (λ (p : Part). take i parts ++ p ∷ []) (sym is))
    ∙ fold-append (λ (states : List MachineState) (p : Part). ensured_states p.machine.id states) table (take i parts) (part ∷ []))

-- where one finds no memory, the table is cut back to what it was
pub list_refused : (now before after : BoardState) (parts : List Part) (table : List MachineState) (count : ℕ) → before ≡ record now { table = listed_parts now.table parts }
    → after ≡ before → count ≡ length now.table → table ≡ take count after.table → (table ≡ now.table) × (after.tasks ≡ now.tasks) × (after.spare ≡ now.spare)
list_refused now before after parts table count listed same counted cut =
    let is : after ≡ record now { table = listed_parts now.table parts } = same ∙ listed in (
      cut ∙ ap (λ (b : BoardState). take count b.table) is ∙ cut_back parts now.table count counted,
      ap (λ (b : BoardState). b.tasks) is,
      ap (λ (b : BoardState). b.spare) is,
    )

-- the row of a part leaves the numbers
pub numbers_with_row : (part : Part) (machines : List Machine) → numbers_of (with_row machines part) ≡ numbers_of machines
numbers_with_row part [] = refl
numbers_with_row part (m ∷ ms) =
    by_answer (m.id == part.machine.id)
    (λ t. rw t (λ i. sym (eqb-true _ _ t) i ∷ numbers_with_row part ms i))
    (λ f. rw f (ap (λ ns. m.id ∷ ns) (numbers_with_row part ms)))

-- once the row of the first part was put, the others may be
pub rows_next : (old new : BoardState) (part : Part) (items rest : List Part) → items ≡ part ∷ rest → machines_of new.table ≡ with_row (machines_of old.table) part → new.tasks ≡ old.tasks
    → Each (MayPutRow (numbers_of (machines_of old.table)) old.tasks) items → Each (MayPutRow (numbers_of (machines_of new.table)) new.tasks) rest
rows_next old new part items rest is put same each =
    let numbers : numbers_of (machines_of new.table) ≡ numbers_of (machines_of old.table) = ap numbers_of put ∙ numbers_with_row part (machines_of old.table) in
    let first = subst (Each (MayPutRow (numbers_of (machines_of old.table)) old.tasks)) is each in
    subst (λ ns. Each (MayPutRow ns new.tasks) rest) (sym numbers) (subst (λ ts. Each (MayPutRow (numbers_of (machines_of old.table)) ts) rest) (sym same) first.1)
