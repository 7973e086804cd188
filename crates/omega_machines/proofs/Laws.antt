-- What the words on tables say of one another, for proofs over a table.
use Rattle.std.proofs.Common.{◌≡◌, ℕ, ◌≢◌, Bool, true, false, cond, ◌||◌, nat_eq, List, [], ◌∷◌, ◌++◌, Option, Some, None, is_some, IsTrue, refl, sym, ap, ◌∙◌, subst, if◌then◌else◌, ◌==◌}
use Rattle.std.specs.List.{All, list_any}
use Rattle.std.specs.Option.{option_map, option_map_or, option_and_then}
use Rattle.std.proofs.lemmas.Bool.{eqb-true, eq-eqb}
use Rattle.std.proofs.lemmas.List.{map-append}
use Rattle.std.proofs.lemmas.List.Elements.{All-nil, All-cons, All-head, All-tail, All-push}
use Rattle.std.proofs.lemmas.List.Folds.{list_any-append}
use Rattle.std.proofs.lemmas.Option.{none-some, same_Some}
use Rattle.omega_model.specs.Cell.{machine_at}
use Rattle.omega_model.specs.Machines.{change, is_listed, new_machine, ensured}
use Rattle.omega_model.specs.Need.{nothing}
use Rattle.omega_model.specs.declared.cells.Machine.{Machine}
use Rattle.omega_machines.specs.Table.{MachineState, machines_of, state_at, used, use_at, free_if_up, free_at, seq_at, change_state, new_state, ensured_states, IsBounded}
use Rattle.omega_model.proofs.Lists.{by_answer}

-- the machine of a number is that of its state
pub machine_of_state : (table : List MachineState) (id : ℕ) → machine_at (machines_of table) id ≡ option_map (λ state. state.machine) (state_at table id)
machine_of_state [] id = refl
machine_of_state (s ∷ ss) id = by_answer (s.machine.id == id) (λ t. rw t refl) (λ f. rw f (machine_of_state ss id))

-- a number is listed where it has a state
pub listed_state : (table : List MachineState) (id : ℕ) → is_listed id (machines_of table) ≡ is_some (state_at table id)
listed_state [] id = refl
listed_state (s ∷ ss) id = by_answer (s.machine.id == id) (λ t. rw t refl) (λ f. rw f (listed_state ss id))

module _ (id : ℕ) (changed : MachineState → MachineState) where
  -- a change of a state that changes its machine is that change of the machine
  pub machines_changed : (table : List MachineState) (on_machine : Machine → Machine) → ((state : MachineState) → (changed state).machine ≡ on_machine state.machine)
      → machines_of (change_state id changed table) ≡ change id on_machine (machines_of table)
  machines_changed [] on_machine same = refl
  machines_changed (s ∷ ss) on_machine same =
      by_answer (s.machine.id == id)
      (λ t. rw t (λ i. same s i ∷ machines_changed ss on_machine same i))
      (λ f. rw f (ap (λ ms. s.machine ∷ ms) (machines_changed ss on_machine same)))

  -- one that leaves its machine leaves the machines
  pub machines_same : (table : List MachineState) → ((state : MachineState) → (changed state).machine ≡ state.machine) → machines_of (change_state id changed table) ≡ machines_of table
  machines_same [] same = refl
  machines_same (s ∷ ss) same =
      by_answer (s.machine.id == id)
      (λ t. rw t (λ i. same s i ∷ machines_same ss same i))
      (λ f. rw f (ap (λ ms. s.machine ∷ ms) (machines_same ss same)))

  -- what each state keeps at a change, all keep
  pub all_changed : (P : MachineState → Type 0) (table : List MachineState) → ((state : MachineState) → state.machine.id ≡ id → P state → P (changed state)) → All P table → All P (change_state id changed table)
  all_changed P [] keeps all = All-nil P
  all_changed P (s ∷ ss) keeps all =
      let rest = all_changed P ss keeps (All-tail P s ss all) in
      by_answer (s.machine.id == id)
      (λ t. subst (All P) (λ i. cond (sym t i) (changed s) s ∷ change_state id changed ss) (All-cons P (changed s) _ (keeps s (eqb-true _ _ t) (All-head P s ss all)) rest))
      (λ f. subst (All P) (λ i. cond (sym f i) (changed s) s ∷ change_state id changed ss) (All-cons P s _ (All-head P s ss all) rest))

  module _ (keeps : (state : MachineState) → (changed state).machine.id ≡ state.machine.id) where
    -- the state of the number is changed
    pub state_changed : (table : List MachineState) → state_at (change_state id changed table) id ≡ option_map changed (state_at table id)
    state_changed [] = refl
    state_changed (s ∷ ss) =
        by_answer (s.machine.id == id)
        (λ t. let own : ((changed s).machine.id == id) ≡ true = ap (λ n. nat_eq n id) (keeps s) ∙ t in rw (t, own) refl)
        (λ f. rw (f, f) (state_changed ss))

    -- that of another number is not
    pub others_unchanged : (table : List MachineState) (other : ℕ) → other ≢ id → state_at (change_state id changed table) other ≡ state_at table other
    others_unchanged [] other differs = refl
    others_unchanged (s ∷ ss) other differs =
        by_answer (s.machine.id == id)
        (λ t.
        let own : (s.machine.id == other) ≡ false = by_answer (s.machine.id == other) (λ h. absurd (differs (sym (eqb-true _ _ h) ∙ eqb-true _ _ t))) (λ h. h) in
        let kept : ((changed s).machine.id == other) ≡ false = ap (λ n. nat_eq n other) (keeps s) ∙ own in
        rw (t, kept, own) (others_unchanged ss other differs))
        (λ f. rw f (ap (cond (s.machine.id == other) (Some s)) (others_unchanged ss other differs)))

    -- the same numbers are listed
    pub listed_changed : (table : List MachineState) (other : ℕ) → is_listed other (machines_of (change_state id changed table)) ≡ is_listed other (machines_of table)
    listed_changed [] other = refl
    listed_changed (s ∷ ss) other =
        by_answer (s.machine.id == id)
        (λ t. rw t (λ i. nat_eq (keeps s i) other || listed_changed ss other i))
        (λ f. rw f (ap (λ b. nat_eq s.machine.id other || b) (listed_changed ss other)))

-- the machines of a table that is made to list a number
pub machines_ensured : (id : ℕ) (table : List MachineState) → machines_of (ensured_states id table) ≡ ensured id (machines_of table)
machines_ensured id table =
    by_answer (is_listed id (machines_of table))
    (λ t. rw t refl)
    (λ f. rw f (map-append (λ (state : MachineState). state.machine) table (new_state id ∷ [])))

-- which then lists it
pub ensured_listed : (id : ℕ) (table : List MachineState) → IsTrue (is_listed id (machines_of (ensured_states id table)))
ensured_listed id table =
    let test : Machine → Bool = λ machine. machine.id == id in
    by_answer (is_listed id (machines_of table))
    (λ t. rw (t, t) refl)
    (λ f. rw f (
    ap (list_any test) (map-append (λ (state : MachineState). state.machine) table (new_state id ∷ []))
    ∙ list_any-append test (machines_of table) (new_machine id ∷ [])
    ∙ (λ i. f i || (eq-eqb id id refl i || false))))

module _ (id : ℕ) where
  -- what all states and a new one have, all have where a number is made listed
  pub all_ensured : (P : MachineState → Type 0) (table : List MachineState) → P (new_state id) → All P table → All P (ensured_states id table)
  all_ensured P table new all =
      by_answer (is_listed id (machines_of table))
      (λ t. subst (All P) (ap (λ b. if b then table else table ++ new_state id ∷ []) (sym t)) all)
      (λ f. subst (All P) (ap (λ b. if b then table else table ++ new_state id ∷ []) (sym f)) (All-push P table (new_state id) all new))

  -- what is told of a number that has no state is told of a new machine
  told_ensured : {A : Type 0} (tell : Option MachineState → A) → tell (Some (new_state id)) ≡ tell None → (table : List MachineState) (other : ℕ)
      → tell (state_at (ensured_states id table) other) ≡ tell (state_at table other)
  told_ensured tell same table other = by_answer (is_listed id (machines_of table)) (λ t. rw t refl) (λ f. rw f (pushed table))
    where
      pushed : (states : List MachineState) → tell (state_at (states ++ new_state id ∷ []) other) ≡ tell (state_at states other)
      pushed [] = by_answer (id == other) (λ t. rw t same) (λ f. rw f refl)
      pushed (s ∷ ss) = by_answer (s.machine.id == other) (λ t. rw t refl) (λ f. rw f (pushed ss))

  -- so no more is in use, free or touched than before
  pub use_ensured : (table : List MachineState) (other : ℕ) → use_at (ensured_states id table) other ≡ use_at table other
  use_ensured = told_ensured (λ o. option_map_or used o nothing) refl

  pub free_ensured : (table : List MachineState) (other : ℕ) → free_at (ensured_states id table) other ≡ free_at table other
  free_ensured = told_ensured (option_and_then free_if_up) refl

  pub seq_ensured : (table : List MachineState) (other : ℕ) → seq_at (ensured_states id table) other ≡ seq_at table other
  seq_ensured = told_ensured (λ o. option_map_or (λ (state : MachineState). state.seq) o 0) refl

-- a state that is found in a table is within its bounds
pub found_bounded : (table : List MachineState) (id : ℕ) (state : MachineState) → All IsBounded table → state_at table id ≡ Some state → IsBounded state
found_bounded [] id state all found = absurd (none-some state found)
found_bounded (s ∷ ss) id state all found =
    by_answer (s.machine.id == id)
    (λ t. subst IsBounded (same_Some s state (rw t at found)) (All-head IsBounded s ss all))
    (λ f. found_bounded ss id state (All-tail IsBounded s ss all) (rw f at found))
