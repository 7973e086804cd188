-- A table in which the state of one machine is written anew.
use Rattle.std.proofs.Common.{◌≡◌, ℕ, zero, suc, true, false, cond, nat_eq, List, [], ◌∷◌, set, slice_get, position, Some, refl, sym, ap, ◌∙◌, subst, arith, ◌==◌}
use Rattle.std.specs.Cmp.{nat_eq_equiv}
use Rattle.std.specs.List.{AllByRecursion, IsDistinct}
use Rattle.std.specs.Option.{option_map}
use Rattle.std.proofs.Math.ListN.{length-set}
use Rattle.std.proofs.lemmas.Bool.{eqb-true, eq-eqb}
use Rattle.std.proofs.lemmas.List.{set-get_or}
use Rattle.std.proofs.lemmas.List.Elements.{All-set, All-get_or}
use Rattle.std.proofs.lemmas.Option.{slice_get-map, same_Some, slice_get_within, get_or_from_slice_get, none-some}
use Rattle.omega_model.specs.Fields.{greatest}
use Rattle.omega_model.specs.Machines.{numbers_of}
use Rattle.omega_model.specs.Need.{Fits, nothing}
use Rattle.omega_model.specs.declared.cells.Machine.{Machine}
use Rattle.omega_model.specs.declared.cells.Need.{Need}
use Rattle.omega_machines.specs.Table.{MachineState, machines_of, change_state, state_put, IsBounded, IsTable}
use Rattle.omega_machines.proofs.Bounds.{bounded-put}
use Rattle.omega_machines.proofs.Places.{Stands, stands}

-- the numbers stay where the machine keeps its own
numbers-set : (table : List MachineState) (place : ℕ) (state next : MachineState) → slice_get table place ≡ Some state → next.machine.id ≡ state.machine.id
    → numbers_of (machines_of (set table place next)) ≡ numbers_of (machines_of table)
numbers-set [] place state next at same = refl
numbers-set (s ∷ ss) zero state next at same = ap (λ n. n ∷ numbers_of (machines_of ss)) (same ∙ ap (λ (t : MachineState). t.machine.id) (sym (same_Some s state at)))
numbers-set (s ∷ ss) (suc place) state next at same = ap (λ ns. s.machine.id ∷ ns) (numbers-set ss place state next at same)

-- a list of other numbers has no machine of this one
unchanged : (id : ℕ) (changed : MachineState → MachineState) (table : List MachineState) → AllByRecursion (λ n. nat_eq id n ≡ false) (numbers_of (machines_of table)) → change_state id changed table ≡ table
unchanged id changed [] apart = refl
unchanged id changed (s ∷ ss) apart =
    let other : nat_eq s.machine.id id ≡ false = nat_eq_equiv.symm s.machine.id id ∙ apart.0 in
    (λ i. cond (other i) (changed s) s ∷ unchanged id changed ss apart.1 i)

-- a number that others differ from differs from that of a machine among theirs
apart_at : (id place : ℕ) (table : List MachineState) (state : MachineState) → AllByRecursion (λ n. nat_eq id n ≡ false) (numbers_of (machines_of table)) → slice_get table place ≡ Some state → nat_eq id state.machine.id ≡ false
apart_at id place [] state apart at = absurd (none-some state at)
apart_at id zero (s ∷ ss) state apart at = ap (λ (t : MachineState). nat_eq id t.machine.id) (sym (same_Some s state at)) ∙ apart.0
apart_at id (suc place) (s ∷ ss) state apart at = apart_at id place ss state apart.1 at

-- among distinct numbers, the write at the place of a machine changes that machine and no other
pub set-change : (id : ℕ) (changed : MachineState → MachineState) (table : List MachineState) (place : ℕ) (state : MachineState) → IsDistinct nat_eq (numbers_of (machines_of table))
    → slice_get table place ≡ Some state → state.machine.id ≡ id → set table place (changed state) ≡ change_state id changed table
unfolding IsDistinct
set-change id changed [] place state distinct at same = refl
set-change id changed (s ∷ ss) zero state distinct at same =
    let first = same_Some s state at in
    let own : nat_eq s.machine.id id ≡ true = ap (λ (t : MachineState). nat_eq t.machine.id id) first ∙ eq-eqb _ _ same in
    let named : s.machine.id ≡ id = eqb-true _ _ own in
    let rest = unchanged id changed ss (subst (λ n. AllByRecursion (λ m. nat_eq n m ≡ false) (numbers_of (machines_of ss))) named distinct.0) in
    ap (λ t. changed t ∷ ss) (sym first) ∙ (λ i. cond (sym own i) (changed s) s ∷ sym rest i)
set-change id changed (s ∷ ss) (suc place) state distinct at same =
    let other : nat_eq s.machine.id id ≡ false = ap (nat_eq s.machine.id) (sym same) ∙ apart_at s.machine.id place ss state distinct.0 at in
    (λ i. cond (sym other i) (changed s) s ∷ set-change id changed ss place state distinct.1 at same i)

-- a machine of a table is within its bounds
pub bounded_at : (table : List MachineState) (place : ℕ) (state : MachineState) → IsTable table → slice_get table place ≡ Some state → IsBounded state
bounded_at table place state held at =
    subst IsBounded (get_or_from_slice_get table place state state at) (All-get_or IsBounded table place state (slice_get_within table place state at) held.bounded)

-- what comes of a table in which the state at a place is written anew: a table of the same numbers
pub record IsRewritten (states : List MachineState) (place : ℕ) (next : MachineState) (table : List MachineState) : Type 0 where
  pub held : IsTable (set states place next)
  pub numbers : numbers_of (machines_of (set states place next)) ≡ numbers_of (machines_of states)
  pub is : set states place next ≡ table

-- the state of a machine written anew, at its place: it is the table with this machine changed
pub rewritten_at : (states table : List MachineState) (id place : ℕ) (state next : MachineState) (changed : MachineState → MachineState)
    → states ≡ table → IsTable states → state.machine.id ≡ id → slice_get states place ≡ Some state
    → changed state ≡ next → (changed state).machine.id ≡ state.machine.id → (IsBounded state → IsBounded (changed state))
    → IsRewritten states place next (change_state id changed table)
rewritten_at states table id place state next changed seen held numbered at is same bounds =
    subst (λ n. IsRewritten states place n (change_state id changed table)) is (record {
      held = record {
        few = omega (arith, length-set {A = MachineState}, held.few);
        distinct = subst (IsDistinct nat_eq) (sym numbers) held.distinct;
        bounded = All-set IsBounded states place (changed state) (bounds (bounded_at states place state held at)) held.bounded;
      };
      numbers = numbers;
      is = set-change id changed states place state held.distinct at numbered ∙ ap (change_state id changed) seen;
    })
  where
    numbers : numbers_of (machines_of (set states place (changed state))) ≡ numbers_of (machines_of states)
    numbers = numbers-set states place state (changed state) at same

-- and at the place that a look-up found
pub rewritten : (states table : List MachineState) (id place : ℕ) (state next : MachineState) (changed : MachineState → MachineState)
    → states ≡ table → IsTable states → position (λ machine. machine.id == id) (machines_of table) ≡ Some place → slice_get states place ≡ Some state
    → changed state ≡ next → (changed state).machine.id ≡ state.machine.id → (Stands table id place state → IsBounded state → IsBounded (changed state))
    → IsRewritten states place next (change_state id changed table)
rewritten states table id place state next changed seen held placed at is same bounds =
    let here : Stands table id place state = stands states table id place state seen placed at in
    rewritten_at states table id place state next changed seen held here.numbered at is same (bounds here)

module _ (states table : List MachineState) (place : ℕ) (state next : MachineState) (machine : Machine) (used : Need) (seq : ℕ)
    (seen : states ≡ table) (held : IsTable states) (there : slice_get (numbers_of (machines_of table)) place ≡ Some machine.id) (at : slice_get states place ≡ Some state) where
  -- the machine at a place has the number that stands there
  there_numbered : state.machine.id ≡ machine.id
  there_numbered =
      let at_table : slice_get table place ≡ Some state = ap (λ t. slice_get t place) (sym seen) ∙ at in
      let here : slice_get (numbers_of (machines_of table)) place ≡ Some state.machine.id =
      slice_get-map (λ (m : Machine). m.id) (machines_of table) place ∙ ap (option_map (λ (m : Machine). m.id)) (slice_get-map (λ (s : MachineState). s.machine) table place ∙ ap (option_map (λ (s : MachineState). s.machine)) at_table) in
      same_Some _ _ (sym here ∙ there)

  -- another state in its place
  pub state_is_put : next ≡ state_put machine used seq → Fits machine.cap greatest → (machine.up ≡ false → used ≡ nothing)
      → IsRewritten states place next (change_state machine.id (λ _. state_put machine used seq) table)
  state_is_put is most down =
      rewritten_at states table machine.id place state next (λ _. state_put machine used seq) seen held there_numbered at (sym is) (sym there_numbered)
      (λ _. bounded-put machine used seq most down)

-- a state written as it was leaves the table
pub unwritten : (states table : List MachineState) (place : ℕ) (state next : MachineState)
    → states ≡ table → slice_get states place ≡ Some state → next ≡ state → set states place next ≡ table
unwritten states table place state next seen at same =
    ap (set states place) same
    ∙ ap (set states place) (sym (get_or_from_slice_get states place state state at)) ∙ set-get_or states place state ∙ seen
