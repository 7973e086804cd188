-- A change of one machine that is counted on it.
use Rattle.std.proofs.Common.{◌≡◌, ℕ, ◌+◌, true, false, List, [], ◌∷◌, Option, Some, None, is_some, IsTrue, refl, sym, ap, ◌∙◌, subst, arith, if◌then◌else◌, ◌==◌}
use Rattle.std.specs.List.{filter, AllByRecursion as Each}
use Rattle.std.specs.Option.{option_map, option_map_or}
use Rattle.std.proofs.lemmas.Bool.{both_ways, eqb-true, eq-eqb}
use Rattle.omega_model.specs.Need.{Fits, nothing, plus, minus}
use Rattle.omega_model.specs.Applying.{ListsOrHasRoom}
use Rattle.omega_model.specs.Cell.{total, is_on, use_on}
use Rattle.omega_model.specs.Machines.{is_listed, change, removed, attr_set, attr_deleted}
use Rattle.omega_model.specs.declared.cells.Need.{Need}
use Rattle.omega_model.specs.declared.cells.Machine.{Machine}
use Rattle.omega_model.specs.declared.cells.Task.{Task}
use Rattle.omega_machines.specs.declared.MachineState.{MachineState}
use Rattle.omega_machines.specs.Table.{machines_of, state_at, use_at, seq_at, change_state, ensured_states, touched, used, state_added, state_updated, with_machine, IsTable}
use Rattle.omega_machines.proofs.Laws.{listed_state, machines_changed, machines_same, state_changed, others_unchanged, listed_changed}
use Rattle.omega_machines.proofs.Ensuring.{table_ensured}
use Rattle.omega_board.specs.Board.{IsBoard, IsCounted, CountsOn}
use Rattle.omega_board.proofs.Boards.{in_use, ensured_board, changed_board, touched_board}
use Rattle.omega_board.proofs.Counts.{seq_touched}
use Rattle.omega_model.proofs.Amounts.{need_is}
use Rattle.omega_model.proofs.Lists.{by_answer, each_of}

-- a machine that is listed has a state
pub state_listed : (table : List MachineState) (id : ℕ) → IsTrue (is_listed id (machines_of table)) → (s : MachineState) × (state_at table id ≡ Some s)
state_listed table id listed = by (state_at table id) refl
  where
    by : (o : Option MachineState) → state_at table id ≡ o → (s : MachineState) × (state_at table id ≡ Some s)
    by None is = absurd (both_ways (is_listed id (machines_of table)) (listed_state table id ∙ ap is_some is) listed)
    by (Some s) is = (s, is)

-- a change that leaves the sequence number leaves all
pub seq_changed : (id : ℕ) (f : MachineState → MachineState) → ((s : MachineState) → (f s).machine.id ≡ s.machine.id) → ((s : MachineState) → (f s).seq ≡ s.seq)
    → (table : List MachineState) (other : ℕ) → seq_at (change_state id f table) other ≡ seq_at table other
seq_changed id f keeps same table other =
    by_answer (other == id)
    (λ t. subst (λ n. seq_at (change_state id f table) n ≡ seq_at table n) (sym (eqb-true _ _ t)) (ap (λ o. option_map_or (λ (s : MachineState). s.seq) o 0) (state_changed id f keeps table) ∙ by (state_at table id)))
    (λ t. ap (λ o. option_map_or (λ (s : MachineState). s.seq) o 0) (others_unchanged id f keeps table other (λ e. both_ways _ t (eq-eqb _ _ e))))
  where
    by : (o : Option MachineState) → option_map_or (λ s. s.seq) (option_map f o) 0 ≡ option_map_or (λ s. s.seq) o 0
    by None = refl
    by (Some s) = same s

-- a count from a table with the same numbers
pub counts_from : (id : ℕ) (before same after : List MachineState) → ((other : ℕ) → seq_at before other ≡ seq_at same other) → CountsOn id before after → CountsOn id same after
counts_from id before same after seqs counts = λ other. counts other ∙ ap (λ n. n + (if id == other then 1 else 0)) (seqs other)

-- what comes of a change of one machine that is then counted on it
pub record IsChange (id : ℕ) (on_machine : Machine → Machine) (table first last : List MachineState) : Type 0 where
  pub listed : IsTrue (is_listed id (machines_of first))
  pub seq : (other : ℕ) → seq_at first other ≡ seq_at table other
  pub machines : machines_of last ≡ change id on_machine (machines_of table)
  pub counts : CountsOn id table last

pub is_change : (id : ℕ) (f : MachineState → MachineState) (on_machine : Machine → Machine) (table first last : List MachineState)
    → ((s : MachineState) → (f s).machine.id ≡ s.machine.id) → ((s : MachineState) → (f s).seq ≡ s.seq) → ((s : MachineState) → (f s).machine ≡ on_machine s.machine)
    → IsTrue (is_listed id (machines_of table)) → first ≡ change_state id f table → last ≡ change_state id touched first → IsChange id on_machine table first last
is_change id f on_machine table first last keeps same does listed changed counted =
    let there : IsTrue (is_listed id (machines_of first)) = ap (λ t. is_listed id (machines_of t)) changed ∙ listed_changed id f keeps table id ∙ listed in
    let seqs : (other : ℕ) → seq_at first other ≡ seq_at table other = λ other. ap (λ t. seq_at t other) changed ∙ seq_changed id f keeps same table other in
    record {
      listed = there;
      seq = seqs;
      machines = ap machines_of counted ∙ machines_same id touched first (λ s. refl) ∙ ap machines_of changed ∙ machines_changed id f table on_machine does;
      counts = λ other. ap (λ t. seq_at t other) counted ∙ seq_touched first id other there ∙ ap (λ n. n + (if id == other then 1 else 0)) (seqs other);
    }

module _ (table : List MachineState) (tasks : List Task) (board : IsBoard table tasks) (id : ℕ) where
  -- a machine is changed, with the same use counted and up where a task is on it, and the change is counted
  counted_board : (f : MachineState → MachineState) → ((s : MachineState) → (f s).machine.id ≡ s.machine.id)
      → ((s : MachineState) → (s.machine.id == id) ≡ true → IsCounted tasks s → IsCounted tasks (f s))
      → Each (λ t. is_on id t ≡ true → (s : MachineState) → s.machine.up ≡ true → (f s).machine.up ≡ true) tasks
      → (first last : List MachineState) → first ≡ change_state id f table → last ≡ change_state id touched first → IsTable first → IsTable last → IsBoard last tasks
  counted_board f keeps counts stays_up first last changed counted bounded bounded_last =
      let kept : IsBoard first tasks = subst (λ t. IsBoard t tasks) (sym changed) (changed_board table tasks board id f keeps counts stays_up (subst IsTable changed bounded)) in
      subst (λ t. IsBoard t tasks) (sym counted) (touched_board first tasks kept id (subst IsTable counted bounded_last))

  -- what is used on a listed machine is in use there
  pub use_fits : (cap : Need) → IsTrue (is_listed id (machines_of table)) → Fits (use_on tasks id) cap → Fits (use_at table id) cap
  use_fits cap listed fits =
      let known = state_listed table id listed in
      subst (λ n. Fits n cap) (sym (in_use table tasks board id known.0 known.1).0) fits

  pub use_none : IsTrue (is_listed id (machines_of table)) → filter (is_on id) tasks ≡ [] → use_at table id ≡ nothing
  use_none listed empty =
      let known = state_listed table id listed in
      (in_use table tasks board id known.0 known.1).0 ∙ ap total empty

  -- a change of capacity counts the same use
  recounts : (cap : Need) → Fits (use_on tasks id) cap → (s : MachineState) → (s.machine.id == id) ≡ true → IsCounted tasks s → plus (minus cap (used s)) (use_on tasks s.machine.id) ≡ cap
  recounts cap fits s own counted =
      let fit : Fits (use_on tasks s.machine.id) cap = subst (λ n. Fits (use_on tasks n) cap) (sym (eqb-true _ _ own)) fits in
      need_is _ _
      (omega (arith, fit.0, ap (λ (n : Need). n.cpu) counted))
      (omega (arith, fit.1.0, ap (λ (n : Need). n.mem) counted))
      (omega (arith, fit.1.1, ap (λ (n : Need). n.disk) counted))

  pub up_board : (cap : Need) (first last : List MachineState) → Fits (use_on tasks id) cap → first ≡ change_state id (state_added cap) table → last ≡ change_state id touched first → IsTable first → IsTable last → IsBoard last tasks
  up_board cap first last fits = counted_board (state_added cap) (λ s. refl) (recounts cap fits) (each_of _ (λ t _ s _. refl) tasks) first last

  pub resized_board : (cap : Need) (first last : List MachineState) → Fits (use_on tasks id) cap → first ≡ change_state id (state_updated cap) table → last ≡ change_state id touched first → IsTable first → IsTable last → IsBoard last tasks
  resized_board cap first last fits = counted_board (state_updated cap) (λ s. refl) (recounts cap fits) (each_of _ (λ t _ s up. up) tasks) first last

  pub down_board : (first last : List MachineState) → filter (is_on id) tasks ≡ [] → first ≡ change_state id (with_machine removed) table → last ≡ change_state id touched first → IsTable first → IsTable last → IsBoard last tasks
  down_board first last empty = counted_board (with_machine removed) (λ s. refl) (λ s _ was. was) (none_there tasks empty) first last
    where
      none_there : (ts : List Task) → filter (is_on id) ts ≡ [] → Each (λ t. is_on id t ≡ true → (s : MachineState) → s.machine.up ≡ true → false ≡ true) ts
      none_there [] none = tt
      none_there (t ∷ ts) none =
          by_answer (is_on id t)
          (λ h. absurd (cons-nil t (filter (is_on id) ts) (rw h at none)))
          (λ h. ((λ on _ _. absurd (both_ways _ h on)), none_there ts (rw h at none)))
        where
          cons-nil : (x : Task) (xs : List Task) → (x ∷ xs) ≡ [] → ⊥
          cons-nil x xs e = cc

  pub unset_board : (name : List ℕ) (first last : List MachineState) → first ≡ change_state id (with_machine (attr_deleted name)) table → last ≡ change_state id touched first → IsTable first → IsTable last → IsBoard last tasks
  unset_board name first last = counted_board (with_machine (attr_deleted name)) (λ s. refl) (λ s _ was. was) (each_of _ (λ t _ s up. up) tasks) first last

-- with an attribute set, on a machine that is listed first
pub attr_board : (table : List MachineState) (tasks : List Task) → IsBoard table tasks → (id : ℕ) (name value : List ℕ) (first last : List MachineState) → ListsOrHasRoom (machines_of table) id
    → first ≡ change_state id (with_machine (attr_set name value)) (ensured_states id table) → last ≡ change_state id touched first → IsTable first → IsTable last → IsBoard last tasks
attr_board table tasks board id name value first last room =
    counted_board (ensured_states id table) tasks (ensured_board table tasks board id (table_ensured id table board.bounded room)) id (with_machine (attr_set name value)) (λ s. refl) (λ s _ was. was) (each_of _ (λ t _ s up. up) tasks) first last
