-- What every board keeps, when a task stops and when one starts.
use Rattle.std.proofs.Common.{◌≡◌, ℕ, Bool, true, false, not, nat_eq, List, [], ◌∷◌, ◌++◌, Option, Some, None, is_some, IsTrue, IsSomeAnd, refl, sym, ap, ◌∙◌, subst, arith, ◌==◌, if◌then◌else◌}
use Rattle.std.specs.List.{IsDistinct, AllByRecursion as Each}
use Rattle.std.specs.Option.{option_map, option_map_or, option_and_then}
use Rattle.std.proofs.lemmas.Bool.{both_ways, eqb-true, eq-eqb}
use Rattle.std.proofs.lemmas.Map.Keys.{IsDistinct-head, IsDistinct-tail}
use Rattle.std.proofs.lemmas.Option.{none-some, same_Some}
use Rattle.omega_model.specs.Need.{Fits, nothing, plus, minus}
use Rattle.omega_model.specs.Keys.{same_key, is_among}
use Rattle.omega_model.specs.Cell.{machine_at, task_at, with_task, without, total, is_on, use_on}
use Rattle.omega_model.specs.Judge.{is_up}
use Rattle.omega_model.specs.Machines.{is_listed, numbers_of}
use Rattle.omega_model.specs.declared.cells.Need.{Need}
use Rattle.omega_model.specs.declared.cells.TaskKey.{TaskKey}
use Rattle.omega_model.specs.declared.cells.Task.{Task}
use Rattle.omega_machines.specs.declared.MachineState.{MachineState}
use Rattle.omega_machines.specs.Table.{machines_of, state_at, used, use_at, free_if_up, free_at, change_state, new_state, ensured_states, charged, released, touched, IsTable}
use Rattle.omega_machines.proofs.Laws.{machine_of_state, listed_state, machines_same, state_changed, others_unchanged}
use Rattle.omega_running.proofs.Lists.{find_first}
use Rattle.omega_board.specs.Board.{BoardState, IsBoard, IsCounted, is_on_up, recounted, table_with}
use Rattle.omega_running.proofs.Kept.{found_key}
use Rattle.omega_board.proofs.Tasks.{without_ordered, with_ordered}
use Rattle.omega_model.proofs.InOrder.{each_with}
use Rattle.omega_board.proofs.Uses.{total-with, total-without}
use Rattle.omega_model.proofs.Amounts.{plus-assoc, plus-nothing, need_is, share}
use Rattle.omega_model.proofs.Lists.{by_answer, each_map, each_both, each_append, each_of, filter_none, each_filter, each_found}

-- a machine that is counted has as much free as the count says
pub recounted-same : (tasks : List Task) (state : MachineState) → IsCounted tasks state → recounted tasks state ≡ state
recounted-same tasks state counted =
    let free : minus state.machine.cap (use_on tasks state.machine.id) ≡ state.free =
    need_is _ _ (omega (arith, ap (λ (n : Need). n.cpu) counted)) (omega (arith, ap (λ (n : Need). n.mem) counted)) (omega (arith, ap (λ (n : Need). n.disk) counted)) in
    λ i. record state { free = free i }

pub table_with-same : (tasks : List Task) (table : List MachineState) → Each (IsCounted tasks) table → table_with tasks table ≡ table
table_with-same tasks [] counted = refl
table_with-same tasks (s ∷ ss) counted = λ i. recounted-same tasks s counted.0 i ∷ table_with-same tasks ss counted.1 i

-- a change of what is free on a machine doesn't matter to a count
pub table_with-changed : (tasks : List Task) (id : ℕ) (f : MachineState → MachineState) → ((s : MachineState) → recounted tasks (f s) ≡ recounted tasks s) → (table : List MachineState)
    → table_with tasks (change_state id f table) ≡ table_with tasks table
table_with-changed tasks id f same [] = refl
table_with-changed tasks id f same (s ∷ ss) =
    by_answer (s.machine.id == id)
    (λ t. rw t (λ i. same s i ∷ table_with-changed tasks id f same ss i))
    (λ t. rw t (ap (λ rest. recounted tasks s ∷ rest) (table_with-changed tasks id f same ss)))

-- what holds of the machines after one was changed
pub each_changed : (P Q : MachineState → Type 0) (id : ℕ) (f : MachineState → MachineState)
    → ((s : MachineState) → (s.machine.id == id) ≡ true → P s → Q (f s)) → ((s : MachineState) → (s.machine.id == id) ≡ false → P s → Q s)
    → (table : List MachineState) → Each P table → Each Q (change_state id f table)
each_changed P Q id f own other [] each = tt
each_changed P Q id f own other (s ∷ ss) each =
    let rest = each_changed P Q id f own other ss each.1 in
    by_answer (s.machine.id == id)
    (λ t. rw t (own s t each.0, rest))
    (λ t. rw t (other s t each.0, rest))

-- the only state of a number is the one that is found
pub only_state : (table : List MachineState) (id : ℕ) (found : MachineState) → IsDistinct nat_eq (numbers_of (machines_of table)) → state_at table id ≡ Some found
    → Each (λ s. (s.machine.id == id) ≡ true → s ≡ found) table
only_state [] id found distinct is = tt
only_state (s ∷ ss) id found distinct is =
    by_answer (s.machine.id == id)
    (λ t. (λ _. same_Some s found (rw t at is), others ss (IsDistinct-head nat_eq s.machine.id (numbers_of (machines_of ss)) distinct) (eqb-true _ _ t)))
    (λ f. (λ t. absurd (both_ways _ f t), only_state ss id found (IsDistinct-tail nat_eq s.machine.id (numbers_of (machines_of ss)) distinct) (rw f at is)))
  where
    others : (rest : List MachineState) → Each (λ n. nat_eq s.machine.id n ≡ false) (numbers_of (machines_of rest)) → s.machine.id ≡ id
        → Each (λ r. (r.machine.id == id) ≡ true → r ≡ found) rest
    others [] differ own = tt
    others (r ∷ rest) differ own = (
      λ t. absurd (both_ways _ differ.0 (eq-eqb _ _ (own ∙ sym (eqb-true _ _ t)))),
      others rest differ.1 own,
    )

-- a machine that is up has a state that is up
pub state_up : (table : List MachineState) (id : ℕ) → is_up (machine_at (machines_of table) id) ≡ true → (s : MachineState) × (state_at table id ≡ Some s) × (s.machine.up ≡ true)
state_up table id up = by (state_at table id) refl
  where
    by : (o : Option MachineState) → state_at table id ≡ o → (s : MachineState) × (state_at table id ≡ Some s) × (s.machine.up ≡ true)
    by None is = absurd (both_ways (is_up (machine_at (machines_of table) id)) (ap is_up (machine_of_state table id ∙ ap (option_map (λ (s : MachineState). s.machine)) is)) up)
    by (Some s) is = (s, is, ap is_up (sym (machine_of_state table id ∙ ap (option_map (λ (s : MachineState). s.machine)) is)) ∙ up)

-- something is free on a machine where it is up
pub free_where_up : (table : List MachineState) (id : ℕ) → is_up (machine_at (machines_of table) id) ≡ is_some (free_at table id)
free_where_up table id =
    ap is_up (machine_of_state table id) ∙ by (state_at table id)
  where
    by : (o : Option MachineState) → is_up (option_map (λ s. s.machine) o) ≡ is_some (option_and_then free_if_up o)
    by None = refl
    by (Some s) = by_answer s.machine.up (λ t. rw t refl) (λ f. rw f refl)

-- what is free on a machine is what is free in its state, which is up
pub state_free : (table : List MachineState) (id : ℕ) (free : Need) → free_at table id ≡ Some free → (s : MachineState) × (state_at table id ≡ Some s) × (s.machine.up ≡ true) × (s.free ≡ free)
state_free table id free is = by (state_at table id) refl
  where
    by : (o : Option MachineState) → state_at table id ≡ o → (s : MachineState) × (state_at table id ≡ Some s) × (s.machine.up ≡ true) × (s.free ≡ free)
    by None none = absurd (none-some free (ap (option_and_then free_if_up) (sym none) ∙ is))
    by (Some s) found =
        let own : free_if_up s ≡ Some free = ap (option_and_then free_if_up) (sym found) ∙ is in
        by_answer s.machine.up
        (λ t. (s, found, t, same_Some s.free free (rw t at own)))
        (λ f. absurd (none-some free (rw f at own)))

module _ (table : List MachineState) (tasks : List Task) (board : IsBoard table tasks) where
  -- what is in use on a machine of the table is what its tasks use
  pub in_use : (id : ℕ) (s : MachineState) → state_at table id ≡ Some s → (use_at table id ≡ use_on tasks id) × (plus s.free (use_on tasks id) ≡ s.machine.cap)
  in_use id s found =
      let known = each_found (IsCounted tasks) (λ state. state.machine.id == id) table s board.counted found in
      let counted : plus s.free (use_on tasks id) ≡ s.machine.cap = subst (λ n. plus s.free (use_on tasks n) ≡ s.machine.cap) (eqb-true _ _ known.1) known.0 in (
        ap (λ o. option_map_or used o nothing) found
            ∙ need_is _ _ (omega (arith, ap (λ (n : Need). n.cpu) counted)) (omega (arith, ap (λ (n : Need). n.mem) counted)) (omega (arith, ap (λ (n : Need). n.disk) counted)),
        counted,
      )

  -- no task is on a machine that isn't up
  pub unused : (id : ℕ) → is_up (machine_at (machines_of table) id) ≡ false → use_on tasks id ≡ nothing
  unused id down =
      ap total (filter_none (is_on id) tasks (each_map (λ t. IsTrue (is_on_up (machines_of table) t)) (λ t. is_on id t ≡ false)
      (λ t up. by_answer (is_on id t) (λ on. absurd (both_ways _ down (subst (λ n. is_up (machine_at (machines_of table) n) ≡ true) (eqb-true _ _ on) up))) (λ f. f)) tasks board.placed))

  module _ (key : TaskKey) (t : Task) (runs : Some t ≡ task_at tasks key) where
    -- a running task is found under its own name
    pub own_name : t.key ≡ key
    own_name = found_key key tasks t (sym runs)

    pub found_own : task_at tasks t.key ≡ Some t
    found_own = ap (task_at tasks) own_name ∙ sym runs

    -- its machine is up
    pub on_up : is_up (machine_at (machines_of table) t.machine) ≡ true
    on_up = (each_found (λ y. IsTrue (is_on_up (machines_of table) y)) (λ (y : Task). same_key y.key key) tasks t board.placed (sym runs)).0

    -- so it is listed
    pub on_listed : IsTrue (is_listed t.machine (machines_of table))
    on_listed =
        let up = state_up table t.machine on_up in
        listed_state table t.machine ∙ ap is_some up.1

    -- and what it needs is in use there
    pub need_in_use : Fits t.spec.need (use_at table t.machine)
    need_in_use =
        let up = state_up table t.machine on_up in
        let amount = (in_use t.machine up.0 up.1).0 in
        let own : is_on t.machine t ≡ true = eq-eqb _ _ refl in
        let split : use_on tasks t.machine ≡ plus t.spec.need (use_on (without (t.key ∷ []) tasks) t.machine) =
        rw own at (total-without (is_on t.machine) t tasks found_own board.ordered) in
        let all = amount ∙ split in
        (omega (arith, ap (λ (n : Need). n.cpu) all), (omega (arith, ap (λ (n : Need). n.mem) all), omega (arith, ap (λ (n : Need). n.disk) all)))

    -- once it stopped, the board keeps what every board keeps, and is counted anew
    pub stopped : (next_table : List MachineState) (next_tasks : List Task) → next_tasks ≡ without (key ∷ []) tasks
        → next_table ≡ change_state t.machine (released t.spec.need) table → IsTable next_table
        → IsBoard next_table next_tasks × (next_table ≡ table_with next_tasks table)
    stopped next_table next_tasks left freed bounded =
        subst (λ ts. IsBoard next_table ts × (next_table ≡ table_with ts table)) (sym less)
        (subst (λ s. IsBoard s rest × (s ≡ table_with rest table)) (sym freed) (kept, sym (table_with-same rest changed counted) ∙ table_with-changed rest t.machine (released t.spec.need) (λ s. refl) table))
      where
        rest : List Task
        rest = without (t.key ∷ []) tasks

        less : next_tasks ≡ rest
        less = left ∙ ap (λ k. without (k ∷ []) tasks) (sym own_name)

        changed : List MachineState
        changed = change_state t.machine (released t.spec.need) table

        split : (id : ℕ) → use_on tasks id ≡ plus (share (is_on id) t) (use_on rest id)
        split id = total-without (is_on id) t tasks found_own board.ordered

        counted : Each (IsCounted rest) changed
        counted =
            each_changed (IsCounted tasks) (IsCounted rest) t.machine (released t.spec.need)
            (λ s own was.
            let here : is_on s.machine.id t ≡ true = eq-eqb _ _ (sym (eqb-true _ _ own)) in
            let amount : use_on tasks s.machine.id ≡ plus t.spec.need (use_on rest s.machine.id) = rw here at (split s.machine.id) in
            plus-assoc s.free t.spec.need (use_on rest s.machine.id) ∙ ap (plus s.free) (sym amount) ∙ was)
            (λ s other was.
            let elsewhere : is_on s.machine.id t ≡ false = by_answer (is_on s.machine.id t) (λ on. absurd (both_ways _ other (eq-eqb _ _ (sym (eqb-true _ _ on))))) (λ f. f) in
            let amount : use_on tasks s.machine.id ≡ plus nothing (use_on rest s.machine.id) = rw elsewhere at (split s.machine.id) in
            ap (plus s.free) (sym (amount ∙ plus-nothing (use_on rest s.machine.id))) ∙ was)
            table board.counted

        kept : IsBoard changed rest
        kept = record {
          bounded = subst IsTable freed bounded;
          ordered = without_ordered (t.key ∷ []) tasks board.ordered;
          placed = subst (λ ms. Each (λ y. IsTrue (is_on_up ms y)) rest) (sym (machines_same t.machine (released t.spec.need) table (λ s. refl)))
              (each_filter (λ y. IsTrue (is_on_up (machines_of table) y)) (λ y. not (is_among y.key (t.key ∷ []))) tasks board.placed);
          counted = counted;
        }

  module _ (t : Task) (absent : task_at tasks t.key ≡ None) (room : IsSomeAnd (free_at table t.machine) (λ free. Fits t.spec.need free)) where
    -- the state of the machine of a new task
    roomy : (s : MachineState) × (state_at table t.machine ≡ Some s) × (s.machine.up ≡ true) × Fits t.spec.need s.free
    roomy = by (free_at table t.machine) refl room
      where
        by : (o : Option Need) → free_at table t.machine ≡ o → IsSomeAnd o (λ free. Fits t.spec.need free)
            → (s : MachineState) × (state_at table t.machine ≡ Some s) × (s.machine.up ≡ true) × Fits t.spec.need s.free
        by None is fits = absurd fits
        by (Some free) is fits =
            let known = state_free table t.machine free is in
            (known.0, known.1, known.2, subst (Fits t.spec.need) (sym known.3) fits)

    -- once it started, the board keeps what every board keeps, and is counted anew
    pub started : (next_table : List MachineState) (next_tasks : List Task) → next_tasks ≡ with_task t tasks
        → next_table ≡ change_state t.machine (charged t.spec.need) table → IsTable next_table
        → IsBoard next_table next_tasks × (next_table ≡ table_with next_tasks table)
    started next_table next_tasks more taken bounded =
        subst (λ ts. IsBoard next_table ts × (next_table ≡ table_with ts table)) (sym more)
        (subst (λ s. IsBoard s all × (s ≡ table_with all table)) (sym taken) (kept, sym (table_with-same all changed counted) ∙ table_with-changed all t.machine (charged t.spec.need) (λ s. refl) table))
      where
        all : List Task
        all = with_task t tasks

        changed : List MachineState
        changed = change_state t.machine (charged t.spec.need) table

        split : (id : ℕ) → use_on all id ≡ plus (share (is_on id) t) (use_on tasks id)
        split id = total-with (is_on id) t tasks absent board.ordered

        found : MachineState
        found = roomy.0

        only : Each (λ s. (s.machine.id == t.machine) ≡ true → s ≡ found) table
        only = only_state table t.machine found board.bounded.distinct roomy.1

        counted : Each (IsCounted all) changed
        counted =
            each_changed (λ s. IsCounted tasks s × ((s.machine.id == t.machine) ≡ true → s ≡ found)) (IsCounted all) t.machine (charged t.spec.need)
            (λ s own was.
            let here : is_on s.machine.id t ≡ true = eq-eqb _ _ (sym (eqb-true _ _ own)) in
            let amount : use_on all s.machine.id ≡ plus t.spec.need (use_on tasks s.machine.id) = rw here at (split s.machine.id) in
            let fits : Fits t.spec.need s.free = subst (λ (r : MachineState). Fits t.spec.need r.free) (sym (was.1 own)) roomy.3 in
            ap (plus (minus s.free t.spec.need)) amount ∙ taken_again s.free t.spec.need (use_on tasks s.machine.id) fits ∙ was.0)
            (λ s other was.
            let elsewhere : is_on s.machine.id t ≡ false = by_answer (is_on s.machine.id t) (λ on. absurd (both_ways _ other (eq-eqb _ _ (sym (eqb-true _ _ on))))) (λ f. f) in
            let amount : use_on all s.machine.id ≡ plus nothing (use_on tasks s.machine.id) = rw elsewhere at (split s.machine.id) in
            ap (plus s.free) (amount ∙ plus-nothing (use_on tasks s.machine.id)) ∙ was.0)
            table (each_both (IsCounted tasks) (λ s. (s.machine.id == t.machine) ≡ true → s ≡ found) (λ s. IsCounted tasks s × ((s.machine.id == t.machine) ≡ true → s ≡ found)) (λ s c o. (c, o)) table board.counted only)
          where
            taken_again : (free need amount : Need) → Fits need free → plus (minus free need) (plus need amount) ≡ plus free amount
            taken_again free need amount fits = need_is _ _ (omega (arith, fits.0)) (omega (arith, fits.1.0)) (omega (arith, fits.1.1))

        up : IsTrue (is_on_up (machines_of table) t)
        up =
            ap is_up (machine_of_state table t.machine ∙ ap (option_map (λ (s : MachineState). s.machine)) roomy.1) ∙ roomy.2

        kept : IsBoard changed all
        kept = record {
          bounded = subst IsTable taken bounded;
          ordered = with_ordered t tasks absent board.ordered;
          placed = subst (λ ms. Each (λ y. IsTrue (is_on_up ms y)) all) (sym (machines_same t.machine (charged t.spec.need) table (λ s. refl)))
              (each_with (λ y. IsTrue (is_on_up (machines_of table) y)) t tasks up board.placed);
          counted = counted;
        }

  -- a board whose machine changed keeps what every board keeps, where the machine keeps its number and is
  -- counted, and stays up where tasks are on it
  pub changed_board : (id : ℕ) (f : MachineState → MachineState) → ((s : MachineState) → (f s).machine.id ≡ s.machine.id)
      → ((s : MachineState) → (s.machine.id == id) ≡ true → IsCounted tasks s → IsCounted tasks (f s))
      → Each (λ t. is_on id t ≡ true → (s : MachineState) → s.machine.up ≡ true → (f s).machine.up ≡ true) tasks
      → IsTable (change_state id f table) → IsBoard (change_state id f table) tasks
  changed_board id f keeps counts stays_up bounded = record {
    bounded = bounded;
    ordered = board.ordered;
    placed = each_both (λ t. IsTrue (is_on_up (machines_of table) t)) (λ t. is_on id t ≡ true → (s : MachineState) → s.machine.up ≡ true → (f s).machine.up ≡ true) (λ t. IsTrue (is_on_up (machines_of (change_state id f table)) t)) still_up tasks board.placed stays_up;
    counted = each_changed (IsCounted tasks) (IsCounted tasks) id f counts (λ s _ was. was) table board.counted;
  }
    where
      still_up : (t : Task) → IsTrue (is_on_up (machines_of table) t) → (is_on id t ≡ true → (s : MachineState) → s.machine.up ≡ true → (f s).machine.up ≡ true)
          → IsTrue (is_on_up (machines_of (change_state id f table)) t)
      still_up t up stays =
          let known = state_up table t.machine up in
          by_answer (is_on id t)
          (λ on.
          let here : t.machine ≡ id = eqb-true _ _ on in
          let found : state_at (change_state id f table) t.machine ≡ Some (f known.0) =
          subst (λ n. state_at (change_state id f table) n ≡ Some (f known.0)) (sym here) (state_changed id f keeps table ∙ ap (option_map f) (ap (state_at table) (sym here) ∙ known.1)) in
          ap is_up (machine_of_state (change_state id f table) t.machine ∙ ap (option_map (λ (s : MachineState). s.machine)) found) ∙ stays on known.0 known.2)
          (λ off.
          let found : state_at (change_state id f table) t.machine ≡ Some known.0 =
          others_unchanged id f keeps table t.machine (λ same. both_ways _ off (eq-eqb _ _ same)) ∙ known.1 in
          ap is_up (machine_of_state (change_state id f table) t.machine ∙ ap (option_map (λ (s : MachineState). s.machine)) found) ∙ known.2)

  -- a board with a new machine keeps what every board keeps
  pub ensured_board : (id : ℕ) → IsTable (ensured_states id table) → IsBoard (ensured_states id table) tasks
  ensured_board id bounded =
      by_answer (is_listed id (machines_of table))
      (λ t. subst (λ (b : Bool). IsBoard (if b then table else table ++ new_state id ∷ []) tasks) (sym t) board)
      (λ f. subst (λ (b : Bool). IsBoard (if b then table else table ++ new_state id ∷ []) tasks) (sym f) (grown f (subst (λ (b : Bool). IsTable (if b then table else table ++ new_state id ∷ [])) f bounded)))
    where
      grown : is_listed id (machines_of table) ≡ false → IsTable (table ++ new_state id ∷ []) → IsBoard (table ++ new_state id ∷ []) tasks
      grown absent few = record {
        bounded = few;
        ordered = board.ordered;
        placed = each_map (λ t. IsTrue (is_on_up (machines_of table) t)) (λ t. IsTrue (is_on_up (machines_of (table ++ new_state id ∷ [])) t)) still_up tasks board.placed;
        counted = each_append (IsCounted tasks) table (new_state id ∷ []) board.counted (ap (plus nothing) none ∙ plus-nothing nothing, tt);
      }
        where
          no_state : state_at table id ≡ None
          no_state = by (state_at table id) (sym (listed_state table id) ∙ absent)
            where
              by : (o : Option MachineState) → is_some o ≡ false → o ≡ None
              by None e = refl
              by (Some s) e = absurd (both_ways true e refl)

          none : use_on tasks id ≡ nothing
          none = unused id (ap is_up (machine_of_state table id ∙ ap (option_map (λ (s : MachineState). s.machine)) no_state))

          still_up : (t : Task) → IsTrue (is_on_up (machines_of table) t) → IsTrue (is_on_up (machines_of (table ++ new_state id ∷ [])) t)
          still_up t up =
              let known = state_up table t.machine up in
              let found : state_at (table ++ new_state id ∷ []) t.machine ≡ Some known.0 = find_first (λ s. s.machine.id == t.machine) table (new_state id ∷ []) known.0 known.1 in
              ap is_up (machine_of_state (table ++ new_state id ∷ []) t.machine ∙ ap (option_map (λ (s : MachineState). s.machine)) found) ∙ known.2

  -- a board with one more entry counted on a machine keeps what every board keeps
  pub touched_board : (id : ℕ) → IsTable (change_state id touched table) → IsBoard (change_state id touched table) tasks
  touched_board id bounded = changed_board id touched (λ s. refl) (λ s _ was. was) (each_of _ (λ t _ s up. up) tasks) bounded

-- what a board keeps, of its value
pub at_now : (view now : BoardState) → view ≡ now → IsBoard view.table view.tasks → IsBoard now.table now.tasks
at_now view now same kept = subst (λ (b : BoardState). IsBoard b.table b.tasks) same kept
