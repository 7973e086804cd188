-- What the parts of a verdict come to on a board.
use Rattle.std.proofs.Common.{◌≡◌, ℕ, ◌+◌, ◌<◌, Bool, true, false, not, ◌&&◌, nat_le, List, [], ◌∷◌, ◌++◌, length, get_or, take, position, slice_get, if◌then◌else◌, ap₂, Option, Some, None, is_some, IsTrue, refl, sym, ap, ◌∙◌, arith, ◌==◌}
use Rattle.std.specs.List.{find}
use Rattle.std.specs.Option.{option_map, option_map_or, option_or}
use Rattle.std.proofs.Math.Bool.{and_comm}
use Rattle.std.proofs.lemmas.Bool.{both_ways, eqb-true, eq-eqb}
use Rattle.std.proofs.lemmas.List.{take_more}
use Rattle.std.proofs.lemmas.List.Folds.{find_at, find-append}
use Rattle.std.proofs.lemmas.Option.{none-some, same_Some, cond_some, slice_get-get_or}
use Rattle.omega_model.specs.Fields.{greatest}
use Rattle.omega_model.specs.Need.{Fits, nothing, plus, minus}
use Rattle.omega_model.specs.Keys.{same_key, is_among}
use Rattle.omega_model.specs.Cell.{machine_at, task_at, without, is_on, use_on, rest_on}
use Rattle.omega_model.specs.Judge.{is_up, capacity_of, refusal_if, runs_on, withstands}
use Rattle.omega_model.specs.Machines.{is_listed}
use Rattle.omega_model.specs.declared.cells.Machine.{Machine}
use Rattle.omega_model.specs.declared.cells.Need.{Need}
use Rattle.omega_model.specs.declared.cells.TaskKey.{TaskKey}
use Rattle.omega_model.specs.declared.cells.Task.{Task}
use Rattle.omega_model.specs.declared.claims.Verdict.TheVariants.{NoMachine}
use Rattle.omega_machines.specs.declared.MachineState.{MachineState}
use Rattle.omega_machines.specs.Table.{machines_of, state_at, free_at}
use Rattle.omega_machines.proofs.Laws.{machine_of_state, listed_state, found_bounded}
use Rattle.omega_running.specs.declared.orders.Order.TheVariants.{ByKey}
use Rattle.omega_running.specs.Order.{IsInOrder}
use Rattle.omega_model.proofs.Lists.{each_of, filter_every}
use Rattle.omega_board.specs.Board.{BoardState, IsBoard, Stand}
use Rattle.omega_running.proofs.Kept.{found_key}
use Rattle.omega_board.proofs.Tasks.{any_at, found_still, without_more, without_ordered}
use Rattle.omega_board.proofs.Uses.{total-without}
use Rattle.omega_board.proofs.Boards.{free_where_up, state_free, state_up, in_use, unused}
use Rattle.omega_model.proofs.Amounts.{plus-assoc, rest_is, need_is}

-- the first part, where something is free on the machine and where nothing is
pub up_where_free : (table : List MachineState) (id : ℕ) (free : Need) → Some free ≡ free_at table id → None ≡ refusal_if (not (is_up (machine_at (machines_of table) id))) NoMachine
up_where_free table id free is = ap (λ up. refusal_if (not up) NoMachine) (sym (free_where_up table id ∙ ap is_some (sym is)))

pub down_where_none : (table : List MachineState) (id : ℕ) → None ≡ free_at table id → Some NoMachine ≡ refusal_if (not (is_up (machine_at (machines_of table) id))) NoMachine
down_where_none table id is = ap (λ up. refusal_if (not up) NoMachine) (sym (free_where_up table id ∙ ap is_some (sym is)))

-- a machine for which a claim isn't refused is up
pub not_refused : (up : Bool) → refusal_if (not up) NoMachine ≡ None → up ≡ true
not_refused true e = refl
not_refused false e = absurd (none-some NoMachine (sym e))

-- where it isn't refused, something is free
pub some_free : (table : List MachineState) (id : ℕ) → refusal_if (not (is_up (machine_at (machines_of table) id))) NoMachine ≡ None → is_some (free_at table id) ≡ true
some_free table id none = sym (free_where_up table id) ∙ not_refused (is_up (machine_at (machines_of table) id)) none

-- one look-up says whether a task runs on a machine
pub runs_on_is : (tasks : List Task) (id : ℕ) (key : TaskKey) → IsInOrder ByKey tasks → runs_on tasks id key ≡ option_map_or (λ task. task.machine == id) (task_at tasks key) false
runs_on_is tasks id key order =
    any_at (λ task. task.machine == id && same_key task.key key) (λ task. task.machine == id) key (λ t. and_comm (t.machine == id) (same_key t.key key)) tasks order

-- and whether its precedence is too high
pub withstands_is : (tasks : List Task) (prec : ℕ) (key : TaskKey) → IsInOrder ByKey tasks → withstands tasks prec key ≡ option_map_or (λ task. nat_le prec task.spec.prec) (task_at tasks key) false
withstands_is tasks prec key order =
    any_at (λ task. same_key task.key key && nat_le prec task.spec.prec) (λ task. nat_le prec task.spec.prec) key (λ t. refl) tasks order

-- the first of some names whose precedence is too high, with one more name
pub withstands_push : (tasks : List Task) (prec : ℕ) (keys : List TaskKey) (key : TaskKey) (t : Task) → IsInOrder ByKey tasks → task_at tasks key ≡ Some t
    → option_or (find (withstands tasks prec) keys) (if nat_le prec t.spec.prec then Some t.key else None) ≡ find (withstands tasks prec) (keys ++ key ∷ [])
withstands_push tasks prec keys key t order found =
    let test : withstands tasks prec key ≡ nat_le prec t.spec.prec = withstands_is tasks prec key order ∙ ap (λ o. option_map_or (λ (x : Task). nat_le prec x.spec.prec) o false) found in
    ap (λ k. option_or (find (withstands tasks prec) keys) (if nat_le prec t.spec.prec then Some k else None)) (found_key key tasks t found)
    ∙ ap (λ b. option_or (find (withstands tasks prec) keys) (if b then Some key else None)) (sym test)
    ∙ sym (find-append (withstands tasks prec) keys (key ∷ []))

-- a task that runs on a machine is found
pub found_on : (tasks : List Task) (id : ℕ) (key : TaskKey) → IsInOrder ByKey tasks → runs_on tasks id key ≡ true → (t : Task) × (task_at tasks key ≡ Some t) × (t.machine ≡ id)
found_on tasks id key order runs = by (task_at tasks key) refl (sym (runs_on_is tasks id key order) ∙ runs)
  where
    by : (o : Option Task) → task_at tasks key ≡ o → option_map_or (λ task. task.machine == id) o false ≡ true → (t : Task) × (task_at tasks key ≡ Some t) × (t.machine ≡ id)
    by None is e = absurd (both_ways false refl e)
    by (Some t) is e = (t, is, eqb-true _ _ e)

-- what is used on a machine with one more victim off it
pub rest_more : (tasks : List Task) (id : ℕ) (gone : List TaskKey) (key : TaskKey) (t : Task) → IsInOrder ByKey tasks → task_at tasks key ≡ Some t → t.machine ≡ id → is_among key gone ≡ false
    → rest_on tasks id gone ≡ plus t.spec.need (rest_on tasks id (gone ++ key ∷ []))
rest_more tasks id gone key t order found on stay =
    let name : t.key ≡ key = found_key key tasks t found in
    let still : task_at (without gone tasks) t.key ≡ Some t = ap (task_at (without gone tasks)) name ∙ found_still gone tasks key stay ∙ found in
    let split = total-without (is_on id) t (without gone tasks) still (without_ordered gone tasks order) in
    let here : is_on id t ≡ true = eq-eqb _ _ on in
    let amount : use_on (without gone tasks) id ≡ plus t.spec.need (use_on (without (t.key ∷ []) (without gone tasks)) id) = rw here at split in
    rest_is tasks id gone ∙ amount
    ∙ ap (λ ts. plus t.spec.need (use_on ts id)) (ap (λ k. without (k ∷ []) (without gone tasks)) name ∙ sym (without_more gone key tasks))
    ∙ ap (plus t.spec.need) (sym (rest_is tasks id (gone ++ key ∷ [])))

-- so much is free on a machine once some of its tasks are off it
abbrev pub IsFreed : BoardState → ℕ → List TaskKey → Need → Type 0
IsFreed board id gone free = plus free (rest_on board.tasks id gone) ≡ capacity_of (machine_at (machines_of board.table) id)

module _ (board : BoardState) (kept : IsBoard board.table board.tasks) (id : ℕ) where
  state_cap : (s : MachineState) → state_at board.table id ≡ Some s → capacity_of (machine_at (machines_of board.table) id) ≡ s.machine.cap
  state_cap s found = ap capacity_of (machine_of_state board.table id ∙ ap (option_map (λ (r : MachineState). r.machine)) found)

  -- at first as much as is free
  pub freed_none : (free : Need) → free_at board.table id ≡ Some free → IsFreed board id [] free
  freed_none free is =
      let known = state_free board.table id free is in
      let counted = (in_use board.table board.tasks kept id known.0 known.1).1 in
      ap (plus free) (rest_is board.tasks id [] ∙ ap (λ ts. use_on ts id) (filter_every (λ t. not (is_among t.key [])) board.tasks (each_of _ (λ t. refl) board.tasks)))
      ∙ ap (λ n. plus n (use_on board.tasks id)) (sym known.3) ∙ counted ∙ sym (state_cap known.0 known.1)

  -- with one more victim off the machine, as much more as it needs
  pub freed_push : (gone : List TaskKey) (key : TaskKey) (t : Task) → runs_on board.tasks id key ≡ true → task_at board.tasks key ≡ Some t → is_among key gone ≡ false
      → (free : Need) → IsFreed board id gone free → IsFreed board id (gone ++ key ∷ []) (plus free t.spec.need)
  freed_push gone key t runs found apart free freed =
      let task = found_on board.tasks id key kept.ordered runs in
      let on : t.machine ≡ id = ap (λ (x : Task). x.machine) (same_Some _ _ (sym found ∙ task.1)) ∙ task.2 in
      plus-assoc free t.spec.need (rest_on board.tasks id (gone ++ key ∷ []))
      ∙ ap (plus free) (sym (rest_more board.tasks id gone key t kept.ordered found on apart))
      ∙ freed

  -- the same at a place of those that go
  pub freed_more : (gone : List TaskKey) → Stand board.tasks id gone → (i : ℕ) (key : TaskKey) → i < length gone → get_or gone i key ≡ key
      → (free need : Need) → Some need ≡ option_map (λ t. t.spec.need) (task_at board.tasks key) → IsFreed board id (take i gone) free → IsFreed board id (take (i + 1) gone) (plus free need)
  freed_more gone there i key below is free need needs freed =
      let known = there i key (slice_get-get_or gone i key below ∙ ap Some is) in
      let task = found_on board.tasks id key kept.ordered known.0 in
      let amount : need ≡ task.0.spec.need = same_Some _ _ (needs ∙ ap (option_map (λ (t : Task). t.spec.need)) task.1) in
      let front : take (i + 1) gone ≡ take i gone ++ key ∷ [] = take_more gone i key below ∙ ap (λ k. take i gone ++ k ∷ []) is in
      ap₂ (λ n ks. plus (plus free n) (rest_on board.tasks id ks)) amount front
      ∙ freed_push (take i gone) key task.0 known.0 task.1 known.1 free freed

  -- which stays within what a number holds
  pub freed_bounded : (gone : List TaskKey) (free : Need) → is_some (free_at board.table id) ≡ true → IsFreed board id gone free → Fits free greatest
  freed_bounded gone free up freed =
      let known = state_up board.table id (free_where_up board.table id ∙ up) in
      let cap = (found_bounded board.table id known.0 kept.bounded.bounded known.1).cap in
      let sum : plus free (rest_on board.tasks id gone) ≡ known.0.machine.cap = freed ∙ state_cap known.0 known.1 in
      (omega (arith, cap.0, ap (λ (n : Need). n.cpu) sum), (omega (arith, cap.1.0, ap (λ (n : Need). n.mem) sum), omega (arith, cap.1.1, ap (λ (n : Need). n.disk) sum)))

  -- and is the capacity less what the others use
  pub freed_all : (gone : List TaskKey) (free : Need) → IsFreed board id gone free → free ≡ minus (capacity_of (machine_at (machines_of board.table) id)) (rest_on board.tasks id gone)
  freed_all gone free freed = need_is _ _ (omega (arith, ap (λ (n : Need). n.cpu) freed)) (omega (arith, ap (λ (n : Need). n.mem) freed)) (omega (arith, ap (λ (n : Need). n.disk) freed))

  -- a task that stands runs
  pub stands_there : (gone : List TaskKey) → Stand board.tasks id gone → (i : ℕ) (key : TaskKey) → i < length gone → get_or gone i key ≡ key → IsTrue (is_some (task_at board.tasks key))
  stands_there gone there i key below is =
      ap is_some (found_on board.tasks id key kept.ordered (there i key (slice_get-get_or gone i key below ∙ ap Some is)).0).1

-- a machine on which nothing is free uses nothing
pub unused_down : (board : BoardState) → IsBoard board.table board.tasks → (id : ℕ) → free_at board.table id ≡ None → nothing ≡ use_on board.tasks id
unused_down board kept id none = sym (unused board.table board.tasks kept id (free_where_up board.table id ∙ ap is_some none))

-- a machine that isn't listed has nothing free
pub unlisted_free : (table : List MachineState) (id : ℕ) (free : Need) → is_listed id (machines_of table) ≡ false → Some free ≡ free_at table id → ⊥
unlisted_free table id free absent is =
    let known = state_free table id free (sym is) in
    both_ways _ absent (listed_state table id ∙ ap is_some known.1)

-- a machine that is found uses its capacity less what is free
pub used_found : (board : BoardState) → IsBoard board.table board.tasks → (id place : ℕ) (free : Need) (machine : Machine) → Some free ≡ free_at board.table id
    → Some place ≡ position (λ m. m.id == id) (machines_of board.table) → Some machine ≡ slice_get (machines_of board.table) place → minus machine.cap free ≡ use_on board.tasks id
used_found board kept id place free machine is placed here =
    let test : Machine → Bool = λ m. m.id == id in
    let known = state_free board.table id free (sym is) in
    let counted = (in_use board.table board.tasks kept id known.0 known.1).1 in
    let at : machine_at (machines_of board.table) id ≡ Some machine =
    find_at test (machines_of board.table) ∙ ap (slice_get (machines_of board.table)) (cond_some _ _ _ (sym placed)).1 ∙ sym here in
    let same : machine ≡ known.0.machine = same_Some _ _ (sym at ∙ machine_of_state board.table id ∙ ap (option_map (λ (s : MachineState). s.machine)) known.1) in
    ap₂ (λ (m : Machine) f. minus m.cap f) same (sym known.3)
    ∙ need_is _ _ (omega (arith, ap (λ (n : Need). n.cpu) counted)) (omega (arith, ap (λ (n : Need). n.mem) counted)) (omega (arith, ap (λ (n : Need). n.disk) counted))

-- a machine on which something is free stands at its position
pub found_there : (table : List MachineState) (id place : ℕ) (free : Need) → Some free ≡ free_at table id
    → Some place ≡ position (λ m. m.id == id) (machines_of table) → None ≡ slice_get (machines_of table) place → ⊥
found_there table id place free is placed none =
    let test : Machine → Bool = λ m. m.id == id in
    let known = state_free table id free (sym is) in
    let at : machine_at (machines_of table) id ≡ None =
    find_at test (machines_of table) ∙ ap (slice_get (machines_of table)) (cond_some _ _ _ (sym placed)).1 ∙ sym none in
    none-some known.0.machine (sym at ∙ machine_of_state table id ∙ ap (option_map (λ (s : MachineState). s.machine)) known.1)
