-- A change of the running tasks that is noted can be taken back, and then the board is as before.
use Rattle.std.proofs.Common.{◌≡◌, ℕ, ◌+◌, ◌≤◌, true, nat_eq, List, [], ◌∷◌, Some, None, is_some, IsTrue, IsSomeAnd, refl, sym, ap, ◌∙◌, subst, arith}
use Rattle.std.specs.List.{All}
use Rattle.std.proofs.lemmas.Option.{none-some, same_Some}
use Rattle.std.specs.Option.{option_map, option_and_then}
use Rattle.std.proofs.lemmas.Bool.{eqb-true, eq-eqb}
use Rattle.std.proofs.lemmas.List.Elements.{All-head, All-tail}
use Rattle.omega_model.specs.Need.{Fits, plus}
use Rattle.omega_model.specs.Keys.{same_key}
use Rattle.omega_model.specs.Cell.{machine_at, task_at, with_task, without, is_on, use_on}
use Rattle.omega_model.specs.Judge.{is_up}
use Rattle.omega_model.specs.Legal.{Sound}
use Rattle.omega_model.specs.declared.cells.Need.{Need}
use Rattle.omega_model.specs.declared.cells.Machine.{Machine}
use Rattle.omega_model.specs.declared.cells.TaskKey.{TaskKey}
use Rattle.omega_model.specs.declared.cells.Task.{Task}
use Rattle.omega_machines.specs.declared.MachineState.{MachineState}
use Rattle.omega_machines.specs.Table.{machines_of, state_at, free_if_up, free_at, seq_at}
use Rattle.omega_board.specs.Board.{BoardState, IsBoard, cell_of, recounted, table_with}
use Rattle.omega_board.specs.Putting.{MayStart}
use Rattle.omega_board.specs.Undo.{UndoState, before_change, before_all, MayTakeAllBack, at_reserve, IsUndoOf}
use Rattle.omega_board.specs.declared.undo.Change.TheVariants.{Stopped, Started}
use Rattle.omega_board.proofs.Tasks.{back_again, gone_again, gone_absent, found_new}
use Rattle.omega_board.proofs.Uses.{total-with}
use Rattle.omega_board.proofs.Boards.{table_with-same, state_up, in_use, own_name, found_own}
use Rattle.omega_board.proofs.Sounds.{sound_board}
use Rattle.omega_model.proofs.Lists.{by_answer, each_of_all, each_found}

-- boards with equal parts are equal
pub board_is : (a b : BoardState) → a.table ≡ b.table → a.tasks ≡ b.tasks → a.spare ≡ b.spare → a ≡ b
board_is a b table tasks spare = λ i. record { table = table i; tasks = tasks i; spare = spare i }

-- a count of a count is the later one
pub table_with-twice : (now before : List Task) (table : List MachineState) → table_with now (table_with before table) ≡ table_with now table
table_with-twice now before [] = refl
table_with-twice now before (s ∷ ss) = ap (λ rest. recounted now s ∷ rest) (table_with-twice now before ss)

-- a count leaves the machines and their sequence numbers
pub machines_with : (tasks : List Task) (table : List MachineState) → machines_of (table_with tasks table) ≡ machines_of table
machines_with tasks [] = refl
machines_with tasks (s ∷ ss) = ap (λ rest. s.machine ∷ rest) (machines_with tasks ss)

pub state_with : (tasks : List Task) (table : List MachineState) (id : ℕ) → state_at (table_with tasks table) id ≡ option_map (recounted tasks) (state_at table id)
state_with tasks [] id = refl
state_with tasks (s ∷ ss) id = by_answer (nat_eq s.machine.id id) (λ t. rw t refl) (λ f. rw f (state_with tasks ss id))

pub seq_with : (tasks : List Task) (table : List MachineState) (id : ℕ) → seq_at (table_with tasks table) id ≡ seq_at table id
seq_with tasks [] id = refl
seq_with tasks (s ∷ ss) id = by_answer (nat_eq s.machine.id id) (λ t. rw t refl) (λ f. rw f (seq_with tasks ss id))

module _ (board next : BoardState) (kept : IsBoard board.table board.tasks) where
  -- before a task stopped
  pub before_stop : (key : TaskKey) (t : Task) → Some t ≡ task_at board.tasks key → next.tasks ≡ without (key ∷ []) board.tasks → next.table ≡ table_with next.tasks board.table → next.spare ≡ board.spare + 1
      → before_change (Stopped t) next ≡ board
  before_stop key t runs tasks table spare =
      let name = own_name board.table board.tasks kept key t runs in
      let back : with_task t next.tasks ≡ board.tasks = ap (with_task t) (tasks ∙ ap (λ k. without (k ∷ []) board.tasks) (sym name)) ∙ back_again t board.tasks (found_own board.table board.tasks kept key t runs) kept.ordered in
      board_is _ board
      (ap (table_with (with_task t next.tasks)) table ∙ table_with-twice (with_task t next.tasks) next.tasks board.table ∙ ap (λ ts. table_with ts board.table) back ∙ table_with-same board.tasks board.table kept.counted)
      back
      (omega arith)

  -- and before one started
  pub before_start : (t : Task) → task_at board.tasks t.key ≡ None → next.tasks ≡ with_task t board.tasks → next.table ≡ table_with next.tasks board.table → next.spare + 1 ≡ board.spare
      → before_change (Started t.key) next ≡ board
  before_start t absent tasks table spare =
      let left : List Task = without (t.key ∷ []) next.tasks in
      let back : left ≡ board.tasks = ap (without (t.key ∷ [])) tasks ∙ gone_again t board.tasks absent kept.ordered in
      board_is _ board
      (ap (table_with left) table ∙ table_with-twice left next.tasks board.table ∙ ap (λ ts. table_with ts board.table) back ∙ table_with-same board.tasks board.table kept.counted)
      back
      (omega arith)

  module _ (undo noted : UndoState) (of_board : IsUndoOf board undo) where
    -- a noted stop
    pub stop_content : (key : TaskKey) (t : Task) → Some t ≡ task_at board.tasks key → next.tasks ≡ without (key ∷ []) board.tasks → next.table ≡ table_with next.tasks board.table → next.spare ≡ board.spare + 1
        → noted.log ≡ Stopped t ∷ undo.log → at_reserve noted next ≡ at_reserve undo board
    stop_content key t runs tasks table spare log = ap (λ l. before_all l next) log ∙ ap (before_all undo.log) (before_stop key t runs tasks table spare)

    pub stop_undo : (key : TaskKey) (t : Task) → Some t ≡ task_at board.tasks key → next.tasks ≡ without (key ∷ []) board.tasks → next.table ≡ table_with next.tasks board.table → next.spare ≡ board.spare + 1
        → noted.log ≡ Stopped t ∷ undo.log → noted.claims ≡ undo.claims → IsUndoOf next noted
    stop_undo key t runs tasks table spare log claims =
        let back = before_stop key t runs tasks table spare in
        let name = own_name board.table board.tasks kept key t runs in
        let gone : task_at next.tasks t.key ≡ None = ap (λ ts. task_at ts t.key) (tasks ∙ ap (λ k. without (k ∷ []) board.tasks) (sym name)) ∙ gone_absent t.key board.tasks in
        record {
          changes = subst (λ l. MayTakeAllBack l next) (sym log) ((gone, omega arith, subst (λ b. Sound (cell_of b)) (sym back) (sound_board board.table board.tasks kept)), subst (MayTakeAllBack undo.log) (sym back) of_board.changes);
          room = omega (arith, of_board.room);
          back = subst (λ n. n ≤ (at_reserve noted next).spare) (sym claims) (subst (λ (b : BoardState). undo.claims ≤ b.spare) (sym (stop_content key t runs tasks table spare log)) of_board.back);
        }

    -- and a noted start
    pub start_content : (t : Task) → task_at board.tasks t.key ≡ None → next.tasks ≡ with_task t board.tasks → next.table ≡ table_with next.tasks board.table → next.spare + 1 ≡ board.spare
        → noted.log ≡ Started t.key ∷ undo.log → at_reserve noted next ≡ at_reserve undo board
    start_content t absent tasks table spare log = ap (λ l. before_all l next) log ∙ ap (before_all undo.log) (before_start t absent tasks table spare)

    pub start_undo : (t : Task) → task_at board.tasks t.key ≡ None → next.tasks ≡ with_task t board.tasks → next.table ≡ table_with next.tasks board.table → next.spare + 1 ≡ board.spare
        → noted.log ≡ Started t.key ∷ undo.log → noted.claims + 1 ≡ undo.claims → IsUndoOf next noted
    start_undo t absent tasks table spare log claims =
        let back = before_start t absent tasks table spare in
        let runs : IsTrue (is_some (task_at next.tasks t.key)) = ap is_some (ap (λ ts. task_at ts t.key) tasks ∙ found_new t board.tasks) in
        record {
          changes = subst (λ l. MayTakeAllBack l next) (sym log) (runs, subst (MayTakeAllBack undo.log) (sym back) of_board.changes);
          room = omega (arith, of_board.room);
          back = let same = ap (λ (b : BoardState). b.spare) (start_content t absent tasks table spare log) in omega (arith, of_board.back, same, claims);
        }

-- a task with which the cell is sound fits its machine
pub sound_room : (board : BoardState) (t : Task) → IsBoard board.table board.tasks → MayStart (cell_of board) t
    → IsSomeAnd (free_at board.table t.machine) (λ free. Fits t.spec.need free)
sound_room board t kept may =
    let absent : task_at board.tasks t.key ≡ None = may.absent in
    let sound = may.sound in
    let up : is_up (machine_at (machines_of board.table) t.machine) ≡ true =
    (each_found (λ y. IsTrue (is_up (machine_at (machines_of board.table) y.machine))) (λ y. same_key y.key t.key) (with_task t board.tasks) t (each_of_all _ _ sound.placed) (found_new t board.tasks)).0 in
    let known = state_up board.table t.machine up in
    let use_now = (in_use board.table board.tasks kept t.machine known.0 known.1).1 in
    let own : is_on t.machine t ≡ true = eq-eqb _ _ refl in
    let use_then : use_on (with_task t board.tasks) t.machine ≡ plus t.spec.need (use_on board.tasks t.machine) = rw own at (total-with (is_on t.machine) t board.tasks absent kept.ordered) in
    let within : Fits (use_on (with_task t board.tasks) t.machine) known.0.machine.cap = cap_within board.table t.machine known.0 known.1 sound.within in
    let free : free_at board.table t.machine ≡ Some known.0.free = ap (option_and_then free_if_up) known.1 ∙ rw known.2 refl in
    subst (λ o. IsSomeAnd o (λ free. Fits t.spec.need free)) (sym free) (
      omega (arith, within.0, ap (λ (n : Need). n.cpu) use_then, ap (λ (n : Need). n.cpu) use_now),
      (omega (arith, within.1.0, ap (λ (n : Need). n.mem) use_then, ap (λ (n : Need). n.mem) use_now), omega (arith, within.1.1, ap (λ (n : Need). n.disk) use_then, ap (λ (n : Need). n.disk) use_now)),
    )
  where
    cap_within : (table : List MachineState) (id : ℕ) (s : MachineState) → state_at table id ≡ Some s → All (λ m. Fits (use_on (with_task t board.tasks) m.id) m.cap) (machines_of table)
        → Fits (use_on (with_task t board.tasks) id) s.machine.cap
    cap_within [] id s found all = absurd (none-some s found)
    cap_within (r ∷ rs) id s found all =
        let P : Machine → Type 0 = λ m. Fits (use_on (with_task t board.tasks) m.id) m.cap in
        by_answer (nat_eq r.machine.id id)
        (λ h.
        let same : r ≡ s = same_Some r s (rw h at found) in
        let here : Fits (use_on (with_task t board.tasks) r.machine.id) r.machine.cap = All-head P r.machine (machines_of rs) all in
        subst (λ (q : MachineState). Fits (use_on (with_task t board.tasks) id) q.machine.cap) same (subst (λ n. Fits (use_on (with_task t board.tasks) n) r.machine.cap) (eqb-true _ _ h) here))
        (λ h. cap_within rs id s (rw h at found) (All-tail P r.machine (machines_of rs) all))
