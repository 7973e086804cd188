-- Parts that lead from a board to a target, put step by step.
use Rattle.std.proofs.Common.{◌≡◌, ℕ, ◌+◌, ◌≤◌, Bool, true, false, not, ◌||◌, ◌&&◌, nat_eq, List, [], ◌∷◌, ◌++◌, length, slice_get, Some, IsTrue, refl, sym, ap, ◌∙◌, subst, arith, ◌==◌, if◌then◌else◌}
use Rattle.std.specs.List.{filter, fold, IsDistinct, AllByRecursion as Each}
use Rattle.std.specs.Option.{option_map}
use Rattle.std.proofs.lemmas.Bool.{both_ways, eqb-true, eq-eqb, or_from}
use Rattle.std.proofs.lemmas.List.{length-map}
use Rattle.std.proofs.lemmas.Map.Keys.{IsDistinct-tail}
use Rattle.std.proofs.lemmas.Option.{same_Some, slice_get-map}
use Rattle.omega_model.specs.Cell.{Cell, machine_at, task_at, with_task, without, total, is_on, use_on, keys_of}
use Rattle.omega_model.specs.Fields.{greatest}
use Rattle.omega_model.specs.Judge.{is_up}
use Rattle.omega_model.specs.Keys.{same_key, is_among}
use Rattle.omega_model.specs.Legal.{Sound}
use Rattle.omega_model.specs.Machines.{is_listed, numbers_of}
use Rattle.omega_model.specs.Need.{Fits}
use Rattle.omega_model.specs.declared.cells.Machine.{Machine}
use Rattle.omega_model.specs.declared.cells.Need.{Need}
use Rattle.omega_model.specs.declared.cells.Task.{Task}
use Rattle.omega_model.specs.declared.cells.TaskKey.{TaskKey}
use Rattle.omega_model.specs.declared.delta.Part.{Part}
use Rattle.omega_machines.specs.declared.MachineState.{MachineState}
use Rattle.omega_machines.specs.Table.{machines_of, seq_at, ensured_states}
use Rattle.omega_machines.proofs.Laws.{seq_ensured}
use Rattle.omega_running.specs.Kept.{KeysRise}
use Rattle.omega_running.specs.declared.orders.Order.TheVariants.{ByKey}
use Rattle.omega_running.specs.Order.{IsInOrder, precedes}
use Rattle.omega_running.specs.Standing.{stands_in}
use Rattle.omega_running.proofs.Kept.{rises_filter}
use Rattle.omega_board.specs.Board.{BoardState, IsBoard, cell_of}
use Rattle.omega_board.specs.Parts.{part_in, Target, LeadTo, IsAt}
use Rattle.omega_board.specs.Putting.{lacking, gone_of, came_of, listed_parts, with_row, seq_put, with_tasks_of, MayPutRow, MayStart, MayStartAll}
use Rattle.omega_board.proofs.Claims.{without_none}
use Rattle.omega_board.proofs.Commits.{cell_is}
use Rattle.omega_board.proofs.Lacking.{stands_on, stands_found, common, moved, moved_left}
use Rattle.omega_board.proofs.Numbered.{others_behind, distinct_kept, machine_there}
use Rattle.omega_board.proofs.Places.{each_get}
use Rattle.omega_board.proofs.Ranks.{Apart, ordered_apart, filter_apart, each_here}
use Rattle.omega_board.proofs.Rewritten.{listing, putting, rows_put, seq_kept, listed_still, unlisted_still, listed_machines, parts_flat, parts_fold, parts_each}
use Rattle.omega_board.proofs.Sounds.{names_distinct}
use Rattle.omega_board.proofs.Tasks.{without_ordered, found_still, gone_absent, back_again, stays}
use Rattle.omega_model.proofs.Amounts.{fits_trans, total_fewer}
use Rattle.omega_model.proofs.InOrder.{key_same}
use Rattle.omega_model.proofs.Lists.{by_answer, each_map, each_both, each_append, each_of_all, all_of_each, filter_none, filter_where, each_filter, each_passes, filter_and, filter_alike}

-- some of the tasks use no more
use_fewer : (p : Task → Bool) (tasks : List Task) (id : ℕ) → Fits (use_on (filter p tasks) id) (use_on tasks id)
use_fewer p tasks id =
    subst (λ (n : Need). Fits n (use_on tasks id)) (ap total (sym (filter_and (is_on id) p tasks)))
    (total_fewer (λ t. is_on id t && p t) (is_on id) (λ t both. left_of (is_on id t) (p t) both) tasks)
  where
    left_of : (a b : Bool) → (a && b) ≡ true → a ≡ true
    left_of true b e = refl
    left_of false b e = e

-- with some of its tasks a cell is sound
sound_fewer : (cell : Cell) → Sound cell → IsInOrder ByKey cell.tasks → (p : Task → Bool) → Sound (record cell { tasks = filter p cell.tasks })
sound_fewer cell sound order p = record {
  keys = names_distinct (filter p cell.tasks) (rises_filter (precedes ByKey) p cell.tasks order);
  placed = all_of_each (λ t. IsTrue (is_up (machine_at cell.machines t.machine))) (filter p cell.tasks)
      (each_filter (λ t. IsTrue (is_up (machine_at cell.machines t.machine))) p cell.tasks (each_of_all (λ t. IsTrue (is_up (machine_at cell.machines t.machine))) cell.tasks sound.placed));
  numbers = sound.numbers;
  within = all_of_each (λ row. Fits (use_on (filter p cell.tasks) row.id) row.cap) cell.machines
      (each_map (λ row. Fits (use_on cell.tasks row.id) row.cap) (λ row. Fits (use_on (filter p cell.tasks) row.id) row.cap)
      (λ row fits. fits_trans _ _ _ (use_fewer p cell.tasks row.id) fits) cell.machines (each_of_all _ cell.machines sound.within));
}

-- tasks of distinct names
apart_append : (xs ys : List Task) → Apart xs → Apart ys → Each (λ x. Each (λ y. same_key x.key y.key ≡ false) ys) xs → Apart (xs ++ ys)
apart_append [] ys one two cross = two
apart_append (x ∷ xs) ys one two cross =
    (each_append (λ y. same_key x.key y.key ≡ false) xs ys one.0 cross.0, apart_append xs ys one.1 two cross.1)

-- making a table list machines leaves the sequence numbers
seq_listed : (table : List MachineState) (parts : List Part) (id : ℕ) → seq_at (listed_parts table parts) id ≡ seq_at table id
seq_listed table [] id = refl
seq_listed table (part ∷ parts) id = seq_listed (ensured_states part.machine.id table) parts id ∙ seq_ensured part.machine.id table id

module _ (stands : Task → Bool) (xs : List Task) (order : IsInOrder ByKey xs) where
  moved_here : (row : Machine) → Each (λ t. (task_at xs t.key ≡ Some t) × (is_on row.id t ≡ true)) (filter (λ t. not (stands t)) (filter (is_on row.id) xs))
  moved_here row =
      each_filter _ (λ t. not (stands t)) (filter (is_on row.id) xs)
      (each_both (λ t. is_on row.id t ≡ true) (λ t. task_at xs t.key ≡ Some t) (λ t. (task_at xs t.key ≡ Some t) × (is_on row.id t ≡ true)) (λ t on found. (found, on))
      (filter (is_on row.id) xs) (each_passes (is_on row.id) xs) (each_filter _ (is_on row.id) xs (each_here xs order)))

  pub moved_found : (rows : List Machine) → Each (λ t. task_at xs t.key ≡ Some t) (moved stands xs rows)
  moved_found [] = tt
  moved_found (row ∷ rows) =
      each_append _ (filter (λ t. not (stands t)) (filter (is_on row.id) xs)) (moved stands xs rows)
      (each_map (λ t. (task_at xs t.key ≡ Some t) × (is_on row.id t ≡ true)) (λ t. task_at xs t.key ≡ Some t) (λ t both. both.0) _ (moved_here row)) (moved_found rows)

  -- no task of other machines is on this one
  moved_elsewhere : (id : ℕ) (rows : List Machine) → Each (λ row. (row.id == id) ≡ false) rows → Each (λ t. (task_at xs t.key ≡ Some t) × (is_on id t ≡ false)) (moved stands xs rows)
  moved_elsewhere id [] others = tt
  moved_elsewhere id (row ∷ rows) others =
      each_append _ (filter (λ t. not (stands t)) (filter (is_on row.id) xs)) (moved stands xs rows)
      (each_map (λ t. (task_at xs t.key ≡ Some t) × (is_on row.id t ≡ true)) (λ t. (task_at xs t.key ≡ Some t) × (is_on id t ≡ false))
      (λ t both. (both.0, by_answer (is_on id t) (λ on. absurd (both_ways _ others.0 (eq-eqb _ _ (sym (eqb-true _ _ both.1) ∙ eqb-true _ _ on)))) (λ f. f))) _ (moved_here row))
      (moved_elsewhere id rows others.1)

  -- moved tasks have distinct names
  pub moved_apart : (rows : List Machine) → IsDistinct nat_eq (numbers_of rows) → Apart (moved stands xs rows)
  moved_apart [] distinct = tt
  moved_apart (row ∷ rows) distinct =
      apart_append here (moved stands xs rows)
      (filter_apart (λ t. not (stands t)) (filter (is_on row.id) xs) (filter_apart (is_on row.id) xs (ordered_apart xs order)))
      (moved_apart rows (IsDistinct-tail nat_eq row.id (numbers_of rows) distinct))
      (each_map (λ t. (task_at xs t.key ≡ Some t) × (is_on row.id t ≡ true)) (λ x. Each (λ y. same_key x.key y.key ≡ false) (moved stands xs rows))
      (λ x here_x.
      each_map (λ t. (task_at xs t.key ≡ Some t) × (is_on row.id t ≡ false)) (λ y. same_key x.key y.key ≡ false)
      (λ y there_y. differ x y here_x.0 here_x.1 there_y.0 there_y.1) (moved stands xs rows) (moved_elsewhere row.id rows (others_behind row rows distinct)))
      here (moved_here row))
    where
      here : List Task
      here = filter (λ t. not (stands t)) (filter (is_on row.id) xs)

      differ : (x y : Task) → task_at xs x.key ≡ Some x → is_on row.id x ≡ true → task_at xs y.key ≡ Some y → is_on row.id y ≡ false → same_key x.key y.key ≡ false
      differ x y found on found_y off =
          by_answer (same_key x.key y.key)
          (λ t.
          let same : x ≡ y = same_Some x y (sym found ∙ ap (task_at xs) (key_same x.key y.key t) ∙ found_y) in
          absurd (both_ways _ off (ap (is_on row.id) (sym same) ∙ on)))
          (λ f. f)

-- a name that differs from those of others isn't among them
none_among : (t : Task) (ts : List Task) → Each (λ y. same_key t.key y.key ≡ false) ts → is_among t.key (keys_of ts) ≡ false
none_among t [] each = refl
none_among t (y ∷ ts) each = or_from _ _ each.0 (none_among t ts each.1)

-- tasks that a sound cell lacks start one after the other, and then it lacks none
starts : (cell : Cell) → Sound cell → IsInOrder ByKey cell.tasks → (came : List Task) → Each (λ t. task_at cell.tasks t.key ≡ Some t) came → Apart came
    → MayStartAll (record cell { tasks = without (keys_of came) cell.tasks }) came × (with_tasks_of (without (keys_of came) cell.tasks) came ≡ cell.tasks)
starts cell sound order [] found apart = (tt, without_none cell.tasks)
starts cell sound order (t ∷ came) found apart =
    let keys = keys_of came in
    let left : List Task = without keys cell.tasks in
    let absent : is_among t.key keys ≡ false = none_among t came apart.0 in
    let there : task_at left t.key ≡ Some t = found_still keys cell.tasks t.key absent ∙ found.0 in
    let fewer : without (t.key ∷ keys) cell.tasks ≡ without (t.key ∷ []) left =
    sym (filter_and (stays t.key) (λ y. not (is_among y.key keys)) cell.tasks
    ∙ filter_alike (λ y. stays t.key y && not (is_among y.key keys)) (λ y. not (is_among y.key (t.key ∷ keys)))
    (λ y. either (same_key y.key t.key) (is_among y.key keys)) cell.tasks) in
    let back : with_task t (without (t.key ∷ []) left) ≡ left = back_again t left there (without_ordered keys cell.tasks order) in
    let rest = starts cell sound order came found.1 apart.1 in
    let start : MayStart (record cell { tasks = without (t.key ∷ []) left }) t = record {
      absent = gone_absent t.key left;
      sound = subst (λ ts. Sound (record cell { tasks = ts })) (sym back) (sound_fewer cell sound order (λ y. not (is_among y.key keys)));
    } in (
      subst (λ ts. MayStartAll (record cell { tasks = ts }) (t ∷ came)) (sym fewer)
          (start, subst (λ ts. MayStartAll (record cell { tasks = ts }) came) (sym back) rest.0),
      ap (λ ts. with_tasks_of (with_task t ts) came) fewer ∙ ap (λ ts. with_tasks_of ts came) back ∙ rest.1,
    )
  where
    either : (a b : Bool) → (not (a || false) && not b) ≡ not (a || b)
    either true b = refl
    either false true = refl
    either false false = refl

module _ (old : BoardState) (parts : List Part) (target : Target) (leads : LeadTo old parts target) (kept : IsBoard old.table old.tasks) where
  -- the machines of the target that changed
  abbrev changed_rows : List Machine
  changed_rows = filter (λ row. target.changed row.id) target.cell.machines

  -- each part's tasks are in order
  pub parts_ordered : Each (λ part. KeysRise part.tasks) parts
  parts_ordered =
      subst (Each (λ part. KeysRise part.tasks)) (sym leads.brings)
      (parts_each target.changed target.cell target.seqs (λ part. KeysRise part.tasks) 0 target.cell.machines
      (λ i row at. rises_filter (precedes ByKey) (is_on row.id) target.cell.tasks leads.stands.ordered))

  gone_is : gone_of old.tasks parts ≡ moved (stands_in target.cell.tasks) old.tasks changed_rows
  gone_is =
      ap (gone_of old.tasks) leads.brings
      ∙ parts_flat target.changed target.cell target.seqs (λ part. lacking part.tasks (filter (is_on part.machine.id) old.tasks))
      (λ row. filter (λ t. not (stands_in target.cell.tasks t)) (filter (is_on row.id) old.tasks))
      (λ place row. filter_where (λ t. not (stands_in (filter (is_on row.id) target.cell.tasks) t)) (λ t. not (stands_in target.cell.tasks t)) (filter (is_on row.id) old.tasks)
      (each_map (λ t. is_on row.id t ≡ true) (λ t. not (stands_in (filter (is_on row.id) target.cell.tasks) t) ≡ not (stands_in target.cell.tasks t))
      (λ t on. ap not (stands_on target.cell.tasks row.id t leads.stands.ordered on)) (filter (is_on row.id) old.tasks) (each_passes (is_on row.id) old.tasks)))
      0 target.cell.machines

  came_is : came_of old.tasks parts ≡ moved (stands_in old.tasks) target.cell.tasks changed_rows
  came_is =
      ap (came_of old.tasks) leads.brings
      ∙ parts_flat target.changed target.cell target.seqs (λ part. lacking old.tasks part.tasks)
      (λ row. filter (λ t. not (stands_in old.tasks t)) (filter (is_on row.id) target.cell.tasks)) (λ place row. refl) 0 target.cell.machines

  -- a task on a machine that didn't change stands in both
  stays_there : (t : Task) → task_at old.tasks t.key ≡ Some t → target.changed t.machine ≡ false → stands_in target.cell.tasks t ≡ true
  stays_there t found same =
      let on : is_on t.machine t ≡ true = eq-eqb _ _ refl in
      sym (stands_on target.cell.tasks t.machine t leads.stands.ordered on) ∙ ap (λ ts. stands_in ts t) (leads.tasks t.machine same)
      ∙ stands_on old.tasks t.machine t kept.ordered on ∙ stands_found old.tasks t found

  was_there : (t : Task) → task_at target.cell.tasks t.key ≡ Some t → target.changed t.machine ≡ false → stands_in old.tasks t ≡ true
  was_there t found same =
      let on : is_on t.machine t ≡ true = eq-eqb _ _ refl in
      sym (stands_on old.tasks t.machine t kept.ordered on) ∙ ap (λ ts. stands_in ts t) (sym (leads.tasks t.machine same))
      ∙ stands_on target.cell.tasks t.machine t leads.stands.ordered on ∙ stands_found target.cell.tasks t found

  -- once those that go have stopped, the tasks are the target's without those that come
  left : without (keys_of (gone_of old.tasks parts)) old.tasks ≡ without (keys_of (came_of old.tasks parts)) target.cell.tasks
  left =
      ap (λ ts. without (keys_of ts) old.tasks) gone_is
      ∙ moved_left (stands_in target.cell.tasks) old.tasks kept.ordered target.changed target.cell.machines leads.listed stays_there
      ∙ common old.tasks target.cell.tasks kept.ordered leads.stands.ordered
      ∙ sym (moved_left (stands_in old.tasks) target.cell.tasks leads.stands.ordered target.changed target.cell.machines leads.listed was_there)
      ∙ ap (λ ts. without (keys_of ts) target.cell.tasks) (sym came_is)

  rows : (numbers_of (listing (machines_of old.table) changed_rows) ≡ numbers_of target.cell.machines)
      × (putting (listing (machines_of old.table) changed_rows) changed_rows ≡ target.cell.machines)
  rows = rows_put target.changed (machines_of old.table) target.cell.machines leads.rows leads.stands.sound.numbers

  listed : machines_of (listed_parts old.table parts) ≡ listing (machines_of old.table) changed_rows
  listed =
      listed_machines old.table parts
      ∙ ap (fold (λ machines part. ensured_by machines part) (machines_of old.table)) leads.brings
      ∙ parts_fold target.changed target.cell target.seqs (λ machines part. ensured_by machines part) (λ machines row. ensured_for machines row) (λ machines place row. refl) 0 target.cell.machines (machines_of old.table)
    where
      ensured_by : List Machine → Part → List Machine
      ensured_by machines part = listing machines (part.machine ∷ [])

      ensured_for : List Machine → Machine → List Machine
      ensured_for machines row = listing machines (row ∷ [])

  -- so there is room for all machines
  pub room_listed : length (listed_parts old.table parts) ≤ 65536
  room_listed =
      let long : length (numbers_of (machines_of (listed_parts old.table parts))) ≡ length (numbers_of target.cell.machines) = ap (λ ms. length (numbers_of ms)) listed ∙ ap length rows.0 in
      let one : length (numbers_of (machines_of (listed_parts old.table parts))) ≡ length (listed_parts old.table parts) =
      length-map (machines_of (listed_parts old.table parts)) (λ (m : Machine). m.id) ∙ length-map (listed_parts old.table parts) (λ (s : MachineState). s.machine) in
      let two : length (numbers_of target.cell.machines) ≡ length target.cell.machines = length-map target.cell.machines (λ (m : Machine). m.id) in
      omega (arith, long, one, two, leads.stands.few)

  module _ (stopped : BoardState) (tasks : stopped.tasks ≡ without (keys_of (gone_of old.tasks parts)) old.tasks)
      (same_rows : machines_of stopped.table ≡ machines_of (listed_parts old.table parts))
      (same_seqs : (id : ℕ) → seq_at stopped.table id ≡ seq_at (listed_parts old.table parts) id) where
    tasks_left : stopped.tasks ≡ without (keys_of (came_of old.tasks parts)) target.cell.tasks
    tasks_left = tasks ∙ left

    machines_listed : machines_of stopped.table ≡ listing (machines_of old.table) changed_rows
    machines_listed = same_rows ∙ listed

    -- the row of each part may be put
    pub rows_may : Each (MayPutRow (numbers_of (machines_of stopped.table)) stopped.tasks) parts
    rows_may =
        subst (Each (MayPutRow (numbers_of (machines_of stopped.table)) stopped.tasks)) (sym leads.brings)
        (parts_each target.changed target.cell target.seqs (MayPutRow (numbers_of (machines_of stopped.table)) stopped.tasks) 0 target.cell.machines one)
      where
        p : Task → Bool
        p t = not (is_among t.key (keys_of (came_of old.tasks parts)))

        one : (i : ℕ) (row : Machine) → slice_get target.cell.machines i ≡ Some row → MayPutRow (numbers_of (machines_of stopped.table)) stopped.tasks (part_in target.cell target.seqs (0 + i, row))
        one i row at =
            let zero_first : 0 + i ≡ i = omega arith in
            let found : machine_at target.cell.machines row.id ≡ Some row = machine_there target.cell.machines i row leads.stands.sound.numbers at in
            let numbers : numbers_of (machines_of stopped.table) ≡ numbers_of target.cell.machines = ap numbers_of machines_listed ∙ rows.0 in
            record {
              there = ap (slice_get (numbers_of (machines_of stopped.table))) zero_first ∙ ap (λ ns. slice_get ns i) numbers
                  ∙ slice_get-map (λ (m : Machine). m.id) target.cell.machines i ∙ ap (option_map (λ (m : Machine). m.id)) at;
              cap = each_get (λ r. Fits r.cap greatest) target.cell.machines i row (each_of_all _ target.cell.machines leads.stands.caps) at;
              in_use = subst (λ ts. Fits (use_on ts row.id) row.cap) (sym tasks_left)
                  (fits_trans _ _ _ (use_fewer p target.cell.tasks row.id) (each_get (λ r. Fits (use_on target.cell.tasks r.id) r.cap) target.cell.machines i row (each_of_all _ target.cell.machines leads.stands.sound.within) at));
              down = λ isnt.
                  ap (filter (is_on row.id)) tasks_left
                  ∙ filter_none (is_on row.id) (filter p target.cell.tasks)
                  (each_map (λ t. IsTrue (is_up (machine_at target.cell.machines t.machine))) (λ t. is_on row.id t ≡ false)
                  (λ t up.
                  by_answer (is_on row.id t)
                  (λ on. absurd (both_ways _ isnt (sym (ap is_up (ap (machine_at target.cell.machines) (eqb-true _ _ on) ∙ found)) ∙ up)))
                  (λ f. f))
                  (filter p target.cell.tasks) (each_filter _ p target.cell.tasks (each_of_all _ target.cell.tasks leads.stands.sound.placed)));
            }

    module _ (rowed : BoardState) (machines : machines_of rowed.table ≡ fold with_row (machines_of stopped.table) parts)
        (seqs : (id : ℕ) → seq_at rowed.table id ≡ fold (seq_put id) (seq_at stopped.table id) parts) (same : rowed.tasks ≡ stopped.tasks) where
      machines_goal : machines_of rowed.table ≡ target.cell.machines
      machines_goal =
          machines ∙ ap (fold with_row (machines_of stopped.table)) leads.brings
          ∙ parts_fold target.changed target.cell target.seqs with_row (λ ms row. with_own ms row) (λ ms place row. refl) 0 target.cell.machines (machines_of stopped.table)
          ∙ ap (λ ms. putting ms changed_rows) machines_listed ∙ rows.1
        where
          with_own : List Machine → Machine → List Machine
          with_own ms row = putting ms (row ∷ [])

      started : MayStartAll (record target.cell { tasks = without (keys_of (came_of old.tasks parts)) target.cell.tasks }) (came_of old.tasks parts)
          × (with_tasks_of (without (keys_of (came_of old.tasks parts)) target.cell.tasks) (came_of old.tasks parts) ≡ target.cell.tasks)
      started =
          starts target.cell leads.stands.sound leads.stands.ordered (came_of old.tasks parts)
          (subst (Each (λ t. task_at target.cell.tasks t.key ≡ Some t)) (sym came_is) (moved_found (stands_in old.tasks) target.cell.tasks leads.stands.ordered changed_rows))
          (subst Apart (sym came_is) (moved_apart (stands_in old.tasks) target.cell.tasks leads.stands.ordered changed_rows (distinct_kept (λ row. target.changed row.id) target.cell.machines leads.stands.sound.numbers)))

      -- the tasks that come may start
      pub came_may : MayStartAll (cell_of rowed) (came_of old.tasks parts)
      came_may = subst (λ (c : Cell). MayStartAll c (came_of old.tasks parts)) (sym (cell_is (cell_of rowed) _ machines_goal (same ∙ tasks_left))) started.0

      -- and then the board is at the target
      pub reached : (final : BoardState) → final.tasks ≡ with_tasks_of rowed.tasks (came_of old.tasks parts) → machines_of final.table ≡ machines_of rowed.table
          → ((id : ℕ) → seq_at final.table id ≡ seq_at rowed.table id) → IsAt target final
      reached final running rows_stay seqs_stay = record {
        cell = cell_is _ _ (rows_stay ∙ machines_goal) (running ∙ ap (λ ts. with_tasks_of ts (came_of old.tasks parts)) (same ∙ tasks_left) ∙ started.1);
        seqs = λ id. seqs_stay id ∙ seqs id ∙ ap (fold (seq_put id) (seq_at stopped.table id)) leads.brings
            ∙ parts_fold target.changed target.cell target.seqs (seq_put id) (λ n row. if row.id == id then target.seqs row.id else n) (λ n place row. refl) 0 target.cell.machines (seq_at stopped.table id)
            ∙ seq_kept target.seqs id changed_rows (seq_at stopped.table id) ∙ numbered id;
      }
        where
          before : (id : ℕ) → seq_at stopped.table id ≡ seq_at old.table id
          before id = same_seqs id ∙ seq_listed old.table parts id

          numbered : (id : ℕ) → (if is_listed id changed_rows then target.seqs id else seq_at stopped.table id) ≡ target.seqs id
          numbered id =
              by_answer (target.changed id)
              (λ t. let there = listed_still target.changed id t target.cell.machines (leads.listed id t) in rw there refl)
              (λ f. let absent = unlisted_still target.changed id f target.cell.machines in rw absent (before id ∙ sym (leads.seqs id f)))

-- the board once the machines of parts are listed and those tasks have stopped that they lack
pub record IsStopped (now stopped : BoardState) (parts : List Part) : Type 0 where
  pub tasks : stopped.tasks ≡ without (keys_of (gone_of now.tasks parts)) now.tasks
  pub machines : machines_of stopped.table ≡ machines_of (listed_parts now.table parts)
  pub seqs : (id : ℕ) → seq_at stopped.table id ≡ seq_at (listed_parts now.table parts) id

pub stopped_as : (now before listed stopped : BoardState) (parts told : List Part) (keys : List TaskKey) → before.table ≡ now.table → before.tasks ≡ now.tasks
    → listed ≡ record before { table = listed_parts before.table told } → told ≡ parts → keys ≡ keys_of (gone_of now.tasks parts)
    → stopped.tasks ≡ without keys listed.tasks → machines_of stopped.table ≡ machines_of listed.table → ((id : ℕ) → seq_at stopped.table id ≡ seq_at listed.table id) → IsStopped now stopped parts
stopped_as now before rows_in stopped parts told keys table tasks all same names stop rows seqs =
    let made : rows_in.table ≡ listed_parts now.table parts = ap (λ (b : BoardState). b.table) all ∙ (λ i. listed_parts (table i) (same i)) in
    record {
      tasks = stop ∙ (λ i. without (names i) ((ap (λ (b : BoardState). b.tasks) all ∙ tasks) i));
      machines = rows ∙ ap machines_of made;
      seqs = λ id. seqs id ∙ ap (λ t. seq_at t id) made;
    }
