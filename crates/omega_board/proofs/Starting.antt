-- Tasks that start one after the other.
use Rattle.std.proofs.Common.{◌≡◌, ℕ, suc, ◌+◌, ◌<◌, ◌≤◌, List, ◌∷◌, length, get_or, drop, sym, ap, ◌∙◌, subst, arith, add-one}
use Rattle.std.proofs.Math.Seq.{drop-cons}
use Rattle.omega_model.specs.Cell.{Cell, with_task}
use Rattle.omega_model.specs.declared.cells.Task.{Task}
use Rattle.omega_machines.specs.Table.{machines_of, seq_at}
use Rattle.omega_board.specs.Board.{BoardState, cell_of, table_with}
use Rattle.omega_board.specs.Putting.{MayStartAll, with_tasks_of}
use Rattle.omega_board.proofs.Commits.{cell_is}
use Rattle.omega_board.proofs.Rewinds.{machines_with, seq_with}

module _ (old new : BoardState) (tasks : List Task) (i : ℕ) (d : Task) (below : i < length tasks) (started : new.tasks ≡ with_task (get_or tasks i d) old.tasks)
    (counted : new.table ≡ table_with new.tasks old.table) where
  -- the tasks from a place on are the one there and those behind it
  next : drop i tasks ≡ get_or tasks i d ∷ drop (i + 1) tasks
  next = drop-cons tasks i d below ∙ ap (λ n. get_or tasks i d ∷ drop n tasks) (sym (add-one i))

  -- a start leaves the machines and their sequence numbers
  pub machines_started : machines_of new.table ≡ machines_of old.table
  machines_started = ap machines_of counted ∙ machines_with new.tasks old.table

  pub seqs_started : (id : ℕ) → seq_at new.table id ≡ seq_at old.table id
  seqs_started id = ap (λ t. seq_at t id) counted ∙ seq_with new.tasks old.table id

  -- the others may start then
  pub others_start : MayStartAll (cell_of old) (drop i tasks) → MayStartAll (cell_of new) (drop (i + 1) tasks)
  others_start may =
      let cell : cell_of new ≡ record (cell_of old) { tasks = with_task (get_or tasks i d) old.tasks } = cell_is _ _ machines_started started in
      subst (λ (c : Cell). MayStartAll c (drop (i + 1) tasks)) (sym cell) (subst (MayStartAll (cell_of old)) next may).1

  -- and run with it in the end
  pub running_started : with_tasks_of new.tasks (drop (i + 1) tasks) ≡ with_tasks_of old.tasks (drop i tasks)
  running_started = ap (λ ts. with_tasks_of ts (drop (i + 1) tasks)) started ∙ ap (with_tasks_of old.tasks) (sym next)

  -- with room for as many
  pub room_started : length (drop i tasks) ≤ old.spare → new.spare + 1 ≡ old.spare → length (drop (i + 1) tasks) ≤ new.spare
  room_started room used = let long : length (drop i tasks) ≡ suc (length (drop (i + 1) tasks)) = ap length next in omega (arith, long, room, used)
