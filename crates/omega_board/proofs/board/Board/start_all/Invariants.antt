use Rattle.std.proofs.Common.{◌≡◌, ◌≤◌, ℕ, drop, length}
use Rattle.omega_machines.specs.Table.{machines_of, seq_at}
use Rattle.omega_board.specs.Board.{cell_of}
use Rattle.omega_board.specs.Putting.{with_tasks_of, MayStartAll}
use Rattle.omega_board.proofs.board.Board.start_all.Given as goal

abbrev pub invariant-loop-task : goal.invariant-loop-task
invariant-loop-task l = record {
  starts : MayStartAll (cell_of l.self) (drop l.task-index l.tasks);
  room : length (drop l.task-index l.tasks) ≤ l.self.spare;
  running : with_tasks_of l.self.tasks (drop l.task-index l.tasks) ≡ with_tasks_of l.fn.self.tasks l.tasks;
  machines : machines_of l.self.table ≡ machines_of l.fn.self.table;
  seqs : (id : ℕ) → seq_at l.self.table id ≡ seq_at l.fn.self.table id;
}
