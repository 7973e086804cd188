use Rattle.std.proofs.Common.{◌≡◌, ◌++◌, drop}
use Rattle.omega_board.specs.Putting.{lacking}
use Rattle.omega_board.proofs.board.Board.note_came.Given as goal

abbrev pub invariant-loop-task : goal.invariant-loop-task
invariant-loop-task l =
    l.came.items ++ lacking l.self.tasks (drop l.task-index l.tasks) ≡ l.fn.came.items ++ lacking l.self.tasks l.tasks
