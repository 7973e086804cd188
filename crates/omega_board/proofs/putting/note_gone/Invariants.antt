use Rattle.std.proofs.Common.{◌≡◌, ◌++◌, drop}
use Rattle.omega_model.specs.Cell.{keys_of}
use Rattle.omega_board.specs.Putting.{lacking}
use Rattle.omega_board.proofs.putting.note_gone.Given as goal

abbrev pub invariant-loop-task : goal.invariant-loop-task
invariant-loop-task l =
    l.gone.items ++ keys_of (lacking l.tasks (drop l.task-index l.running)) ≡ l.fn.gone.items ++ keys_of (lacking l.tasks l.running)
