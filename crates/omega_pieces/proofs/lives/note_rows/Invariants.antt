use Rattle.std.proofs.Common.{List, take, ◌++◌}
use Rattle.omega_model.specs.declared.rows.Row.{Row}
use Rattle.omega_pieces.specs.HowFar.{KeepsLives}
use Rattle.omega_pieces.proofs.lives.note_rows.Given as goal

abbrev pub invariant-loop-row : goal.invariant-loop-row
invariant-loop-row l =
    (before : List Row) → KeepsLives before l.initial.by_task l.initial.lives → KeepsLives (before ++ take l.row-index l.rows) l.by_task l.lives
