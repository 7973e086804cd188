-- What is kept of the pieces of a trace's tasks.
use Rattle.std.specs.Prelude.{◌≡◌, ℕ, List, nat_lt, slice_get, if◌then◌else◌}
use Rattle.std.specs.BTreeMap as tree
use Rattle.omega_model.specs.ExtraTasks.{first_extra}
use Rattle.omega_model.specs.declared.cells.TaskKey.{TaskKey}
use Rattle.omega_model.specs.declared.entries.Entry.{Entry}
use Rattle.omega_model.specs.declared.rows.Row.{Row}
use Rattle.omega_model.specs.declared.rows.TraceTables.{TraceTables}
use Rattle.omega_free_laws.specs.Lives.{ended, lives_of, pieces_of}
use Rattle.omega_pieces.specs.HowFar.{IsProgress, progress_at, piece_cmp}
use Rattle.omega_pieces.specs.Held.{AreHeld}
use Rattle.omega_pieces.specs.declared.task_pieces.TaskPieces.{TaskPieces}

-- how often a task of the trace has ended; of extra tasks nothing is kept
abbrev pub own_ended : List Entry → TaskKey → ℕ
own_ended history key = if nat_lt key.index first_extra then ended history key else 0

-- the pieces are those of a trace's tasks, once these of its rows were applied and the tasks have ended as in a history
pub record KeepsPieces (trace : TraceTables) (rows : List Row) (history : List Entry) (pieces : TaskPieces) : Type 0 where
  pub lives : (key : TaskKey) (number : ℕ) → tree.get piece_cmp pieces.lives (key, number) ≡ slice_get (lives_of trace key) number
  pub progress : (key : TaskKey) → IsProgress (pieces_of key rows) (own_ended history key) (progress_at pieces.by_task key)
  pub held : AreHeld rows (own_ended history) pieces.held
