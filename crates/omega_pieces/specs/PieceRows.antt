-- The rows of one piece of a task.
use Rattle.std.specs.Prelude.{ℕ, Bool, List, [], ◌∷◌, ◌++◌, ◌==◌, ◌&&◌, not, length, false, if◌then◌else◌}
use Rattle.omega_model.specs.Keys.{same_key}
use Rattle.omega_model.specs.Wanted.{ends}
use Rattle.omega_model.specs.declared.cells.TaskKey.{TaskKey}
use Rattle.omega_model.specs.declared.rows.Row.{Row}
use Rattle.omega_model.specs.declared.rows.Row.TheVariants.{Task as TaskEvent}
use Rattle.omega_free_laws.specs.Lives.{pieces_of}

-- whether a row that stands behind these is of a task's piece of this number, and doesn't end a task
abbrev pub is_of_piece : TaskKey → ℕ → List Row → Row → Bool
is_of_piece key number before (TaskEvent row) =
    same_key row.key key && (not (ends row.code) && length (pieces_of row.key before).lives == number)
is_of_piece key number before _ = false

-- those of some rows that stand behind these that are so
abbrev pub piece_rows_behind : TaskKey → ℕ → List Row → List Row → List Row
piece_rows_behind key number before [] = []
piece_rows_behind key number before (row ∷ rows) =
    (if is_of_piece key number before row then row ∷ [] else []) ++ piece_rows_behind key number (before ++ row ∷ []) rows

-- the rows of a task's piece of this number, but for the row that ends it
abbrev pub piece_rows : TaskKey → ℕ → List Row → List Row
piece_rows key number rows = piece_rows_behind key number [] rows
