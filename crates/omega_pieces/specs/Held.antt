-- The rows that are held.
use Rattle.std.specs.Prelude.{◌≡◌, ◌<◌, ℕ, List, [], map, unwrap_or}
use Rattle.std.specs.BTreeMap as tree
use Rattle.std.specs.BTreeMap.{BTreeMap}
use Rattle.omega_model.specs.Fields.{TaskFields}
use Rattle.omega_model.specs.declared.cells.TaskKey.{TaskKey}
use Rattle.omega_model.specs.declared.rows.Row.{Row}
use Rattle.omega_model.specs.declared.rows.Row.TheVariants.{Task as TaskEvent}
use Rattle.omega_pieces.specs.HowFar.{piece_cmp}
use Rattle.omega_pieces.specs.PieceRows.{piece_rows}

-- the rows that are held of a task's piece of this number
abbrev pub held_rows : BTreeMap (TaskKey × ℕ) (List TaskFields) → TaskKey → ℕ → List TaskFields
held_rows held key number = unwrap_or (tree.get piece_cmp held (key, number)) []

-- the rows that are held of pieces that are to come are these pieces' rows among those that were applied
abbrev pub AreHeld : List Row → (TaskKey → ℕ) → BTreeMap (TaskKey × ℕ) (List TaskFields) → Type 0
AreHeld rows often held =
    (key : TaskKey) (number : ℕ) → often key < number → map (λ row. TaskEvent row) (held_rows held key number) ≡ piece_rows key number rows
