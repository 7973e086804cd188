-- How the constraints of a task are found.
use Rattle.std.specs.Prelude.{◌≡◌, ℕ, List, [], slice_get, unwrap_or}
use Rattle.std.specs.BTreeMap as tree
use Rattle.std.specs.BTreeMap.{BTreeMap}
use Rattle.std.specs.List.{filter, filter_map}
use Rattle.omega_model.specs.Fields.{ConstraintFields}
use Rattle.omega_model.specs.Keys.{same_key}
use Rattle.omega_model.specs.declared.cells.TaskKey.{TaskKey}
use Rattle.omega_feed.specs.Index.{key_cmp}

-- at the places that the map has for a task stand its rows
abbrev pub AreListed : BTreeMap TaskKey (List ℕ) → List ConstraintFields → Type 0
AreListed places rows = (key : TaskKey) → filter_map (slice_get rows) (unwrap_or (tree.get key_cmp places key) []) ≡ filter (λ row. same_key row.key key) rows
