use Rattle.std.proofs.Common.{◌≡◌, [], take}
use Rattle.std.specs.Prelude.{slice_get, unwrap_or}
use Rattle.std.specs.BTreeMap as tree
use Rattle.std.specs.List.{filter, filter_map}
use Rattle.omega_model.specs.Keys.{same_key}
use Rattle.omega_model.specs.declared.cells.TaskKey.{TaskKey}
use Rattle.omega_feed.specs.Index.{key_cmp}
use Rattle.omega_feed.proofs.constraints.places_of.Given as goal

abbrev pub invariant-loop-place : goal.invariant-loop-place
invariant-loop-place l =
    (key : TaskKey) → filter_map (slice_get l.rows) (unwrap_or (tree.get key_cmp l.places key) []) ≡ filter (λ row. same_key row.key key) (take l.place l.rows)
