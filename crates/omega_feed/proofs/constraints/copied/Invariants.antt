use Rattle.std.proofs.Common.{◌≡◌, ◌++◌, map, drop}
use Rattle.std.specs.Prelude.{slice_get}
use Rattle.std.specs.List.{filter_map}
use Rattle.omega_feed.proofs.constraints.copied.Given as goal

abbrev pub invariant-loop-place : goal.invariant-loop-place
invariant-loop-place l =
    l.found ++ map (λ row. row.constraint) (filter_map (slice_get l.rows) (drop l.place-index l.places))
    ≡ map (λ row. row.constraint) (filter_map (slice_get l.rows) l.places)
