use Rattle.std.proofs.Common.{◌<◌, ◌^◌, List, ◌++◌, take}
use Rattle.std.specs.Prelude.{All}
use Rattle.omega_model.specs.Feed.{time_of}
use Rattle.omega_model.specs.declared.rows.Row.{Row}
use Rattle.omega_sim.specs.Arriving.{Arrive}
use Rattle.omega_sim.proofs.arrivals.note_rows.Given as goal

abbrev pub invariant-loop-row : goal.invariant-loop-row
invariant-loop-row l = record {
  arrive : (before : List Row) → Arrive before l.fn.first_times → Arrive (before ++ take l.row-index l.rows) l.first_times;
  early : All (λ row. time_of row < 2 ^ 64) (take l.row-index l.rows);
}
