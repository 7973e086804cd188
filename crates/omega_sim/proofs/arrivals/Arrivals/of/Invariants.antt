use Rattle.std.proofs.Common.{◌<◌, ◌^◌, take}
use Rattle.std.specs.Prelude.{All}
use Rattle.omega_model.specs.Feed.{time_of}
use Rattle.omega_model.specs.Lawful.{rows_of}
use Rattle.omega_sim.specs.Arriving.{AreArrivals}
use Rattle.omega_sim.proofs.arrivals.Arrivals.of.Given as goal

abbrev pub invariant-loop-i : goal.invariant-loop-i
invariant-loop-i l = record {
  arrivals : AreArrivals (take l.i l.rounds) l.arrivals;
  early : All (λ row. time_of row < 2 ^ 64) (rows_of (take l.i l.rounds));
}
