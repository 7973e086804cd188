use Rattle.std.proofs.Common.{◌≡◌, take}
use Rattle.omega_laws.specs.Simulated.{greatest_time}
use Rattle.omega_sim.proofs.arrivals.greatest_time.Given as goal

abbrev pub invariant-loop-row : goal.invariant-loop-row
invariant-loop-row l = l.greatest ≡ greatest_time (take l.row-index l.rows)
