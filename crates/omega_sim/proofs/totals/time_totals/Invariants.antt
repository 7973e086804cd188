use Rattle.std.proofs.Common.{◌≡◌, map}
use Rattle.std.specs.List.{range_with_len}
use Rattle.omega_sim.proofs.OneByOne.{totals_by}
use Rattle.omega_sim.proofs.totals.time_totals.Given as goal

abbrev pub invariant-loop-scheduler : goal.invariant-loop-scheduler
invariant-loop-scheduler l =
    l.totals ≡ map (totals_by l.arrivals.first_times l.synced l.span l.history l.times) (range_with_len 0 l.scheduler)
