use Rattle.std.proofs.Common.{◌≡◌}
use Rattle.omega_rounds.specs.Clocked.{TimedRound}
use Rattle.omega_rounds.specs.InTime.{GoesByClock}
use Rattle.omega_rounds.proofs.clock.commit_all.Given as goal

abbrev pub invariant-loop-scheduler : goal.invariant-loop-scheduler
invariant-loop-scheduler l =
    (l.world.stage ≡ l.fn.world.stage)
    × (((timed : TimedRound) × GoesByClock timed l.world l.agenda l.times)
    × ((timed : TimedRound) → GoesByClock timed l.fn.world l.fn.agenda l.fn.times → GoesByClock timed l.world l.agenda l.times))

abbrev pub decreases-loop-scheduler : goal.decreases-loop-scheduler
decreases-loop-scheduler l = l.world.to_do
