use Rattle.std.proofs.Common.{◌≡◌, ◌≤◌, List, length}
use Rattle.omega_laws.specs.VirtualTime.{Timed}
use Rattle.omega_model.specs.Policy.{schedulers}
use Rattle.omega_rounds.specs.Clocked.{TimedRound}
use Rattle.omega_rounds.specs.InTime.{StandsInTime}
use Rattle.omega_rounds.proofs.clock.sync_all.Given as goal

abbrev pub invariant-loop-scheduler : goal.invariant-loop-scheduler
invariant-loop-scheduler l =
    (l.world.stage ≡ l.fn.world.stage)
    × ((length l.agenda ≡ schedulers l.fn.world.stage.settings)
    × ((timed : TimedRound) (times : List Timed)
    → StandsInTime timed l.fn.world l.fn.agenda times (λ scheduler. 0 ≤ scheduler) l.fn.base
    → StandsInTime timed l.world l.agenda times (λ scheduler. l.scheduler ≤ scheduler) l.fn.base))
