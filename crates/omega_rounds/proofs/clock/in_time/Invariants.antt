use Rattle.std.proofs.Common.{◌-◌, length}
use Rattle.omega_rounds.proofs.TickedRounds.{HasTicked}
use Rattle.omega_rounds.proofs.clock.in_time.Given as goal

abbrev pub invariant-loop-times : goal.invariant-loop-times
invariant-loop-times l = HasTicked l.fn.world l.world l.times

abbrev pub decreases-loop-times : goal.decreases-loop-times
decreases-loop-times l = length l.world.stage.source.rounds - l.world.stage.begun
