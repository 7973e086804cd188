use Rattle.std.proofs.Common.{◌-◌, length}
use Rattle.omega_rounds.proofs.PlayedRounds.{HasPlayed}
use Rattle.omega_rounds.proofs.turns.in_turns.Given as goal

abbrev pub invariant-loop-next : goal.invariant-loop-next
invariant-loop-next g l = HasPlayed l.fn.world l.world

abbrev pub decreases-loop-next : goal.decreases-loop-next
decreases-loop-next g l = length l.world.stage.source.rounds - l.world.stage.begun
