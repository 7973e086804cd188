use Rattle.std.proofs.Common.{◌≡◌}
use Rattle.omega_rounds.proofs.PlayedTurns.{TakesTurns}
use Rattle.omega_rounds.proofs.turns.play_round.Given as goal

abbrev pub invariant-loop : goal.invariant-loop
invariant-loop g l = (l.world.stage ≡ l.fn.world.stage) × TakesTurns l.fn.world l.world

abbrev pub decreases-loop : goal.decreases-loop
decreases-loop g l = l.world.to_do
