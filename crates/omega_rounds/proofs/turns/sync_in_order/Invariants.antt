use Rattle.omega_rounds.proofs.PlayedTurns.{IsSyncing}
use Rattle.omega_rounds.proofs.turns.sync_in_order.Given as goal

abbrev pub invariant-loop-scheduler : goal.invariant-loop-scheduler
invariant-loop-scheduler l = IsSyncing l.fn.world l.world l.scheduler
