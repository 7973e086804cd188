use Rattle.omega_rounds.proofs.PlayedTurns.{IsCommitting}
use Rattle.omega_rounds.proofs.turns.commit_all.Given as goal

abbrev pub invariant-loop-scheduler : goal.invariant-loop-scheduler
invariant-loop-scheduler l = IsCommitting l.fn.world l.world l.committed l.scheduler
