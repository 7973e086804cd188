use Rattle.omega_sim.specs.Agenda.{IsFirstBelow}
use Rattle.omega_sim.proofs.agenda.Agenda.first.Given as goal

abbrev pub invariant-loop-scheduler : goal.invariant-loop-scheduler
invariant-loop-scheduler l = IsFirstBelow l.self l.scheduler l.first
