use Rattle.omega_machines.proofs.Finding.{LeftBetween}
use Rattle.omega_machines.proofs.table.forget_rest.Given as goal

abbrev pub invariant-loop-position : goal.invariant-loop-position
invariant-loop-position l = LeftBetween l.places l.states l.fn.from l.position
