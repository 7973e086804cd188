use Rattle.omega_machines.specs.Names.{AreOutside}
use Rattle.omega_machines.proofs.indexes.drop_between.Given as goal

abbrev pub invariant-loop-place : goal.invariant-loop-place
invariant-loop-place l = AreOutside l.fn.indexes l.indexes l.fn.from l.place-counter
