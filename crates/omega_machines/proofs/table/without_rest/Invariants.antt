use Rattle.std.proofs.Common.{◌≡◌, drop}
use Rattle.omega_machines.specs.Load.{less, load_of_all}
use Rattle.omega_machines.proofs.table.without_rest.Given as goal

abbrev pub invariant-loop-position : goal.invariant-loop-position
invariant-loop-position l =
    less l.left (load_of_all (drop l.position l.states)) ≡ less l.fn.load (load_of_all (drop l.fn.from l.states))
