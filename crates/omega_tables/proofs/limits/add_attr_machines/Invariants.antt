use Rattle.std.proofs.Common.{ℕ, List, ◌++◌, take, map}
use Rattle.omega_tables.specs.Checking.{Holds}
use Rattle.omega_tables.proofs.limits.add_attr_machines.Given as goal

abbrev pub invariant-loop-row : goal.invariant-loop-row
invariant-loop-row l = (before : List ℕ) → Holds l.fn.named before → Holds l.named (before ++ map (λ row. row.machine) (take l.row-index l.rows))
