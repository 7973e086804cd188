use Rattle.std.proofs.Common.{◌≡◌, ◌++◌, map, drop}
use Rattle.omega_model.specs.declared.rows.Row.TheVariants.{Machine}
use Rattle.omega_feed.proofs.events.push_machines.Given as goal

abbrev pub invariant-loop-row : goal.invariant-loop-row
invariant-loop-row l = l.rows.items ++ map (λ row. Machine row) (drop l.row-index l.machines) ≡ l.fn.rows.items ++ map (λ row. Machine row) l.fn.machines
