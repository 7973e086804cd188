use Rattle.std.proofs.Common.{◌≡◌, ◌++◌, map, drop}
use Rattle.omega_model.specs.declared.rows.Row.TheVariants.{Task}
use Rattle.omega_feed.proofs.events.push_tasks.Given as goal

abbrev pub invariant-loop-row : goal.invariant-loop-row
invariant-loop-row l = l.rows.items ++ map (λ row. Task row) (drop l.row-index l.tasks) ≡ l.fn.rows.items ++ map (λ row. Task row) l.fn.tasks
