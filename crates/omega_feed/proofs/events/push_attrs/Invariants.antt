use Rattle.std.proofs.Common.{◌≡◌, ◌++◌, map, drop}
use Rattle.omega_model.specs.declared.rows.Row.TheVariants.{Attr}
use Rattle.omega_feed.proofs.events.push_attrs.Given as goal

abbrev pub invariant-loop-row : goal.invariant-loop-row
invariant-loop-row l = l.rows.items ++ map (λ row. Attr row) (drop l.row-index l.attrs) ≡ l.fn.rows.items ++ map (λ row. Attr row) l.fn.attrs
