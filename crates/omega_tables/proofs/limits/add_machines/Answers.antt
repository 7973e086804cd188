use Rattle.std.proofs.Common.{arith}
use Rattle.omega_tables.proofs.Counting.{holds_more}
use Rattle.omega_tables.proofs.limits.add_machines.Goals as goal

pub loop-row-preserved : goal.loop-row-preserved
loop-row-preserved c = λ before held.
    holds_more (λ row. row.machine) c.loop-row.named c.insert.new.self before c.args.rows.now c.loop-row.row-index c.row-item.result c.in_ok-insert.field-0
    (omega arith) c.row-item.is (c.loop-row.invariant before held)
    (rw (← c.row.view_is) c.in_ok-insert.ensures.added) c.in_ok-insert.ensures.len (rw (← c.row.view_is) c.in_ok-insert.ensures.updates)
