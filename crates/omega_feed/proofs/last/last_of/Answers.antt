use Rattle.omega_feed.proofs.Lasting.{last_named}
use Rattle.omega_feed.proofs.last.last_of.Goals as goal

pub loop-row-preserved : goal.loop-row-preserved
loop-row-preserved g c =
    last_named _ g.R.Named.name g.R.Named.amount g.R.Named.most c.args.rows.now c.loop-row.row-index c.row-item.result c.name.result c.amount.result c.loop-row.last c.insert.new.self
    c.loop-row-test.true c.row-item.is c.name.ensures c.amount.ensures.amount
    c.amount.ensures.range c.in_ok-insert.ensures.updates c.loop-row.invariant
