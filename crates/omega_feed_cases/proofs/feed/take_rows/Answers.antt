use Rattle.omega_feed.proofs.Quiet.{all_quiet}
use Rattle.omega_feed_cases.proofs.feed.take_rows.Goals as goal

pub loop-row-init : goal.loop-row-init
loop-row-init c tasks = all_quiet _ _ tasks c.requires

pub loop-row-preserved : goal.loop-row-preserved
loop-row-preserved c tasks = c.in_ok-take.ensures.quiet tasks (c.loop-row.invariant tasks)
