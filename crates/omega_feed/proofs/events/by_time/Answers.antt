use Rattle.omega_feed.proofs.Rising.{by_time_is}
use Rattle.omega_feed.proofs.events.by_time.Goals as goal

pub returns : goal.returns
returns c = by_time_is c.args.rows.items c.in_ok-sorted.sorted.items c.in_ok-sorted.ensures.rise c.in_ok-sorted.ensures.same
