use Rattle.omega_rounds.proofs.InTime.{ends_in_time, none_is_first}
use Rattle.omega_rounds.proofs.clock.commit_all.Goals as goal

pub returns-clause-ends : goal.returns-clause-ends
returns-clause-ends c timed goes =
    ends_in_time timed c.loop-scheduler.world c.loop-scheduler.agenda c.loop-scheduler.times (c.loop-scheduler.invariant.1.1 timed goes)
    (none_is_first c.loop-scheduler.agenda c.first.result c.first.ensures c.in_default.not-Some)
