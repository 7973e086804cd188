use Rattle.omega_laws.specs.VirtualTime.{KeepsTime}
use Rattle.omega_laws.proofs.TimedOn.{timed_push_round}
use Rattle.omega_laws.proofs.time.one_more_round_in_time.Goals as goal

pub returns : goal.returns
returns c settings trace = timed_push_round settings trace (KeepsTime settings trace)
