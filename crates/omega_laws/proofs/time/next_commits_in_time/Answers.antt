use Rattle.omega_laws.proofs.TimeOrder.{comes_next_in_time}
use Rattle.omega_laws.proofs.time.next_commits_in_time.Goals as goal

pub returns : goal.returns
returns c = comes_next_in_time
