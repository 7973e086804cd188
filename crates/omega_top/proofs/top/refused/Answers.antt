use Rattle.omega_top.proofs.NoHistory.{sound_empty, turns_empty}
use Rattle.omega_top.proofs.top.refused.Goals as goal

pub returns-clause-turns : goal.returns-clause-turns
returns-clause-turns c = rw c.new.ensures turns_empty

pub returns-clause-sound : goal.returns-clause-sound
returns-clause-sound c = rw c.new.ensures sound_empty
