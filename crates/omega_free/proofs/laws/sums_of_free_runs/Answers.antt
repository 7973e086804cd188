use Rattle.omega_free.specs.EndsLeft.{left_of}
use Rattle.omega_free.specs.FreeRuns.{reading_of}
use Rattle.omega_free.proofs.FreeSums.{free_sums_fit}
use Rattle.omega_free.proofs.LivesTame.{tame_by}
use Rattle.omega_free.proofs.laws.sums_of_free_runs.Goals as goal

pub returns : goal.returns
returns c settings trace history times range bounds free =
    free_sums_fit settings (reading_of settings trace) range (left_of settings trace) (tame_by settings.ends trace bounds) history times free
