use Rattle.omega_free_laws.proofs.LawsOfRuns.{holds_by_lives}
use Rattle.omega_free_laws.proofs.histories.free_histories_by_lives.Goals as goal

pub returns : goal.returns
returns c = holds_by_lives
