use Rattle.omega_free_laws.proofs.LawsOfRuns.{holds_by_rows}
use Rattle.omega_free_laws.proofs.histories.free_histories_by_rows.Goals as goal

pub returns : goal.returns
returns c = holds_by_rows
