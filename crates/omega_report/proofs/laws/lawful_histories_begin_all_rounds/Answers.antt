use Rattle.omega_report.proofs.RoundsCounted.{rounds_counted}
use Rattle.omega_report.proofs.laws.lawful_histories_begin_all_rounds.Goals as goal

pub returns : goal.returns
returns c settings trace history lawful = rounds_counted settings trace history lawful
