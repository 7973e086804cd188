use Rattle.omega_report.proofs.Compact.{lines_compact}
use Rattle.omega_report.proofs.laws.json_is_compact.Goals as goal

pub returns : goal.returns
returns c lines plain = lines_compact lines plain
