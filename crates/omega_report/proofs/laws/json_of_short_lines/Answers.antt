use Rattle.omega_report.proofs.ShortWords.{json_same}
use Rattle.omega_report.proofs.laws.json_of_short_lines.Goals as goal

pub returns : goal.returns
returns c lines plain short = json_same lines plain short
