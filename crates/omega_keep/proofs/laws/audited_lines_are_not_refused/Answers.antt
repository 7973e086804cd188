use Rattle.omega_keep.proofs.NoneRefused.{never_refused}
use Rattle.omega_keep.proofs.laws.audited_lines_are_not_refused.Goals as goal

pub returns : goal.returns
returns c = λ lines history place audited first. never_refused lines history place audited first
