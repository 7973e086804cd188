use Rattle.omega_gen.proofs.Unrefused.{none_refused}
use Rattle.omega_gen.proofs.laws.generated_tables_are_never_refused.Goals as goal

pub returns : goal.returns
returns c = none_refused
