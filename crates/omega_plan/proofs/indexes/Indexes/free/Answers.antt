use Rattle.std.proofs.Common.{◌∙◌}
use Rattle.omega_plan.proofs.Tells.{frees_least}
use Rattle.omega_plan.proofs.indexes.Indexes.free.Goals as goal

pub returns : goal.returns
returns c = λ cell tell. tell.free ∙ frees_least cell
