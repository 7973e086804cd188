use Rattle.std.proofs.Common.{take, arith}
use Rattle.omega_model.specs.State.{state}
use Rattle.omega_plan.proofs.indexes.Indexes.new.Goals as goal

pub returns : goal.returns
returns c = λ history. record { within = omega arith; free = c.new.ensures.free; levels = c.new-2.ensures (state (take 0 history)) }
