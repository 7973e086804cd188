use Rattle.std.proofs.Common.{length}
use Rattle.omega_model.specs.Cell.{Cell}
use Rattle.omega_plan.specs.Levels.{LevelsTell}
use Rattle.omega_plan.proofs.levels.Levels.make_way.Given as goal

abbrev pub invariant-loop-self : goal.invariant-loop-self
invariant-loop-self l = (cell : Cell) → LevelsTell cell l.fn.self → LevelsTell cell l.self

abbrev pub decreases-loop-self : goal.decreases-loop-self
decreases-loop-self l = length l.self.standing.items
