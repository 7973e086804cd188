use Rattle.std.proofs.Common.{drop}
use Rattle.omega_model.specs.Cell.{Cell}
use Rattle.omega_board.specs.Numbers.{is_among}
use Rattle.omega_plan.specs.Levels.{LevelsTellBut}
use Rattle.omega_plan.proofs.levels.Levels.note_all.Given as goal

abbrev pub invariant-loop-machine : goal.invariant-loop-machine
invariant-loop-machine l = (cell : Cell) → LevelsTellBut (is_among l.changed) cell l.fn.self → LevelsTellBut (is_among (drop l.machine-index l.changed)) cell l.self
