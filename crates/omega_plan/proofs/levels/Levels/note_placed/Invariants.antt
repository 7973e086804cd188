use Rattle.std.specs.List.{zip}
use Rattle.std.specs.Iterator.Adapters.{zip_first, zip_second}
use Rattle.std.specs.Slice.Iter.{iter_rest}
use Rattle.omega_model.specs.Cell.{Cell}
use Rattle.omega_model.specs.Touches.{is_claimed}
use Rattle.omega_plan.specs.Levels.{LevelsTellBut}
use Rattle.omega_plan.proofs.levels.Levels.note_placed.Given as goal

abbrev pub invariant-loop-claim : goal.invariant-loop-claim
invariant-loop-claim l = (cell : Cell) → LevelsTellBut (is_claimed (zip l.claims l.reply)) cell l.fn.self
    → LevelsTellBut (is_claimed (zip (iter_rest (zip_first l.claim-iterator)) (iter_rest (zip_second l.claim-iterator)))) cell l.self
