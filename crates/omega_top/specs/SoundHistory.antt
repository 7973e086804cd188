-- What holds of every history that is answered, whatever the tables tell.
use Rattle.std.specs.Prelude.{List}
use Rattle.omega_cell.specs.Laws.{EvictionsGoDown, NoGangIsSplit}
use Rattle.omega_model.specs.Legal.{Legal}
use Rattle.omega_model.specs.declared.entries.Entry.{Entry}
use Rattle.omega_top.specs.Answers.{NeverOvercommits}

-- a history is legal, none of its states is overcommitted, no gang is split, and evictions go down in
-- precedence and are no more than have to be
pub record IsSoundHistory (history : List Entry) : Type 0 where
  pub legal : Legal history
  pub states : NeverOvercommits history
  pub gangs : NoGangIsSplit history
  pub evictions : EvictionsGoDown history
