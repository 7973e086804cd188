-- A copy of a cell that a caller keeps.
use Rattle.std.specs.Prelude.{ℕ, List}
use Rattle.omega_model.specs.Applying.{EachMayApply}
use Rattle.omega_model.specs.Cell.{Cell}
use Rattle.omega_model.specs.Copy.{Carries, StandsFor}
use Rattle.omega_model.specs.Parts.{DeltaState}
use Rattle.omega_model.specs.declared.entries.Entry.{Entry}

-- a copy of this cell, with these sequence numbers and so many entries seen, may catch up by a delta: it stands for
-- a history that the delta carries from where the copy is, each of whose entries could be applied to the state
-- before it
pub record MayCatchUp (cell : Cell) (seqs : ℕ → ℕ) (seen : ℕ) (delta : DeltaState) : Type 0 where
  pub history : List Entry
  pub stands : StandsFor cell seqs seen history
  pub carries : Carries delta history seen delta.to
  pub applied : EachMayApply history
