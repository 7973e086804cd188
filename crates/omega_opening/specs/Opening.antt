-- Which entries of rows may be fed to a cell.
use Rattle.std.specs.Prelude.{◌≡◌, List, [], ◌∷◌, ◌++◌, false}
use Rattle.omega_model.specs.Applying.{CapacityIsInRange, EndsRunning}
use Rattle.omega_model.specs.State.{state}
use Rattle.omega_model.specs.Touches.{is_commit}
use Rattle.omega_model.specs.declared.entries.Entry.{Entry}

-- an entry may be fed to the cell of a history, where there is room for its machine
pub record MayFeed (history : List Entry) (entry : Entry) : Type 0 where
  pub no_commit : is_commit entry ≡ false
  pub capacity : CapacityIsInRange entry
  pub ends : EndsRunning (state history).tasks entry

-- entries may be fed one after the other
abbrev pub MayFeedAll : List Entry → List Entry → Type 0
MayFeedAll history [] = Unit {0}
MayFeedAll history (entry ∷ entries) = MayFeed history entry × MayFeedAll (history ++ entry ∷ []) entries
