-- What becomes of a history by one line.
use Rattle.std.specs.Prelude.{◌≡◌, List, [], ◌∷◌, ◌++◌, ℕ, ⊤}
use Rattle.omega_model.specs.declared.entries.Entry.{Entry}
use Rattle.omega_keep.specs.Audited.{IsPossible}
use Rattle.omega_keep.specs.KeptLines.{IsLineOf}
use Rattle.omega_keep.specs.declared.stop.Stop.{Stop}
use Rattle.omega_keep.specs.declared.stop.Stop.TheVariants.{Refused, OutOfMemory}

-- a history goes on by an entry that is possible
pub record GoesOn (before : List Entry) (entry : Entry) (after : List Entry) : Type 0 where
  pub more : after ≡ before ++ entry ∷ []
  pub possible : IsPossible before entry

-- a history goes on by the entry of a line
pub record Takes (line : List ℕ) (before after : List Entry) : Type 0 where
  pub entry : Entry
  pub is_line : IsLineOf line entry
  pub goes : GoesOn before entry after

-- an entry is refused only where this holds
abbrev pub StopsFor : Type 0 → Stop → Type 0
StopsFor Cause Refused = Cause
StopsFor Cause OutOfMemory = ⊤
