-- Copies that stand for a history.
use Rattle.std.specs.Prelude.{List}
use Rattle.omega_model.specs.declared.entries.Entry.{Entry}
use Rattle.omega_copy.specs.Copies.{CopyState, CopyOf}

-- each copy that stands for a history stands for the later one
abbrev pub StillStand : List Entry → List Entry → Type 0
StillStand before after = (copy : CopyState) → CopyOf copy before → CopyOf copy after
