-- What the entries of a history do that doesn't stand in them: what is in use where a round begins, and
-- which tasks an entry of a machine displaces.
use Rattle.std.specs.Prelude.{◌≡◌, ◌<◌, ℕ, List, [], ◌∷◌, ◌++◌}
use Rattle.omega_model.specs.Cell.{Cell, empty_cell, keys_of}
use Rattle.omega_model.specs.ExtraTasks.{capacity_in_all, used_in}
use Rattle.omega_model.specs.State.{displaced, state, step}
use Rattle.omega_model.specs.declared.cells.TaskKey.{TaskKey}
use Rattle.omega_model.specs.declared.entries.Entry.{Entry}
use Rattle.omega_model.specs.declared.entries.Entry.TheVariants.{Round, MachineAdd, MachineUpdate, MachineRemove, AttrSet, AttrDelete, End, Commit}
use Rattle.omega_cell.specs.declared.effects.Effects.{Effects}
use Rattle.omega_cell.specs.declared.effects.Usage.{Usage}

-- what is in use in a cell on the machines that are up, and what they have
abbrev pub usage_in : Cell → Usage
usage_in cell = record { used = used_in cell; capacity = capacity_in_all cell }

-- what is noted of the use of a cell at the next entry: how it is where a round begins, and nothing at
-- other entries
abbrev pub usage_at : Cell → Entry → List Usage
usage_at cell (Round number) = usage_in cell ∷ []
usage_at cell (MachineAdd machine cap) = []
usage_at cell (MachineUpdate machine cap) = []
usage_at cell (MachineRemove machine) = []
usage_at cell (AttrSet machine name value) = []
usage_at cell (AttrDelete machine name) = []
usage_at cell (End key machine) = []
usage_at cell (Commit scheduler seen txn reply) = []

-- what is noted of the tasks that the next entry displaces: their names in order of eviction where it
-- is one of a machine, and nothing at other entries
abbrev pub displaced_at : Cell → Entry → List (List TaskKey)
displaced_at cell (Round number) = []
displaced_at cell (MachineAdd machine cap) = keys_of (displaced cell.tasks (MachineAdd machine cap)) ∷ []
displaced_at cell (MachineUpdate machine cap) = keys_of (displaced cell.tasks (MachineUpdate machine cap)) ∷ []
displaced_at cell (MachineRemove machine) = keys_of (displaced cell.tasks (MachineRemove machine)) ∷ []
displaced_at cell (AttrSet machine name value) = []
displaced_at cell (AttrDelete machine name) = []
displaced_at cell (End key machine) = []
displaced_at cell (Commit scheduler seen txn reply) = []

-- what is noted along some entries, each on the cell that those before it leave
abbrev pub along : {X : Type 0} → (Cell → Entry → List X) → Cell → List Entry → List X
along note cell [] = []
along note cell (entry ∷ entries) = note cell entry ++ along note (step cell entry) entries

-- the notes that a cell holds as callers see them, and for how many more of each there is room
pub record NotesState : Type 0 where
  pub usages : List Usage
  pub displaced : List (List TaskKey)
  pub usage_room : ℕ
  pub displaced_room : ℕ

-- notes have room for one more of each
pub record HasNoteRoom (notes : NotesState) : Type 0 where
  pub usage : 0 < notes.usage_room
  pub displaced : 0 < notes.displaced_room

-- these are the notes along a history
pub record AreNotes (history : List Entry) (notes : NotesState) : Type 0 where
  pub usages : notes.usages ≡ along usage_at empty_cell history
  pub displaced : notes.displaced ≡ along displaced_at empty_cell history

-- the effects of a history: the notes along it, and what is in use at its end
pub record AreEffects (history : List Entry) (effects : Effects) : Type 0 where
  pub usages : effects.usages ≡ along usage_at empty_cell history
  pub displaced : effects.displaced ≡ along displaced_at empty_cell history
  pub last : effects.last ≡ usage_in (state history)
