-- What a scheduler's private copy has to do with the history, and what carries it on.
use Rattle.std.specs.Prelude.{◌≡◌, ℕ, Bool, List, ◌≤◌, length, map, take, drop}
use Rattle.std.specs.List.{enumerate_from, filter, list_any}
use Rattle.omega_model.specs.Cell.{Cell, is_on}
use Rattle.omega_model.specs.Parts.{DeltaState}
use Rattle.omega_model.specs.State.{state}
use Rattle.omega_model.specs.Touches.{touches, seq}
use Rattle.omega_model.specs.declared.cells.Machine.{Machine}
use Rattle.omega_model.specs.declared.delta.Part.{Part}
use Rattle.omega_model.specs.declared.entries.Entry.{Entry}

-- a copy that has seen so many entries stands for a history: its machines, tasks and sequence numbers
-- are those after as many first entries of the history
pub record StandsFor (cell : Cell) (seqs : ℕ → ℕ) (seen : ℕ) (history : List Entry) : Type 0 where
  pub within : seen ≤ length history
  pub machines : cell.machines ≡ (state (take seen history)).machines
  pub tasks : cell.tasks ≡ (state (take seen history)).tasks
  pub numbers : (id : ℕ) → seqs id ≡ seq (take seen history) id

-- a machine at its position after a history: its row, its sequence number and its tasks
abbrev pub part_of : List Entry → ℕ × Machine → Part
part_of history (place, row) = record {
  position = place;
  machine = row;
  seq = seq history row.id;
  tasks = filter (is_on row.id) (state history).tasks;
}

-- whether an entry between these places of a history touches the machine at a position
abbrev pub is_touched_between : List Entry → ℕ → ℕ → ℕ × Machine → Bool
is_touched_between history from to (place, row) = list_any (touches row.id) (drop from (take to history))

-- the machines that the entries between these places touch, in order of position, as they are after them
abbrev pub parts_between : List Entry → ℕ → ℕ → List Part
parts_between history from to =
    map (part_of (take to history))
    (filter (is_touched_between history from to) (enumerate_from 0 (state (take to history)).machines))

-- a delta carries a history from one place to another
pub record Carries (delta : DeltaState) (history : List Entry) (from to : ℕ) : Type 0 where
  pub order : from ≤ to
  pub within : to ≤ length history
  pub begins : delta.from ≡ from
  pub ends : delta.to ≡ to
  pub parts : delta.parts ≡ parts_between history from to
