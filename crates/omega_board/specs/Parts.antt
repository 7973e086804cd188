-- Parts of a board: machines with their rows, sequence numbers and tasks, and what putting them does.
use Rattle.std.specs.Prelude.{◌≡◌, ℕ, ◌≤◌, Bool, false, List, [], ◌∷◌, Option, map, length, slice_get, IsTrue}
use Rattle.std.specs.List.{All, enumerate_from, filter}
use Rattle.std.specs.Option.{option_map}
use Rattle.omega_model.specs.Cell.{Cell, is_on}
use Rattle.omega_model.specs.Fields.{greatest}
use Rattle.omega_model.specs.Legal.{Sound}
use Rattle.omega_model.specs.Limits.{most_machines}
use Rattle.omega_model.specs.Machines.{is_listed}
use Rattle.omega_model.specs.Need.{Fits}
use Rattle.omega_model.specs.declared.cells.Machine.{Machine}
use Rattle.omega_model.specs.declared.delta.Part.{Part}
use Rattle.omega_machines.specs.Table.{machines_of, seq_at}
use Rattle.omega_running.specs.Kept.{KeysRise}
use Rattle.omega_board.specs.Board.{BoardState, cell_of}

-- a machine of a cell at its position, where machines have these sequence numbers
abbrev pub part_in : Cell → (ℕ → ℕ) → ℕ × Machine → Part
part_in cell seqs (place, row) = record {
  position = place;
  machine = row;
  seq = seqs row.id;
  tasks = filter (is_on row.id) cell.tasks;
}

-- the part of a board at a position, if there is a machine
abbrev pub part_at : BoardState → ℕ → Option Part
part_at board place =
    option_map (λ row. part_in (cell_of board) (seq_at board.table) (place, row)) (slice_get (machines_of board.table) place)

-- the machines of a cell that changed, in order of position
abbrev pub changed_parts : (ℕ → Bool) → Cell → (ℕ → ℕ) → List Part
changed_parts changed cell seqs =
    map (part_in cell seqs) (filter (λ (place, row). changed row.id) (enumerate_from 0 cell.machines))

-- a list begins with the machines of another, each as it was unless its number changed, and what follows
-- changed
abbrev pub ChangedAlone : (ℕ → Bool) → List Machine → List Machine → Type 0
ChangedAlone changed [] [] = Unit {0}
ChangedAlone changed [] (row ∷ after) = IsTrue (changed row.id) × ChangedAlone changed [] after
ChangedAlone changed (old ∷ before) [] = ⊥
ChangedAlone changed (old ∷ before) (row ∷ after) =
    ((row.id ≡ old.id) × (changed row.id ≡ false → row ≡ old)) × ChangedAlone changed before after

-- a cell for which a board can stand: it is sound, its tasks are in order of key, there is room for its
-- machines, and their capacities are in range
pub record CanStand (cell : Cell) : Type 0 where
  pub sound : Sound cell
  pub ordered : KeysRise cell.tasks
  pub few : length cell.machines ≤ most_machines
  pub caps : All (λ row. Fits row.cap greatest) cell.machines

-- a cell to which parts lead, the sequence numbers there, and which machines changed
pub record Target : Type 0 where
  pub cell : Cell
  pub seqs : ℕ → ℕ
  pub changed : ℕ → Bool

-- parts lead from a board to a target: they are the machines of it that changed, all of them listed, and
-- other machines have the row, the sequence number and the tasks that they have on the board
pub record LeadTo (board : BoardState) (parts : List Part) (target : Target) : Type 0 where
  pub stands : CanStand target.cell
  pub brings : parts ≡ changed_parts target.changed target.cell target.seqs
  pub listed : (id : ℕ) → IsTrue (target.changed id) → IsTrue (is_listed id target.cell.machines)
  pub rows : ChangedAlone target.changed (machines_of board.table) target.cell.machines
  pub tasks : (id : ℕ) → target.changed id ≡ false → filter (is_on id) target.cell.tasks ≡ filter (is_on id) board.tasks
  pub seqs : (id : ℕ) → target.changed id ≡ false → target.seqs id ≡ seq_at board.table id

-- parts may be put on a board that lead to some target
pub record MayPut (board : BoardState) (parts : List Part) : Type 0 where
  pub target : Target
  pub leads : LeadTo board parts target

-- the board without machines, tasks and room
abbrev pub bare : BoardState
bare = record { table = []; tasks = []; spare = 0 }

-- the target that is a board itself, all of whose machines changed
abbrev pub whole : BoardState → Target
whole board = record { cell = cell_of board; seqs = seq_at board.table; changed = λ id. is_listed id (machines_of board.table) }

-- a board is at a target
pub record IsAt (target : Target) (board : BoardState) : Type 0 where
  pub cell : cell_of board ≡ target.cell
  pub seqs : (id : ℕ) → seq_at board.table id ≡ target.seqs id
