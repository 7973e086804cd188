-- What is kept beside a board, and when it serves on another.
use Rattle.std.specs.Prelude.{◌≡◌, ◌≤◌, ◌+◌, ◌-◌, ℕ, Bool, List, length, take, drop}
use Rattle.omega_model.specs.Applying.{EachMayApply}
use Rattle.omega_model.specs.Cell.{Cell}
use Rattle.omega_model.specs.State.{state}
use Rattle.omega_model.specs.declared.cells.Task.{Task}
use Rattle.omega_model.specs.declared.claims.Claim.{Claim}
use Rattle.omega_model.specs.declared.entries.Entry.{Entry}
use Rattle.omega_machines.specs.Table.{machines_of}
use Rattle.omega_board.specs.Board.{BoardState, IsBoardOf, cell_of}
use Rattle.omega_board.specs.Naming.{NameTouched}
use Rattle.omega_plan.specs.Beside.{IsPlacedBeside}
use Rattle.omega_plan.specs.Levels.{GoesTo, LevelsTell}
use Rattle.omega_plan.specs.Telling.{freed_of}
use Rattle.omega_plan.specs.declared.indexes.Indexes.{Indexes}
use Rattle.omega_plan.specs.declared.tenants.Tenants.{Tenants}

-- indexes tell of a cell what is free, and what evictions could free but perhaps on machines noted since
pub record TellAll (cell : Cell) (indexes : Indexes) : Type 0 where
  pub free : indexes.index.free ≡ freed_of 0 cell
  pub levels : LevelsTell cell indexes.levels

-- the indexes of a history tell so after as many of its entries as they have seen
pub record AreIndexesOf (history : List Entry) (indexes : Indexes) : Type 0 where
  pub within : indexes.seen ≤ length history
  pub free : indexes.index.free ≡ freed_of 0 (state (take indexes.seen history))
  pub levels : LevelsTell (state (take indexes.seen history)) indexes.levels

-- indexes have room for so many more places
pub record HaveRoom (count : ℕ) (indexes : Indexes) : Type 0 where
  pub free : count ≤ indexes.index.spare

-- how many places indexes lack for so many machines
abbrev pub places_missing : ℕ → Indexes → ℕ
places_missing count indexes = count - length indexes.index.free

-- indexes have room for the places that they lack for so many machines
abbrev pub HavePlaces : ℕ → Indexes → Type 0
HavePlaces count indexes = HaveRoom (places_missing count indexes) indexes

-- indexes may be told that these machines of a board changed: they told all of a cell from which to the board's
-- these changed alone, and have room for the machines that are new
pub record MayTell (changed : ℕ → Bool) (board : BoardState) (indexes : Indexes) : Type 0 where
  pub before : Cell
  pub tell : TellAll before indexes
  pub goes : GoesTo changed before (cell_of board)
  pub room : length (machines_of board.table) ≤ length indexes.index.free + indexes.index.spare

-- indexes may be told of a claim that was placed beside a board
pub record MayTellClaim (board : BoardState) (tenants : Tenants) (claim : Claim) (indexes : Indexes) : Type 0 where
  pub tasks : List Task
  pub placed : IsPlacedBeside board tenants claim tasks
  pub tell : TellAll (record { machines = machines_of board.table; tasks = tasks }) indexes

-- indexes may go on to a board by being told of these machines: they are those of a history after which this
-- is the board, and each of whose entries could be applied to the state before it, and these are the machines
-- that the entries touch which the indexes haven't seen
pub record MayGoOn (indexes : Indexes) (board : BoardState) (machines : List ℕ) : Type 0 where
  pub history : List Entry
  pub are : AreIndexesOf history indexes
  pub board_is : IsBoardOf board history
  pub applied : EachMayApply history
  pub touched : NameTouched (drop indexes.seen history) machines
