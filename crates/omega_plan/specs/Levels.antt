-- What the indexes of several precedences tell of a cell.
use Rattle.std.specs.Prelude.{◌≡◌, ◌≤◌, ◌+◌, ◌||◌, ℕ, Bool, false, List, Option, IfSome, IsSomeAnd, length, drop, slice_get}
use Rattle.std.specs.List.{filter, AllByRecursion as Each}
use Rattle.std.specs.List.Sorted.{IsPermutation}
use Rattle.omega_model.specs.Cell.{Cell, is_on}
use Rattle.omega_model.specs.declared.cells.Task.{Task}
use Rattle.omega_model.specs.declared.entries.Entry.{Entry}
use Rattle.omega_machines.specs.Table.{machines_of}
use Rattle.omega_board.specs.Board.{BoardState}
use Rattle.omega_board.specs.Numbers.{is_among}
use Rattle.omega_board.specs.Parts.{ChangedAlone}
use Rattle.omega_model.specs.Touches.{is_touched_by}
use Rattle.omega_fit.specs.Positions.{Positions}
use Rattle.omega_plan.specs.declared.levels.Found.{Found}
use Rattle.omega_plan.specs.declared.levels.Level.{Level}
use Rattle.omega_plan.specs.declared.levels.Levels.{Levels}
use Rattle.omega_plan.specs.Telling.{TellsBut, freed_of, placed}

-- a level tells what evictions for its precedence could free on each machine
abbrev pub Tells : Cell → Level → Type 0
Tells cell level = level.index.free ≡ freed_of level.prec cell

-- tasks that were found on a machine are those that run there, in any order
abbrev pub AreFound : List Task → Option Found → Type 0
AreFound tasks found = IfSome found (λ some. IsPermutation (filter (is_on some.machine) tasks) some.tasks)

-- the level at a place is that of this precedence
abbrev pub IsLevelAt : List Level → ℕ → ℕ → Type 0
IsLevelAt levels prec place = IsSomeAnd (slice_get levels place) (λ level. level.prec ≡ prec)

-- whether a machine is among those that were noted since a level was told, or passes a test
abbrev pub is_behind : ℕ → List ℕ → (ℕ → Bool) → ℕ → Bool
is_behind told changed stale id = is_among (drop told changed) id || stale id

-- a level was told so many of the machines that are noted, and with a place for each machine that it lacks it
-- tells of each but perhaps of those noted since, and of those whose numbers pass the test `stale`
pub record TellsLate (stale : ℕ → Bool) (cell : Cell) (changed : List ℕ) (level : Level) : Type 0 where
  pub within : level.told ≤ length changed
  pub told : TellsBut (is_behind level.told changed stale) level.prec cell.tasks (placed cell.machines level.index.free) cell.machines

-- so does each level that stands
abbrev pub LevelsTellBut : (ℕ → Bool) → Cell → Levels → Type 0
LevelsTellBut stale cell levels = Each (TellsLate stale cell levels.changed.items) levels.standing.items

-- no number
abbrev pub no_number : ℕ → Bool
no_number id = false

-- each level that stands tells of each machine but perhaps of those that were noted since it was told
abbrev pub LevelsTell : Cell → Levels → Type 0
LevelsTell cell levels = LevelsTellBut no_number cell levels

-- from one cell to another the machines whose numbers pass the test changed alone, and the tasks on them
pub record GoesTo (changed : ℕ → Bool) (old new : Cell) : Type 0 where
  pub rows : ChangedAlone changed old.machines new.machines
  pub tasks : (id : ℕ) → changed id ≡ false → filter (is_on id) new.tasks ≡ filter (is_on id) old.tasks

-- an index has room for the places of the machines that it lacks, and with these places it tells what is free on
-- each machine but perhaps on those whose numbers pass the test `stale`
pub record NearPlaced (stale : ℕ → Bool) (board : BoardState) (index : Positions) : Type 0 where
  pub room : length (machines_of board.table) ≤ length index.free + index.spare
  pub told : TellsBut stale 0 board.tasks (placed (machines_of board.table) index.free) (machines_of board.table)

-- the same, where those are the machines that an entry touches
abbrev pub NearEntry : BoardState → Entry → Positions → Type 0
NearEntry board entry = NearPlaced (is_touched_by entry) board

-- the same, where those are these machines
abbrev pub NearParts : BoardState → List ℕ → Positions → Type 0
NearParts board machines = NearPlaced (is_among machines) board

-- an index tells what is free on each machine but perhaps on these
abbrev pub Near : BoardState → List ℕ → Positions → Type 0
Near board machines index = TellsBut (is_among machines) 0 board.tasks index.free (machines_of board.table)
