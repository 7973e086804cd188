-- What is known of the machines for all wishes of one kind.
use Rattle.std.specs.Prelude.{◌≡◌, ◌≤◌, ◌⊎◌, ◌&&◌, ℕ, Bool, false, List, [], Option, Some, None, length, slice_get}
use Rattle.omega_model.specs.Cell.{Cell, machine_at}
use Rattle.omega_model.specs.Judge.{is_up, makes_room}
use Rattle.omega_model.specs.Plan.{candidates, claim_of}
use Rattle.omega_model.specs.Planning.{suits}
use Rattle.omega_model.specs.declared.cells.Machine.{Machine}
use Rattle.omega_model.specs.declared.cells.TaskKey.{TaskKey}
use Rattle.omega_model.specs.declared.wishes.Wish.{Wish}
use Rattle.omega_fit.specs.Wrapped.{IsFirst, positions_from}
use Rattle.omega_plan.specs.declared.progress.Progress.{Progress}

-- the kind of a wish: wishes of one kind differ in the task's index alone
abbrev pub kind_of : Wish → Wish
kind_of wish = record wish { key = record wish.key { index = 0 } }

-- whether a machine suits a wish, is up, and has room for it once these tasks are off it
abbrev pub has_room : Cell → Wish → List TaskKey → Machine → Bool
has_room cell wish gone machine = suits wish machine.attrs
    && (is_up (machine_at cell.machines machine.id) && makes_room cell (claim_of wish [] machine.id) gone)

-- the machine at a position has no room for a wish as it is
abbrev pub IsFull : Cell → Wish → ℕ → Type 0
IsFull cell wish position =
    (machine : Machine) → slice_get cell.machines position ≡ Some machine → has_room cell wish [] machine ≡ false

-- it has none either once all tasks that may be evicted for the wish are off it
abbrev pub StaysFull : Cell → Wish → ℕ → Type 0
StaysFull cell wish position = (machine : Machine) → slice_get cell.machines position ≡ Some machine
    → has_room cell wish (candidates cell machine.id wish) machine ≡ false

-- where a search round from a start may begin: at the start, or behind positions that all fail; nowhere
-- where all fail
unfoldable pub MayBegin : (ℕ → Type 0) → ℕ → ℕ → Option ℕ → Type 0
MayBegin Fails start len None = IsFirst (λ position answer. answer ≡ false → Fails position) (positions_from start len) None
MayBegin Fails start len (Some place) = (place ≤ len)
    × ((place ≡ start) ⊎ IsFirst (λ position answer. answer ≡ false → Fails position) (positions_from start len) (Some place))

-- searches for a wish of this kind may begin where a progress says
pub record Serves (cell : Cell) (wish : Wish) (progress : Progress) : Type 0 where
  pub start : progress.start ≤ length cell.machines
  pub as_is : MayBegin (IsFull cell wish) progress.start (length cell.machines) progress.as_is
  pub evicting : MayBegin (StaysFull cell wish) progress.start (length cell.machines) progress.evicting
