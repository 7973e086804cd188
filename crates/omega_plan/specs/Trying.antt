-- What a machine does with a wish that is tried on it.
use Rattle.std.specs.Prelude.{◌≡◌, ◌&&◌, not, ℕ, Bool, List, [], Option, Some, None, option_map, is_some, length, slice_get, if◌then◌else◌}
use Rattle.omega_model.specs.Cell.{Cell}
use Rattle.omega_model.specs.Judge.{has_rival}
use Rattle.omega_model.specs.Plan.{claim_of, goes_in, victims}
use Rattle.omega_model.specs.Planning.{suits}
use Rattle.omega_model.specs.declared.cells.Machine.{Machine}
use Rattle.omega_model.specs.declared.cells.TaskKey.{TaskKey}
use Rattle.omega_model.specs.declared.claims.Claim.{Claim}
use Rattle.omega_model.specs.declared.wishes.Wish.{Wish}
use Rattle.omega_fit.specs.Wrapped.{IsFirst, positions_from}

-- whether a machine suits a wish and takes it as it is
abbrev pub takes : Cell → Wish → Machine → Bool
takes cell wish machine = suits wish machine.attrs && goes_in cell wish [] machine.id

-- whether a machine suits a wish and, where the wish wants different machines, has no task of its job
abbrev pub suits_alone : Cell → Wish → Machine → Bool
suits_alone cell wish machine = suits wish machine.attrs && not (has_rival cell (claim_of wish [] machine.id) [])

-- what is answered at a position: whether the machine that stands there suits the wish so
abbrev pub SuitsAlone : Cell → Wish → ℕ → Bool → Type 0
SuitsAlone cell wish position answer =
    (machine : Machine) → slice_get cell.machines position ≡ Some machine → suits_alone cell wish machine ≡ answer

-- what is answered at a position: whether the machine that stands there takes the wish
abbrev pub Takes : Cell → Wish → ℕ → Bool → Type 0
Takes cell wish position answer =
    (machine : Machine) → slice_get cell.machines position ≡ Some machine → takes cell wish machine ≡ answer

-- the first position, round from a start, whose machine takes the wish; none where no machine does
unfoldable pub IsFirstToTake : Cell → Wish → ℕ → Option ℕ → Type 0
IsFirstToTake cell wish start found = IsFirst (Takes cell wish) (positions_from start (length cell.machines)) found

-- the claim of a wish on a machine that it suits and on which evictions make room
abbrev pub claim_on : Cell → Wish → Machine → Option Claim
claim_on cell wish machine =
    if suits wish machine.attrs then option_map (λ keys. claim_of wish keys machine.id) (victims cell machine.id wish) else None

-- what is answered at a position: whether evictions make room for the wish on the machine that stands there
abbrev pub Yields : Cell → Wish → ℕ → Bool → Type 0
Yields cell wish position answer =
    (machine : Machine) → slice_get cell.machines position ≡ Some machine → is_some (claim_on cell wish machine) ≡ answer

-- the first position, round from a start, on whose machine evictions make room; none where they do nowhere
unfoldable pub IsFirstToYield : Cell → Wish → ℕ → Option ℕ → Type 0
IsFirstToYield cell wish start found = IsFirst (Yields cell wish) (positions_from start (length cell.machines)) found

-- the claim of a wish on the machine at a position, with these victims, is this one
abbrev pub IsClaimAt : Cell → Wish → ℕ → List TaskKey → Claim → Type 0
IsClaimAt cell wish position victims claim =
    (machine : Machine) → slice_get cell.machines position ≡ Some machine → claim ≡ claim_of wish victims machine.id

-- the victims on the machine at a position
abbrev pub AreVictimsAt : Cell → Wish → ℕ → Option (List TaskKey) → Type 0
AreVictimsAt cell wish position keys = (machine : Machine) → slice_get cell.machines position ≡ Some machine
    → claim_on cell wish machine ≡ option_map (λ some. claim_of wish some machine.id) keys
