-- The places of the entries that touch a machine, kept for each machine.
use Rattle.std.specs.Prelude.{◌≡◌, ℕ, ◌≤◌, ◌-◌, ◌==◌, nat_lt, Bool, true, false, List, [], ◌∷◌, ◌++◌, length, take, slice_get, unwrap_or, if◌then◌else◌}
use Rattle.std.specs.BTreeMap as tree
use Rattle.std.specs.BTreeMap.{BTreeMap}
use Rattle.std.specs.List.Sorted.{IsPartitionPoint}
use Rattle.std.specs.Option.{option_map_or}
use Rattle.std.specs.Ordering.{nat_cmp}
use Rattle.omega_model.specs.Touches.{seq}
use Rattle.omega_model.specs.declared.entries.Entry.{Entry}

-- the places that are kept for a machine
abbrev pub places_of : BTreeMap ℕ (List ℕ) → ℕ → List ℕ
places_of places id = unwrap_or (tree.get nat_cmp places id) []

-- whether a list ends with this place
abbrev pub ends_with : ℕ → List ℕ → Bool
ends_with place places = option_map_or (λ last. last == place) (slice_get places (length places - 1)) false

-- a list of places with one more at its end, unless it ends with that one
abbrev pub with_place : ℕ → List ℕ → List ℕ
with_place place places = if ends_with place places then places else places ++ place ∷ []

-- a list of places, with one more where the entry there touches the machine
abbrev pub noted : ℕ → Bool → List ℕ → List ℕ
noted place touched places = if touched then with_place place places else places

-- the first places of a list, as many as this, stand below a number, and no other does
abbrev pub Splits : ℕ → List ℕ → ℕ → Type 0
Splits seen places count =
    (count ≤ length places)
    × IsPartitionPoint (λ place. nat_lt place seen ≡ true) (λ place. nat_lt place seen ≡ false) places count

-- places are those of the entries of a history that touch a machine: as many as there are, and below
-- each number as many as the entries before it that touch the machine
pub record ArePlacesOf (history : List Entry) (id : ℕ) (places : List ℕ) : Type 0 where
  pub count : length places ≡ seq history id
  pub split : (seen : ℕ) → seen ≤ length history → Splits seen places (seq (take seen history) id)

-- so are those of every machine
abbrev pub AreTouches : BTreeMap ℕ (List ℕ) → List Entry → Type 0
AreTouches places history = (id : ℕ) → ArePlacesOf history id (places_of places id)
