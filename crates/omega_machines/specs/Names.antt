-- How the attributes of a machine are found by name.
use Rattle.std.specs.Prelude.{◌≡◌, ◌<◌, ◌≤◌, ◌⊎◌, ℕ, List, map, length, slice_get, bytes_eq, Option, Some, IfSome, IsSomeAnd}
use Rattle.std.specs.BTreeMap as tree
use Rattle.std.specs.BTreeMap.{BTreeMap}
use Rattle.std.specs.Cmp.Lexicographic.{slice_cmp}
use Rattle.std.specs.List.{IsDistinct, zip}
use Rattle.std.specs.List.Sorted.{IsStrictlySortedBy}
use Rattle.std.specs.Map.{lookup}
use Rattle.std.specs.Ordering.{nat_cmp}
use Rattle.omega_model.specs.declared.cells.Attr.{Attr}
use Rattle.omega_machines.specs.Table.{MachineState}
use Rattle.omega_machines.specs.declared.names.NameIndex.{NameIndex}

-- the names of some attributes, in order
abbrev pub names_of : List Attr → List (List ℕ)
names_of attrs = map (λ attr. attr.name) attrs

-- the number that an index has for a name
abbrev pub number_of : NameIndex → List ℕ → Option ℕ
number_of index name = tree.get_by (λ key. slice_cmp nat_cmp name key.items) index.by_name

-- the names are distinct, as many as the numbers, which rise, and the map finds for each name the number at its place
pub record IsIndexOf (index : NameIndex) (names : List (List ℕ)) : Type 0 where
  pub distinct : IsDistinct bytes_eq names
  pub long : length index.numbers.items ≡ length names
  pub rising : IsStrictlySortedBy nat_cmp index.numbers.items
  pub found : (name : List ℕ) → number_of index name ≡ lookup (bytes_eq name) (zip names index.numbers.items)

-- the names of the attributes of each machine
abbrev pub names_in : List MachineState → List (List (List ℕ))
names_in states = map (λ state. names_of state.machine.attrs) states

-- each index that is kept for a place is that of the names of the machine there
abbrev pub AreIndexed : BTreeMap ℕ NameIndex → List MachineState → Type 0
AreIndexed indexes states = (place : ℕ) → IfSome (tree.get nat_cmp indexes place) (λ index. IsSomeAnd (slice_get (names_in states) place) (IsIndexOf index))

-- the indexes with another one at a place, of these names, or with none there
pub record AreChangedAt (old new : BTreeMap ℕ NameIndex) (place : ℕ) (names : List (List ℕ)) : Type 0 where
  pub own : IfSome (tree.get nat_cmp new place) (λ index. IsIndexOf index names)
  pub others : (other : ℕ) → (other ≡ place → ⊥) → tree.get nat_cmp new other ≡ tree.get nat_cmp old other

-- only indexes that were there are left, and none from one place up to another
abbrev pub AreOutside : BTreeMap ℕ NameIndex → BTreeMap ℕ NameIndex → ℕ → ℕ → Type 0
AreOutside old new from to = (place : ℕ) (index : NameIndex) → tree.get nat_cmp new place ≡ Some index → (tree.get nat_cmp old place ≡ Some index) × ((place < from) ⊎ (to ≤ place))
