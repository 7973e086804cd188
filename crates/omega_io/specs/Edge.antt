-- What passes between the program and the outside: bytes, and counts of faults.
use Rattle.std.specs.Prelude.{◌≡◌, ℕ, List, ◌++◌, ◌-◌, ◌^◌, ◌<◌, ◌≤◌, ◌⊎◌, Option, Some, option_map, length, take}
use Rattle.omega_model.specs.declared.rows.Table.{Table}

-- a count of faults rose, or stands at its greatest value and can rise no further
abbrev pub Rose : ℕ → ℕ → Type 0
Rose before now = (before < now) ⊎ (2 ^ 64 - 1 ≤ now)

-- this folder is the one entered last, where the object tells a folder
abbrev pub Enters : List ℕ → Option (Option (List ℕ)) → Option (Option (List ℕ)) → Type 0
Enters folder before now = now ≡ option_map (λ last. Some folder) before

-- these bytes stood first in what was left to read, and were taken off it, where it is told
abbrev pub HandsOver : List ℕ → Option (List ℕ) → Option (List ℕ) → Type 0
HandsOver bytes before now = before ≡ option_map (λ left. bytes ++ left) now

-- these bytes were put at the end of what is written, where it is told
abbrev pub Appends : List ℕ → Option (List ℕ) → Option (List ℕ) → Type 0
Appends bytes before now = now ≡ option_map (λ written. written ++ bytes) before

-- the first of these bytes, but not all, were put at the end of what is written
abbrev pub AppendsPart : List ℕ → Option (List ℕ) → Option (List ℕ) → Type 0
AppendsPart bytes before now = (count : ℕ) × (count < length bytes) × Appends (take count bytes) before now

-- the tables tell these bytes as what is left of each
abbrev pub Tells : (Table → Option (List ℕ)) → (Table → List ℕ) → Type 0
Tells rest bytes = (table : Table) → rest table ≡ Some (bytes table)
