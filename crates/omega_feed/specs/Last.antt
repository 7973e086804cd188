-- How the amount of the last row for a machine or a job is found.
use Rattle.std.specs.Prelude.{◌≡◌, ◌≤◌, ℕ, List, Option, None, IfSome, ◌==◌, map}
use Rattle.std.specs.BTreeMap as tree
use Rattle.std.specs.BTreeMap.{BTreeMap}
use Rattle.std.specs.List.{filter, last_or}
use Rattle.std.specs.Ordering.{nat_cmp}

-- the amount of the last row of a name, if there is one
abbrev pub last_amount : {Row : Type 0} → (Row → ℕ) → (Row → ℕ) → List Row → ℕ → Option ℕ
last_amount name amount rows id = last_or None (map amount (filter (λ row. name row == id) rows))

-- the map has for each name the amount of the last row of that name, which is at most `most`
pub record AreLast (Row : Type 0) (name amount : Row → ℕ) (most : ℕ) (last : BTreeMap ℕ ℕ) (rows : List Row) : Type 0 where
  pub found : (id : ℕ) → tree.get nat_cmp last id ≡ last_amount name amount rows id
  pub bounded : (id : ℕ) → IfSome (tree.get nat_cmp last id) (λ found. found ≤ most)
