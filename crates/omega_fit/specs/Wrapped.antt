-- The first of a list that passes a test, and the round of positions from a start.
use Rattle.std.specs.Prelude.{◌≡◌, ◌<◌, ◌≤◌, ◌++◌, ◌∷◌, ℕ, Bool, true, false, List, Option, Some, None}
use Rattle.std.specs.List.{All, range_with_len}
use Rattle.omega_model.specs.Plan.{wrapped_from}

-- the positions below a length, from a start on, and then those before it
abbrev pub positions_from : ℕ → ℕ → List ℕ
positions_from start len = wrapped_from start (range_with_len 0 len)

-- an item for which the answer is true, where it is false for all items before it
pub record IsFirstItem {X : Type 0} (answers : X → Bool → Type 0) (items : List X) (item : X) : Type 0 where
  pub before : List X
  pub after : List X
  pub split : items ≡ before ++ item ∷ after
  pub passed_over : All (λ other. answers other false) before
  pub taken : answers item true

-- the first item for which the answer is true; none where it is false for all
unfoldable pub IsFirst : {X : Type 0} → (X → Bool → Type 0) → List X → Option X → Type 0
IsFirst answers items None = All (λ item. answers item false) items
IsFirst answers items (Some item) = IsFirstItem answers items item

-- the same, of the numbers from one up to another
abbrev pub FirstBetween : (ℕ → Bool → Type 0) → ℕ → ℕ → Option ℕ → Type 0
FirstBetween answers from to None = (n : ℕ) → from ≤ n → n < to → answers n false
FirstBetween answers from to (Some found) =
    (from ≤ found) × (found < to) × answers found true × ((n : ℕ) → from ≤ n → n < found → answers n false)
