-- Marks of numbers.
use Rattle.std.specs.Prelude.{◌≡◌, ℕ, ◌%◌, Bool, true, false, List, get_or}
use Rattle.omega_model.specs.Fields.{ConstraintFields}
use Rattle.omega_running.specs.Order.{job_and_index}
use Rattle.std.specs.List.{AllByRecursion as Each}

-- whether a number has a mark
abbrev pub is_marked : List Bool → ℕ → Bool
is_marked marks number = get_or marks (number % 65536) false

-- each number that these rows name is marked
abbrev pub AreMarked : {Row : Type 0} → (Row → ℕ) → List Bool → List Row → Type 0
AreMarked name marks rows = Each (λ row. is_marked marks (name row) ≡ true) rows

-- each task that these rows name is marked, by its job and index together
abbrev pub AreMarkedTasks : List Bool → List ConstraintFields → Type 0
AreMarkedTasks marks rows = AreMarked (λ row. job_and_index row.key) marks rows
