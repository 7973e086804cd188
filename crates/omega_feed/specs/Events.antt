-- The rows of the three tables of events, each table in order of time.
use Rattle.std.specs.Prelude.{◌≡◌, ℕ, ◌≤◌, ◌==◌, Bool, List, [], ◌∷◌, ◌++◌, Option, Some, None, map}
use Rattle.std.specs.List.{filter_map, AllByRecursion as Each}
use Rattle.omega_model.specs.Feed.{by_time}
use Rattle.omega_model.specs.Fields.{MachineFields, AttrFields, TaskFields}
use Rattle.omega_model.specs.declared.rows.Row.{Row}
use Rattle.omega_model.specs.declared.rows.Row.TheVariants.{Machine, Attr, Task}
use Rattle.omega_model.specs.declared.rows.TraceTables.{TraceTables}

-- no number is above a later one
abbrev pub Rise : {X : Type 0} → (X → ℕ) → List X → Type 0
Rise key [] = Unit {0}
Rise key (x ∷ xs) = Each (λ y. key x ≤ key y) xs × Rise key xs

-- whether an item has this number
abbrev pub has_time : {X : Type 0} → (X → ℕ) → ℕ → X → Bool
has_time key n x = key x == n

-- each of three tables is in order of time
pub record AreInOrder (machines : List MachineFields) (attrs : List AttrFields) (tasks : List TaskFields) : Type 0 where
  pub machines_rise : Rise (λ row. row.time) machines
  pub attrs_rise : Rise (λ row. row.time) attrs
  pub tasks_rise : Rise (λ row. row.time) tasks

-- the rows of three tables in order of time, then of table, then of row
abbrev pub merged : List MachineFields → List AttrFields → List TaskFields → List Row
merged machines attrs tasks =
    by_time (map (λ row. Machine row) machines ++ map (λ row. Attr row) attrs ++ map (λ row. Task row) tasks)

-- a task row as it stands in its table
abbrev pub task_of_row : Row → Option TaskFields
task_of_row (Machine row) = None
task_of_row (Attr row) = None
task_of_row (Task row) = Some row

-- the task rows among these, in their order
abbrev pub task_rows : List Row → List TaskFields
task_rows rows = filter_map task_of_row rows

-- these tables have the rows of a trace that are no events
pub record HasOthers (trace tables : TraceTables) : Type 0 where
  pub constraints : tables.constraints ≡ trace.constraints
  pub activities : tables.activities ≡ trace.activities
  pub disks : tables.disks ≡ trace.disks
