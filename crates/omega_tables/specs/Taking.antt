-- What is taken of a table's rows, and of those of all tables, where only so many may be held.
use Rattle.std.specs.Prelude.{◌≡◌, ◌<◌, ◌≤◌, ℕ, List, length, Option, Some, None, Result, Ok, Err, ⊤}
use Rattle.omega_model.specs.Columns.{BadColumn}
use Rattle.omega_model.specs.Limits.{row_count, most_rows}
use Rattle.omega_model.specs.Trace.{machine_rows, attr_rows, task_rows, constraint_rows, activity_rows, disk_rows}
use Rattle.omega_model.specs.declared.rows.Table.{Table}
use Rattle.omega_model.specs.declared.rows.Table.TheVariants.{MachineEvents, MachineAttributes, TaskEvents, TaskConstraints, MapreduceJobs, MachineDisk}
use Rattle.omega_model.specs.declared.rows.TraceTables.{TraceTables}
use Rattle.omega_tables.specs.declared.gathered.Gathered.{Gathered}
use Rattle.omega_tables.specs.declared.refusal.ReadRefusal.{ReadRefusal}
use Rattle.omega_tables.specs.declared.refusal.ReadRefusal.TheVariants.{Fault, TooLong, BadRow, TooMany, NoMemory}
use Rattle.omega_tables.specs.declared.taken.Taken.{Taken}
use Rattle.omega_tables.specs.declared.taken.Taken.TheVariants.{All, Number}

-- how many rows there are, where each record is one
abbrev pub count_of : {A E : Type 0} → Result (List A) E → Option ℕ
count_of (Ok rows) = Some (length rows)
count_of (Err why) = None

-- how many rows a table has, where each record is one
abbrev pub table_count : Table → List ℕ → Option ℕ
table_count MachineEvents bytes = count_of (machine_rows bytes)
table_count MachineAttributes bytes = count_of (attr_rows bytes)
table_count TaskEvents bytes = count_of (task_rows bytes)
table_count TaskConstraints bytes = count_of (constraint_rows bytes)
table_count MapreduceJobs bytes = count_of (activity_rows bytes)
table_count MachineDisk bytes = count_of (disk_rows bytes)

-- how many rows were taken
abbrev pub held_count : {A : Type 0} → Taken A → ℕ
held_count (All rows) = length rows.items
held_count (Number number) = number

-- all rows were taken, or only their number, which is greater than that of the rows that may be held
abbrev pub Takes : {A : Type 0} → ℕ → Result (List A) (ℕ × BadColumn) → Taken A → Type 0
Takes most answer (All rows) = answer ≡ Ok rows.items
Takes most answer (Number number) = (most < number) × (count_of answer ≡ Some number)

-- the number of a trace's rows is known, and they are held where all tables may have so many
pub record Gathers (gathered : Gathered) (trace : TraceTables) : Type 0 where
  pub number : gathered.number ≡ row_count trace
  pub rows : gathered.number ≤ most_rows → gathered.trace ≡ trace

-- the refusal is that of all rows together; memory may run out at any time
abbrev pub IsOfAll : ReadRefusal → Type 0
IsOfAll (Fault table) = ⊥
IsOfAll (TooLong table) = ⊥
IsOfAll (BadRow table row column cause) = ⊥
IsOfAll (TooMany kind number) = ⊤
IsOfAll NoMemory = ⊤
