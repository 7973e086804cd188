-- Which refusal comes first for the bytes of the six tables.
use Rattle.std.specs.Prelude.{ℕ, ◌+◌, nat_lt, List, [], ◌∷◌, length, take, map, Option, Some, None, option_map, Result, Ok, Err, if◌then◌else◌}
use Rattle.omega_model.specs.Columns.{BadColumn}
use Rattle.omega_model.specs.Limits.{limit_passed}
use Rattle.omega_model.specs.Trace.{machine_rows, attr_rows, task_rows, constraint_rows, activity_rows, disk_rows, trace_of, tables_in_order, place_of}
use Rattle.omega_model.specs.declared.rows.Table.{Table}
use Rattle.omega_model.specs.declared.rows.TraceTables.{TraceTables}
use Rattle.omega_model.specs.declared.rows.Table.TheVariants.{MachineEvents, MachineAttributes, TaskEvents, TaskConstraints, MapreduceJobs, MachineDisk}
use Rattle.omega_model.specs.declared.results.Status.{Status}
use Rattle.omega_model.specs.declared.results.Status.TheVariants.{TooLong, BadRow, TooMany}

-- the first refusal that stands
abbrev pub first_standing : List (Option Status) → Option Status
first_standing [] = None
first_standing (None ∷ others) = first_standing others
first_standing (Some refusal ∷ others) = Some refusal

-- how many bytes a table may have
abbrev pub longest_table : ℕ
longest_table = 268435456

-- a table of more bytes is too long
abbrev pub length_refusal : Table → List ℕ → Option Status
length_refusal table bytes = if nat_lt longest_table (length bytes) then Some (TooLong table) else None

-- the first bad row, its first bad column and the cause; records count from 1 here
abbrev pub bad_row : {A : Type 0} → Table → Result (List A) (ℕ × BadColumn) → Option Status
bad_row table (Ok rows) = None
bad_row table (Err (place, (column, cause))) = Some (BadRow table (place + 1) column cause)

-- the refusal of a table's rows
abbrev pub row_refusal : Table → List ℕ → Option Status
row_refusal MachineEvents bytes = bad_row MachineEvents (machine_rows bytes)
row_refusal MachineAttributes bytes = bad_row MachineAttributes (attr_rows bytes)
row_refusal TaskEvents bytes = bad_row TaskEvents (task_rows bytes)
row_refusal TaskConstraints bytes = bad_row TaskConstraints (constraint_rows bytes)
row_refusal MapreduceJobs bytes = bad_row MapreduceJobs (activity_rows bytes)
row_refusal MachineDisk bytes = bad_row MachineDisk (disk_rows bytes)

-- the refusal of a table: first its length, then its rows
abbrev pub table_refusal : Table → List ℕ → Option Status
table_refusal table bytes = first_standing (length_refusal table bytes ∷ row_refusal table bytes ∷ [])

-- the first refusal of some tables in their order
abbrev pub refusal_among : List Table → (Table → List ℕ) → Option Status
refusal_among tables bytes = first_standing (map (λ table. table_refusal table (bytes table)) tables)

-- the first refusal of the tables that are read before this one
abbrev pub refusal_before : Table → (Table → List ℕ) → Option Status
refusal_before table bytes = refusal_among (take (place_of table) tables_in_order) bytes

-- the refusal of rows that were all read: too many rows, or else too many different machines
abbrev pub trace_refusal : TraceTables → Option Status
trace_refusal trace = option_map (λ (kind, number). TooMany kind number) (limit_passed trace)

-- the first refusal that stands: those of the six tables in their order, then that of all their rows
abbrev pub first_refusal : (Table → List ℕ) → Option Status
first_refusal bytes = first_standing (refusal_among tables_in_order bytes ∷ trace_refusal (trace_of bytes) ∷ [])
