-- The trace: the typed rows of the bytes of the six tables.
use Rattle.std.specs.Prelude.{ℕ, List, [], ◌∷◌, ◌++◌, Result}
use Rattle.omega_model.specs.Rows.{rows_in, rows_or_none}
use Rattle.omega_model.specs.Columns.{BadColumn, machine_row, attr_row, task_row, constraint_row, activity_row, disk_row}
use Rattle.omega_model.specs.Fields.{MachineFields, AttrFields, TaskFields, ConstraintFields, ActivityFields, DiskFields}
use Rattle.omega_model.specs.declared.rows.Table.{Table}
use Rattle.omega_model.specs.declared.rows.Table.TheVariants.{MachineEvents, MachineAttributes, TaskEvents, TaskConstraints, MapreduceJobs, MachineDisk}
use Rattle.omega_model.specs.declared.rows.TraceTables.{TraceTables}

-- the six tables in the order in which they are read
abbrev pub tables_in_order : List Table
tables_in_order = MachineEvents ∷ MachineAttributes ∷ TaskEvents ∷ TaskConstraints ∷ MapreduceJobs ∷ MachineDisk ∷ []

-- the place of a table in that order
abbrev pub place_of : Table → ℕ
place_of MachineEvents = 0
place_of MachineAttributes = 1
place_of TaskEvents = 2
place_of TaskConstraints = 3
place_of MapreduceJobs = 4
place_of MachineDisk = 5

-- the rows of each table, or the place of the first bad record, its first bad column and the cause
abbrev pub machine_rows : List ℕ → Result (List MachineFields) (ℕ × BadColumn)
machine_rows bytes = rows_in machine_row bytes

abbrev pub attr_rows : List ℕ → Result (List AttrFields) (ℕ × BadColumn)
attr_rows bytes = rows_in attr_row bytes

abbrev pub task_rows : List ℕ → Result (List TaskFields) (ℕ × BadColumn)
task_rows bytes = rows_in task_row bytes

abbrev pub constraint_rows : List ℕ → Result (List ConstraintFields) (ℕ × BadColumn)
constraint_rows bytes = rows_in constraint_row bytes

abbrev pub activity_rows : List ℕ → Result (List ActivityFields) (ℕ × BadColumn)
activity_rows bytes = rows_in activity_row bytes

abbrev pub disk_rows : List ℕ → Result (List DiskFields) (ℕ × BadColumn)
disk_rows bytes = rows_in disk_row bytes

-- a trace without rows
abbrev pub no_rows : TraceTables
no_rows = record { machines = []; attrs = []; tasks = []; constraints = []; activities = []; disks = [] }

-- a trace with the rows of one table's bytes behind those that it has of that table
abbrev pub with_rows : Table → List ℕ → TraceTables → TraceTables
with_rows MachineEvents bytes trace = record trace { machines = trace.machines ++ rows_or_none (machine_rows bytes) }
with_rows MachineAttributes bytes trace = record trace { attrs = trace.attrs ++ rows_or_none (attr_rows bytes) }
with_rows TaskEvents bytes trace = record trace { tasks = trace.tasks ++ rows_or_none (task_rows bytes) }
with_rows TaskConstraints bytes trace = record trace { constraints = trace.constraints ++ rows_or_none (constraint_rows bytes) }
with_rows MapreduceJobs bytes trace = record trace { activities = trace.activities ++ rows_or_none (activity_rows bytes) }
with_rows MachineDisk bytes trace = record trace { disks = trace.disks ++ rows_or_none (disk_rows bytes) }

-- the trace of the bytes of the six tables
abbrev pub trace_of : (Table → List ℕ) → TraceTables
trace_of bytes = record {
  machines = rows_or_none (machine_rows (bytes MachineEvents));
  attrs = rows_or_none (attr_rows (bytes MachineAttributes));
  tasks = rows_or_none (task_rows (bytes TaskEvents));
  constraints = rows_or_none (constraint_rows (bytes TaskConstraints));
  activities = rows_or_none (activity_rows (bytes MapreduceJobs));
  disks = rows_or_none (disk_rows (bytes MachineDisk));
}
