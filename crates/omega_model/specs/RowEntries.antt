-- The entries that a row of the events gives.
use Rattle.std.specs.Prelude.{List, [], ◌∷◌, ◌++◌, if◌then◌else◌}
use Rattle.omega_model.specs.Cell.{Cell, task_at}
use Rattle.omega_model.specs.ExtraTasks.{ends_of_extras}
use Rattle.omega_model.specs.Fields.{TaskFields, DiskFields}
use Rattle.omega_model.specs.Wanted.{WantedTask, ends, end_of, machine_entry, attr_entry}
use Rattle.omega_model.specs.declared.entries.Entry.{Entry}
use Rattle.omega_model.specs.declared.rows.Row.{Row}
use Rattle.omega_model.specs.declared.rows.Row.TheVariants.{Machine, Attr, Task}

-- the entries of a task row on a cell, where the row leaves these tasks wanted: the end of the task, if it
-- runs, and then those of its job's extras, if no task of the trace is wanted of the job any more
abbrev pub task_entries : Cell → List WantedTask → TaskFields → List Entry
task_entries cell left row =
    if ends row.code then end_of (task_at cell.tasks row.key) ++ ends_of_extras cell left row.key.job else []

-- the entries of a row on a cell, where machines have these disks and the row leaves these tasks wanted
abbrev pub row_entries : List DiskFields → Cell → List WantedTask → Row → List Entry
row_entries disks cell left (Machine row) = machine_entry disks row ∷ []
row_entries disks cell left (Attr row) = attr_entry row ∷ []
row_entries disks cell left (Task row) = task_entries cell left row
