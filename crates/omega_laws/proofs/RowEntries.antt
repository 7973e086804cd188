-- The entries of rows.
use Rattle.std.proofs.Common.{true, false, List, [], ◌∷◌, map}
use Rattle.std.specs.Prelude.{◌==◌, All, if◌then◌else◌}
use Rattle.std.proofs.lemmas.List.Elements.{All-cons, All-nil}
use Rattle.omega_model.proofs.RowEnds.{end_task, stopped_by, stops}
use Rattle.omega_model.specs.Cell.{Cell}
use Rattle.omega_model.specs.Fields.{MachineFields, AttrFields, TaskFields, DiskFields}
use Rattle.omega_model.specs.RowEntries.{row_entries, task_entries}
use Rattle.omega_model.specs.Wanted.{WantedTask, attr_entry, capacity_from, machine_entry}
use Rattle.omega_model.specs.declared.cells.Task.{Task}
use Rattle.omega_model.specs.declared.entries.Entry.{Entry}
use Rattle.omega_model.specs.declared.entries.Entry.TheVariants.{Round as RoundEntry, MachineAdd, MachineUpdate, MachineRemove, AttrSet, AttrDelete, Commit}
use Rattle.omega_model.specs.declared.rows.Row.{Row}
use Rattle.omega_model.specs.declared.rows.Row.TheVariants.{Machine, Attr as AttrEvent, Task as TaskEvent}

-- an entry that a row may give
abbrev pub IsOfRow : Entry → Type 0
IsOfRow (RoundEntry number) = ⊥
IsOfRow (Commit scheduler seen txn reply) = ⊥
IsOfRow _ = Unit {0}

machine_is_of_row : (disks : List DiskFields) (row : MachineFields) → IsOfRow (machine_entry disks row)
machine_is_of_row disks row = elim (row.code == 0) as (λ test. IsOfRow (if test then MachineAdd row.machine (capacity_from disks row)
    else (if row.code == 1 then MachineRemove row.machine else MachineUpdate row.machine (capacity_from disks row)))) [
      | true ↦ tt
      | false ↦ elim (row.code == 1) as (λ test. IsOfRow (if test then MachineRemove row.machine else MachineUpdate row.machine (capacity_from disks row))) [ true ↦ tt | false ↦ tt ]
    ]

attr_is_of_row : (row : AttrFields) → IsOfRow (attr_entry row)
attr_is_of_row row = elim row.deleted as (λ test. IsOfRow (if test then AttrDelete row.machine row.name else AttrSet row.machine row.name row.value)) [ true ↦ tt | false ↦ tt ]

-- tasks end by entries of a row, extras too
ends_are_of_row : (some : List Task) → All IsOfRow (map end_task some)
ends_are_of_row [] = All-nil IsOfRow
ends_are_of_row (task ∷ some) = All-cons IsOfRow (end_task task) (map end_task some) tt (ends_are_of_row some)

task_is_of_row : (cell : Cell) (left : List WantedTask) (row : TaskFields) → All IsOfRow (task_entries cell left row)
task_is_of_row cell left row = rw (stops cell left row) (ends_are_of_row (stopped_by cell left row))

-- the entries of a row are neither rounds nor commits
pub are_of_row : (disks : List DiskFields) (cell : Cell) (left : List WantedTask) (row : Row) → All IsOfRow (row_entries disks cell left row)
are_of_row disks cell left (Machine row) = All-cons IsOfRow (machine_entry disks row) [] (machine_is_of_row disks row) (All-nil IsOfRow)
are_of_row disks cell left (AttrEvent row) = All-cons IsOfRow (attr_entry row) [] (attr_is_of_row row) (All-nil IsOfRow)
are_of_row disks cell left (TaskEvent row) = task_is_of_row cell left row
