-- Which tasks are wanted after some rows, and the single entries that rows give.
use Rattle.std.specs.Prelude.{ℕ, Bool, List, [], ◌∷◌, ◌++◌, Option, Some, None, ◌==◌, ◌&&◌, not, nat_le, map, unwrap_or, if◌then◌else◌}
use Rattle.std.specs.List.{filter, fold, last_or, list_any}
use Rattle.omega_model.specs.Fields.{MachineFields, AttrFields, TaskFields, DiskFields, greatest_quantity}
use Rattle.omega_model.specs.Keys.{same_key, key_lt}
use Rattle.omega_model.specs.declared.cells.Need.{Need}
use Rattle.omega_model.specs.declared.cells.Spec.{Spec}
use Rattle.omega_model.specs.declared.cells.Task.{Task}
use Rattle.omega_model.specs.declared.cells.TaskKey.{TaskKey}
use Rattle.omega_model.specs.declared.entries.Entry.{Entry}
use Rattle.omega_model.specs.declared.entries.Entry.TheVariants.{MachineAdd, MachineUpdate, MachineRemove, AttrSet, AttrDelete, End}
use Rattle.omega_model.specs.declared.rows.Row.{Row}
use Rattle.omega_model.specs.declared.rows.Row.TheVariants.{Machine, Attr as AttrEvent, Task as TaskEvent}

-- a task that is to run, and how
pub record WantedTask : Type 0 where
  pub key : TaskKey
  pub spec : Spec

-- whether a code of a task row asks for the task: it is submitted or scheduled
abbrev pub submits : ℕ → Bool
submits code = nat_le code 1

-- whether a code of a task row ends the task: it failed, finished, was killed or lost
abbrev pub ends : ℕ → Bool
ends code = nat_le 3 code && nat_le code 6

-- whether a code of a task row changes what the task asks for
abbrev pub updates : ℕ → Bool
updates code = nat_le 7 code

-- whether this is the wanted task of this name
abbrev pub is_named : TaskKey → WantedTask → Bool
is_named key task = same_key task.key key

-- the wanted tasks in order of key, with this one new or in the place of the one of its name
abbrev pub with_wanted : TaskKey → Spec → List WantedTask → List WantedTask
with_wanted key spec wanted =
    filter (λ other. key_lt other.key key) wanted ++ record { key = key; spec = spec } ∷ filter (λ other. key_lt key other.key) wanted

-- the wanted tasks after a task row
abbrev pub wanted_after_task : List WantedTask → TaskFields → List WantedTask
wanted_after_task wanted row =
    if submits row.code then with_wanted row.key row.spec wanted
    else (if ends row.code then filter (λ task. not (is_named row.key task)) wanted
    else (if updates row.code && list_any (is_named row.key) wanted then with_wanted row.key row.spec wanted else wanted))

-- the wanted tasks after a row: a row of another table changes none
abbrev pub wanted_after : List WantedTask → Row → List WantedTask
wanted_after wanted (Machine row) = wanted
wanted_after wanted (AttrEvent row) = wanted
wanted_after wanted (TaskEvent row) = wanted_after_task wanted row

-- the tasks that are wanted after these rows, in order of key
abbrev pub wanted : List Row → List WantedTask
wanted rows = fold wanted_after [] rows

-- the disk of a machine: that of the last row for it, and the greatest quantity where it has none
abbrev pub disk_of : List DiskFields → ℕ → ℕ
disk_of disks machine =
    unwrap_or (last_or None (map (λ row. row.disk) (filter (λ row. row.machine == machine) disks))) greatest_quantity

-- the capacity that a machine row gives: its CPU and memory, and the disk of its machine
abbrev pub capacity_from : List DiskFields → MachineFields → Need
capacity_from disks row = record row.cap { disk = disk_of disks row.machine }

-- the entry of a machine row
abbrev pub machine_entry : List DiskFields → MachineFields → Entry
machine_entry disks row =
    if row.code == 0 then MachineAdd row.machine (capacity_from disks row)
    else (if row.code == 1 then MachineRemove row.machine else MachineUpdate row.machine (capacity_from disks row))

-- the entry of an attribute row
abbrev pub attr_entry : AttrFields → Entry
attr_entry row = if row.deleted then AttrDelete row.machine row.name else AttrSet row.machine row.name row.value

-- the end of a task, if it runs
abbrev pub end_of : Option Task → List Entry
end_of None = []
end_of (Some task) = End task.key task.machine ∷ []
