-- One thing for each of the six tables.
use Rattle.std.specs.Prelude.{ℕ, List, [], get_or}
use Rattle.omega_model.specs.declared.rows.Table.{Table}
use Rattle.omega_model.specs.declared.rows.Table.TheVariants.{MachineEvents, MachineAttributes, TaskEvents, TaskConstraints, MapreduceJobs, MachineDisk}
use Rattle.omega_model.specs.Trace.{place_of}
use Rattle.omega_io.specs.declared.by_table.ByTable.{ByTable}

-- the one of this table
abbrev pub at : {A : Type 0} → ByTable A → Table → A
at all MachineEvents = all.machine_events
at all MachineAttributes = all.machine_attributes
at all TaskEvents = all.task_events
at all TaskConstraints = all.task_constraints
at all MapreduceJobs = all.mapreduce_jobs
at all MachineDisk = all.machine_disk

-- another one for this table
abbrev pub put : {A : Type 0} → ByTable A → Table → A → ByTable A
put all MachineEvents one = record all { machine_events = one }
put all MachineAttributes one = record all { machine_attributes = one }
put all TaskEvents one = record all { task_events = one }
put all TaskConstraints one = record all { task_constraints = one }
put all MapreduceJobs one = record all { mapreduce_jobs = one }
put all MachineDisk one = record all { machine_disk = one }

-- the bytes of a table among those of the six in their order
abbrev pub bytes_of : List (List ℕ) → Table → List ℕ
bytes_of six table = get_or six (place_of table) []
