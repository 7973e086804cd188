-- What is printed of a refusal, and the status with which the program ends.
use Rattle.std.specs.Prelude.{ℕ, List, [], ◌++◌, codes, decimal}
use Rattle.omega_model.specs.declared.results.Cause.{Cause}
use Rattle.omega_model.specs.declared.results.Cause.TheVariants.{Fields, Number, Range, Quantity}
use Rattle.omega_model.specs.declared.results.Kind.{Kind}
use Rattle.omega_model.specs.declared.results.Kind.TheVariants.{Rows, Machines}
use Rattle.omega_model.specs.declared.results.Status.{Status}
use Rattle.omega_model.specs.declared.results.Status.TheVariants.{Done, Usage, ReadFault, TooLong, BadRow, TooMany, BadKept, KeepFault, WriteFault, NoMemory}
use Rattle.omega_model.specs.declared.rows.Table.{Table}
use Rattle.omega_model.specs.declared.rows.Table.TheVariants.{MachineEvents, MachineAttributes, TaskEvents, TaskConstraints, MapreduceJobs, MachineDisk}

-- the name of a table
abbrev pub table_name : Table → List ℕ
table_name MachineEvents = codes "machine_events"
table_name MachineAttributes = codes "machine_attributes"
table_name TaskEvents = codes "task_events"
table_name TaskConstraints = codes "task_constraints"
table_name MapreduceJobs = codes "mapreduce_jobs"
table_name MachineDisk = codes "machine_disk"

-- the words for what there is too much of
abbrev pub kind_name : Kind → List ℕ
kind_name Rows = codes "rows"
kind_name Machines = codes "machines"

-- what is printed of a bad row behind its table and number
abbrev pub cause_text : ℕ → Cause → List ℕ
cause_text column (Fields found) = codes ": " ++ decimal found ++ codes " fields"
cause_text column Number = codes " column " ++ decimal column ++ codes ": not a whole number"
cause_text column Range = codes " column " ++ decimal column ++ codes ": out of range"
cause_text column Quantity = codes " column " ++ decimal column ++ codes ": not a quantity"

-- the line for a status, without a line feed; empty where all went well
abbrev pub fault_text : Status → List ℕ
fault_text Done = []
fault_text Usage = codes "omega: the words are refused"
fault_text (ReadFault table) = codes "omega: cannot read " ++ table_name table
fault_text (TooLong table) = codes "omega: " ++ table_name table ++ codes " is longer than 268435456 bytes"
fault_text (BadRow table row column cause) =
    codes "omega: " ++ table_name table ++ codes " row " ++ decimal row ++ cause_text column cause
fault_text (TooMany kind number) = codes "omega: too many " ++ kind_name kind ++ codes ": " ++ decimal number
fault_text (BadKept number) = codes "omega: kept line " ++ decimal number ++ codes " is refused"
fault_text KeepFault = codes "omega: cannot keep"
fault_text WriteFault = codes "omega: cannot write"
fault_text NoMemory = codes "omega: no memory"

-- the number with which the program ends
abbrev pub exit_status : Status → ℕ
exit_status Done = 0
exit_status Usage = 2
exit_status (ReadFault table) = 3
exit_status (TooLong table) = 3
exit_status (BadRow table row column cause) = 3
exit_status (TooMany kind number) = 3
exit_status (BadKept number) = 6
exit_status KeepFault = 7
exit_status WriteFault = 4
exit_status NoMemory = 5
