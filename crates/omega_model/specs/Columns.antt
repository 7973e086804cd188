-- The columns of a record: what each may hold, and the row that they make together.
use Rattle.std.specs.Prelude.{ℕ, ◌+◌, ◌==◌, nat_le, List, [], ◌∷◌, length, Option, Some, None, Result, Ok, Err, if◌then◌else◌}
use Rattle.std.specs.Option.{ok_or}
use Rattle.omega_model.specs.Fields.{MachineFields, AttrFields, TaskFields, ConstraintFields, ActivityFields, DiskFields, most_activities}
use Rattle.omega_model.specs.Numbers.{whole, units_up, units_down}
use Rattle.omega_model.specs.Rows.{column}
use Rattle.omega_model.specs.declared.cells.Need.{Need}
use Rattle.omega_model.specs.declared.cells.Spec.{Spec}
use Rattle.omega_model.specs.declared.cells.TaskKey.{TaskKey}
use Rattle.omega_model.specs.declared.results.Cause.{Cause}
use Rattle.omega_model.specs.declared.results.Cause.TheVariants.{Fields, Number, Range, Quantity}
use Rattle.omega_model.specs.declared.wishes.Op.{Op}
use Rattle.omega_model.specs.declared.wishes.Op.TheVariants.{Equal, NotEqual, Less, Greater}

-- a number in its range, or why there is none: the text was no number, or it is above the greatest
abbrev pub in_range : ℕ → Option ℕ → Result ℕ Cause
in_range greatest None = Err Number
in_range greatest (Some number) = if nat_le number greatest then Ok number else Err Range

-- the whole number of a text, up to the greatest
abbrev pub bounded : ℕ → List ℕ → Result ℕ Cause
bounded greatest text = in_range greatest (whole text)

-- the whole number of a text, up to the greatest; the empty text is 0
abbrev pub blank_or_bounded : ℕ → List ℕ → Result ℕ Cause
blank_or_bounded greatest [] = Ok 0
blank_or_bounded greatest (byte ∷ bytes) = bounded greatest (byte ∷ bytes)

-- the units of a capacity, rounded down; the empty text is 0
abbrev pub amount_down : List ℕ → Result ℕ Cause
amount_down text = ok_or (units_down text) Quantity

-- the units of a request, rounded up; the empty text is 0
abbrev pub amount_up : List ℕ → Result ℕ Cause
amount_up text = ok_or (units_up text) Quantity

-- the number of the first bad column, from 1, and what is wrong with it; 0 stands for the number of fields
abbrev pub BadColumn : Type 0
BadColumn = ℕ × Cause

-- what was read of a column, or that this column is bad
abbrev pub in_column : {A : Type 0} → ℕ → Result A Cause → Result A BadColumn
in_column number (Ok value) = Ok value
in_column number (Err cause) = Err (number, cause)

-- what the next columns make of what was read, unless a column was bad already
abbrev pub and_then : {A B : Type 0} → Result A BadColumn → (A → Result B BadColumn) → Result B BadColumn
and_then (Ok value) next = next value
and_then (Err bad) next = Err bad

-- the number of fields comes before all columns
abbrev pub with_fields : {A : Type 0} → ℕ → List (List ℕ) → Result A BadColumn → Result A BadColumn
with_fields number fields row = if length fields == number then row else Err (0, Fields (length fields))

-- a whole number in a column of a record, up to the greatest
abbrev pub number_in : ℕ → ℕ → List (List ℕ) → Result ℕ BadColumn
number_in greatest number fields = in_column number (bounded greatest (column fields number))

-- a whole number in a column of a record, up to the greatest; an empty column is 0
abbrev pub number_or_blank_in : ℕ → ℕ → List (List ℕ) → Result ℕ BadColumn
number_or_blank_in greatest number fields = in_column number (blank_or_bounded greatest (column fields number))

-- a time in microseconds, below 2 ^ 63
abbrev pub time_in : ℕ → List (List ℕ) → Result ℕ BadColumn
time_in number fields = number_in 9223372036854775807 number fields

-- the number of a machine or of a job: any whole number
abbrev pub id_in : ℕ → List (List ℕ) → Result ℕ BadColumn
id_in number fields = number_in 18446744073709551615 number fields

-- an amount in a column, rounded down
abbrev pub amount_down_in : ℕ → List (List ℕ) → Result ℕ BadColumn
amount_down_in number fields = in_column number (amount_down (column fields number))

-- an amount in a column, rounded up
abbrev pub amount_up_in : ℕ → List (List ℕ) → Result ℕ BadColumn
amount_up_in number fields = in_column number (amount_up (column fields number))

-- the amounts of CPU and of memory of a machine, in a column and the next; its table says nothing of disk
abbrev pub capacity_in : ℕ → List (List ℕ) → Result Need BadColumn
capacity_in number fields =
    and_then (amount_down_in number fields) (λ amount.
    and_then (amount_down_in (number + 1) fields) (λ memory.
    Ok record { cpu = amount; mem = memory; disk = 0 }))

-- the amounts of CPU, memory and disk that a task asks for, in a column and the next two
abbrev pub need_in : ℕ → List (List ℕ) → Result Need BadColumn
need_in number fields =
    and_then (amount_up_in number fields) (λ amount.
    and_then (amount_up_in (number + 1) fields) (λ memory.
    and_then (amount_up_in (number + 2) fields) (λ space.
    Ok record { cpu = amount; mem = memory; disk = space })))

-- the name of a task: its job in a column, and its index below 2 ^ 31 in the next
abbrev pub key_in : ℕ → List (List ℕ) → Result TaskKey BadColumn
key_in number fields =
    and_then (id_in number fields) (λ work.
    and_then (number_in 2147483647 (number + 1) fields) (λ place.
    Ok record { job = work; index = place }))

-- what a task asks for: priority up to 255, CPU, memory, disk, and whether its job wants different machines
abbrev pub spec_of : List (List ℕ) → Result Spec BadColumn
spec_of fields =
    and_then (number_or_blank_in 255 9 fields) (λ priority.
    and_then (need_in 10 fields) (λ amounts.
    and_then (number_or_blank_in 1 13 fields) (λ flag.
    Ok record { need = amounts; prec = priority; differ = flag == 1 })))

-- the row of `machine_events`: time, machine, code up to 2, platform that isn't read, CPU, memory
abbrev pub machine_row : List (List ℕ) → Result MachineFields BadColumn
machine_row fields =
    with_fields 6 fields (
    and_then (time_in 1 fields) (λ moment.
    and_then (id_in 2 fields) (λ id.
    and_then (number_in 2 3 fields) (λ event.
    and_then (capacity_in 5 fields) (λ capacity.
    Ok record { time = moment; machine = id; code = event; cap = capacity })))))

-- the row of `machine_attributes`: time, machine, name, value, and whether it is deleted
abbrev pub attr_row : List (List ℕ) → Result AttrFields BadColumn
attr_row fields =
    with_fields 5 fields (
    and_then (time_in 1 fields) (λ moment.
    and_then (id_in 2 fields) (λ id.
    and_then (number_in 1 5 fields) (λ flag.
    Ok record { time = moment; machine = id; name = column fields 3; value = column fields 4; deleted = flag == 1 }))))

-- the row of `task_events`: time, a column that isn't read, job, index, machine that isn't read, code up to
-- 8, user that isn't read, class up to 3, and what the task asks for
abbrev pub task_row : List (List ℕ) → Result TaskFields BadColumn
task_row fields =
    with_fields 13 fields (
    and_then (time_in 1 fields) (λ moment.
    and_then (key_in 3 fields) (λ name.
    and_then (number_in 8 6 fields) (λ event.
    and_then (number_or_blank_in 3 8 fields) (λ kind.
    and_then (spec_of fields) (λ asked.
    Ok record { time = moment; key = name; code = event; class = kind; spec = asked }))))))

-- the operator with a number: 0 equal, 1 not equal, 2 less, 3 greater
abbrev pub operator : ℕ → Op
operator number =
    if number == 0 then Equal else (if number == 1 then NotEqual else (if number == 2 then Less else Greater))

-- the row of `task_constraints`: time that isn't kept, job, index, operator up to 3, name, value
abbrev pub constraint_row : List (List ℕ) → Result ConstraintFields BadColumn
constraint_row fields =
    with_fields 6 fields (
    and_then (time_in 1 fields) (λ moment.
    and_then (key_in 2 fields) (λ task.
    and_then (number_in 3 4 fields) (λ code.
    Ok record { key = task; constraint = record { op = operator code; name = column fields 5; value = column fields 6 } }))))

-- the row of `mapreduce_jobs`: job, and activities up to the most that a job may have
abbrev pub activity_row : List (List ℕ) → Result ActivityFields BadColumn
activity_row fields =
    with_fields 2 fields (
    and_then (id_in 1 fields) (λ work.
    and_then (number_in most_activities 2 fields) (λ number.
    Ok record { job = work; activities = number })))

-- the row of `machine_disk`: machine, disk
abbrev pub disk_row : List (List ℕ) → Result DiskFields BadColumn
disk_row fields =
    with_fields 2 fields (
    and_then (id_in 1 fields) (λ id.
    and_then (amount_down_in 2 fields) (λ space.
    Ok record { machine = id; disk = space })))
