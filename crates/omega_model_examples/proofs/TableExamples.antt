-- Worked answers on records, rows, and the first refusal.
use Rattle.std.proofs.Common.{◌≡◌, ℕ, List, [], ◌∷◌, ◌++◌, Some, None, refl, false}
use Rattle.std.specs.Prelude.{codes, Ok, Err}
use Rattle.csv.proofs.OnLiterals.{csv_on_literals}
use Rattle.omega_model.specs.Rows.{records_of}
use Rattle.omega_model.specs.Columns.{bounded, blank_or_bounded, amount_down, amount_up, machine_row}
use Rattle.omega_model.specs.Numbers.{ten_to}
use Rattle.omega_model.specs.Trace.{trace_of, no_rows}
use Rattle.omega_model.specs.Refusals.{first_refusal, refusal_before}
use Rattle.omega_model.specs.declared.rows.Table.{Table}
use Rattle.omega_model.specs.declared.rows.Table.TheVariants.{MachineEvents, MachineAttributes, TaskEvents, TaskConstraints, MapreduceJobs, MachineDisk}
use Rattle.omega_model.specs.declared.results.Status.TheVariants.{BadRow}
use Rattle.omega_model.specs.declared.results.Cause.TheVariants.{Fields, Number, Range, Quantity}

-- quotes hold commas, empty lines are no records, fields may differ in number
cut : records_of (codes "a,\"b,c\"\n\n\"\"\nd") ≡ (codes "a" ∷ codes "b,c" ∷ []) ∷ ([] ∷ []) ∷ (codes "d" ∷ []) ∷ []
unfolding csv_on_literals
cut = refl

-- a byte order mark at the beginning is dropped
marked : records_of (239 ∷ 187 ∷ 191 ∷ codes "a\n") ≡ (codes "a" ∷ []) ∷ []
unfolding csv_on_literals
marked = refl

leading_zeros : bounded 255 (codes "0255") ≡ Ok 255
leading_zeros = refl

above : bounded 255 (codes "256") ≡ Err Range
above = refl

far_above : bounded 255 (codes "18446744073709551616") ≡ Err Number
far_above = refl

no_digits : bounded 255 [] ≡ Err Number
no_digits = refl

blank : blank_or_bounded 3 [] ≡ Ok 0
blank = refl

last_class : blank_or_bounded 3 (codes "3") ≡ Ok 3
last_class = refl

no_class : blank_or_bounded 3 (codes "4") ≡ Err Range
no_class = refl

quarter : amount_down (codes "0.25") ≡ Ok 250000000
unfolding ten_to
quarter = refl

too_fine_down : amount_down (codes "0.0000000001") ≡ Ok 0
unfolding ten_to
too_fine_down = refl

too_fine_up : amount_up (codes "0.0000000001") ≡ Ok 1
unfolding ten_to
too_fine_up = refl

too_much : amount_up (codes "1000.0000000001") ≡ Err Quantity
unfolding ten_to
too_much = refl

bare_point : amount_down (codes ".") ≡ Err Quantity
bare_point = refl

-- of two bad columns the left one is named, and the number of fields comes before both
left_first : machine_row (codes "9223372036854775808" ∷ codes "1" ∷ codes "3" ∷ [] ∷ [] ∷ [] ∷ []) ≡ Err (1, Range)
left_first = refl

fields_first : machine_row (codes "9223372036854775808" ∷ codes "1" ∷ codes "3" ∷ []) ≡ Err (0, Fields 3)
fields_first = refl

-- one machine and one task, and a second task that comes later
machines : List ℕ
machines = codes "0,1,0,p,0.5,0.5\n"

first_task : List ℕ
first_task = codes "0,,10,0,,0,u,0,1,0.25,0.25,0.001,0\n"

second_task : List ℕ
second_task = codes "5,,10,1,,0,u,0,1,0.25,0.25,0.001,0\n"

tables : List ℕ → List ℕ → Table → List ℕ
tables added submitted MachineEvents = added
tables added submitted MachineAttributes = []
tables added submitted TaskEvents = submitted
tables added submitted TaskConstraints = []
tables added submitted MapreduceJobs = []
tables added submitted MachineDisk = []

example : trace_of (tables machines first_task) ≡ record no_rows {
  machines = record { time = 0; machine = 1; code = 0; cap = record { cpu = 500000000; mem = 500000000; disk = 0 } } ∷ [];
  tasks = record {
    time = 0;
    key = record { job = 10; index = 0 };
    code = 0;
    class = 0;
    spec = record { need = record { cpu = 250000000; mem = 250000000; disk = 1000000 }; prec = 1; differ = false };
  } ∷ [];
}
unfolding csv_on_literals machines first_task tables ten_to
example = refl

accepted : first_refusal (tables machines first_task) ≡ None
unfolding csv_on_literals machines first_task tables ten_to
accepted = refl

later_task : first_refusal (tables machines (first_task ++ second_task)) ≡ None
unfolding csv_on_literals machines first_task second_task tables ten_to
later_task = refl

-- a second task of twelve fields
short_task : List ℕ
short_task = codes "5,,10,1,,0,u,0,1,0.25,0.25,0.001\n"

too_short : first_refusal (tables machines (first_task ++ short_task)) ≡ Some (BadRow TaskEvents 2 0 (Fields 12))
unfolding csv_on_literals machines first_task short_task tables ten_to
too_short = refl

-- a task that asks for a little more than the greatest amount
greedy_task : List ℕ
greedy_task = codes "0,,10,0,,0,u,0,1,1000.0000000001,0.25,0.001,0\n"

too_greedy : first_refusal (tables machines greedy_task) ≡ Some (BadRow TaskEvents 1 10 Quantity)
unfolding csv_on_literals machines greedy_task tables ten_to
too_greedy = refl

-- the machines come first, and a fault of the tasks can't come before their refusal
machines_first : first_refusal (tables first_task second_task) ≡ Some (BadRow MachineEvents 1 0 (Fields 13))
unfolding csv_on_literals first_task second_task tables ten_to
machines_first = refl

before_the_tasks : refusal_before TaskEvents (tables machines second_task) ≡ None
unfolding csv_on_literals machines second_task tables ten_to
before_the_tasks = refl

-- a task whose disk is no quantity
diskless_task : List ℕ
diskless_task = codes "0,,10,0,,0,u,0,1,0.25,0.25,x,0\n"

no_disk : first_refusal (tables machines diskless_task) ≡ Some (BadRow TaskEvents 1 12 Quantity)
unfolding csv_on_literals machines diskless_task tables ten_to
no_disk = refl

-- the sixth table comes last
with_disk : List ℕ → Table → List ℕ
with_disk disks MachineDisk = disks
with_disk disks table = tables machines first_task table

disk_rows_read : (trace_of (with_disk (codes "1,0.0009\n2,\n"))).disks ≡ record { machine = 1; disk = 900000 } ∷ record { machine = 2; disk = 0 } ∷ []
unfolding csv_on_literals machines first_task tables with_disk ten_to
disk_rows_read = refl

bad_disk : first_refusal (with_disk (codes "1,0.0009\n2,-1\n")) ≡ Some (BadRow MachineDisk 2 2 Quantity)
unfolding csv_on_literals machines first_task tables with_disk ten_to
bad_disk = refl
