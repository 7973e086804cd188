-- No table that is generated is refused.
use Rattle.std.proofs.Common.{◌≡◌, ℕ, ◌*◌, ◌≤◌, false, List, [], ◌∷◌, length, Option, None, Ok, map, refl, sym, ap, ◌∙◌, arith, ltb, length-append}
use Rattle.std.specs.List.{flat_map, range_with_len}
use Rattle.std.proofs.lemmas.Bool.{le-ltb}
use Rattle.std.proofs.lemmas.List.{length-map}
use Rattle.csv.specs.Machine.{next_record}
use Rattle.csv.specs.Reading.{records_from, strip_bom}
use Rattle.omega_model.proofs.Fewer.{once_fewer}
use Rattle.omega_model.proofs.FirstRefusal.{rows_last}
use Rattle.omega_model.specs.Columns.{machine_row, task_row}
use Rattle.omega_model.specs.Fields.{MachineFields, TaskFields}
use Rattle.omega_model.specs.Generated.{job_at, machine_text, made_of}
use Rattle.omega_model.specs.Limits.{machine_count, named_machines, row_count}
use Rattle.omega_model.specs.Refusals.{bad_row, first_refusal, first_standing, length_refusal, row_refusal, table_refusal, trace_refusal}
use Rattle.omega_model.specs.Rows.{rows_or_none}
use Rattle.omega_model.specs.Trace.{machine_rows, task_rows, trace_of}
use Rattle.omega_model.specs.declared.results.Status.{Status}
use Rattle.omega_model.specs.declared.rows.Table.{Table}
use Rattle.omega_model.specs.declared.rows.TraceTables.{TraceTables}
use Rattle.omega_model.specs.declared.rows.Table.TheVariants.{MachineEvents, MachineAttributes, TaskEvents, TaskConstraints, MapreduceJobs, MachineDisk}
use Rattle.omega_gen.proofs.MadeRows.{jobs_are_rows, machines_are_rows}
use Rattle.omega_gen.proofs.RowTexts.{text_length, typed_rows}

not_long : (table : Table) (text : List ℕ) → length text ≤ 268435456 → length_refusal table text ≡ None
not_long table text short =
    let test : ltb 268435456 (length text) ≡ false = le-ltb 268435456 (length text) short in
    rw test refl

first_of_six : (machines attrs tasks constraints activities disks : Option Status)
    → machines ≡ None → attrs ≡ None → tasks ≡ None → constraints ≡ None → activities ≡ None → disks ≡ None
    → first_standing (machines ∷ attrs ∷ tasks ∷ constraints ∷ activities ∷ disks ∷ []) ≡ None
first_of_six machines attrs tasks constraints activities disks a b c d e f = rw (a, b, c, d, e, f) refl

both_stand : (one other : Option Status) → one ≡ None → other ≡ None → first_standing (one ∷ other ∷ []) ≡ None
both_stand one other a b = rw (a, b) refl

empty_fine : (table : Table) → table_refusal table [] ≡ None
unfolding records_from strip_bom next_record
empty_fine MachineEvents = refl
empty_fine MachineAttributes = refl
empty_fine TaskEvents = refl
empty_fine TaskConstraints = refl
empty_fine MapreduceJobs = refl
empty_fine MachineDisk = refl

-- tables within the limits aren't refused for their numbers
within_limits : (trace : TraceTables) → row_count trace ≤ 2000000 → machine_count trace ≤ 65536 → trace_refusal trace ≡ None
within_limits trace rows machines =
    let few : ltb 2000000 (row_count trace) ≡ false = le-ltb 2000000 (row_count trace) rows in
    let some : ltb 65536 (machine_count trace) ≡ false = le-ltb 65536 (machine_count trace) machines in
    rw (few, some) refl

-- a trace of rows of machines and of tasks alone
abbrev of_rows : List MachineFields → List TaskFields → TraceTables
of_rows machines tasks = record { machines = machines; attrs = []; tasks = tasks; constraints = []; activities = []; disks = [] }

few_rows : (machines : List MachineFields) (tasks : List TaskFields) → length machines ≤ 4096 → length tasks ≤ 320000
    → trace_refusal (of_rows machines tasks) ≡ None
few_rows machines tasks some more =
    let trace = of_rows machines tasks in
    let named = length-append (map (λ row. row.machine) machines) [] in
    let mapped = length-map machines (λ (row : MachineFields). row.machine) in
    let once = once_fewer (named_machines trace) in
    within_limits trace (omega arith) (omega arith)

-- the bytes of tables with rows of machines and of tasks alone
abbrev of_texts : List ℕ → List ℕ → Table → List ℕ
of_texts machines tasks MachineEvents = machines
of_texts machines tasks MachineAttributes = []
of_texts machines tasks TaskEvents = tasks
of_texts machines tasks TaskConstraints = []
of_texts machines tasks MapreduceJobs = []
of_texts machines tasks MachineDisk = []

trace_is : (machines tasks : List ℕ) (one : List MachineFields) (other : List TaskFields) → machine_rows machines ≡ Ok one → task_rows tasks ≡ Ok other
    → trace_of (of_texts machines tasks) ≡ of_rows one other
unfolding records_from strip_bom next_record
trace_is machines tasks one other first second =
    λ i. record { machines = rows_or_none (first i); attrs = []; tasks = rows_or_none (second i); constraints = []; activities = []; disks = [] }

-- rows that are read, of texts that aren't too long and not too many of them
fine : (machines tasks : List ℕ) (one : List MachineFields) (other : List TaskFields) → machine_rows machines ≡ Ok one → task_rows tasks ≡ Ok other
    → length machines ≤ 268435456 → length tasks ≤ 268435456 → length one ≤ 4096 → length other ≤ 320000
    → first_refusal (of_texts machines tasks) ≡ None
fine machines tasks one other first second short long few many =
    rows_last (of_texts machines tasks) None
    (first_of_six (table_refusal MachineEvents machines) (table_refusal MachineAttributes []) (table_refusal TaskEvents tasks)
    (table_refusal TaskConstraints []) (table_refusal MapreduceJobs []) (table_refusal MachineDisk [])
    (both_stand (length_refusal MachineEvents machines) (row_refusal MachineEvents machines) (not_long MachineEvents machines short)
    (ap (λ rows. bad_row MachineEvents rows) first))
    (empty_fine MachineAttributes)
    (both_stand (length_refusal TaskEvents tasks) (row_refusal TaskEvents tasks) (not_long TaskEvents tasks long)
    (ap (λ rows. bad_row TaskEvents rows) second))
    (empty_fine TaskConstraints) (empty_fine MapreduceJobs) (empty_fine MachineDisk))
    (ap trace_refusal (trace_is machines tasks one other first second) ∙ few_rows one other few many)

made_is : (word : ℕ → ℕ) (machines jobs : ℕ) (table : Table)
    → of_texts (flat_map (machine_text word) (range_with_len 0 machines)) (flat_map (job_at word machines) (range_with_len 0 jobs)) table
    ≡ made_of word machines jobs table
made_is word machines jobs MachineEvents = refl
made_is word machines jobs MachineAttributes = refl
made_is word machines jobs TaskEvents = refl
made_is word machines jobs TaskConstraints = refl
made_is word machines jobs MapreduceJobs = refl
made_is word machines jobs MachineDisk = refl

-- no table that is made of words is refused
pub none_refused : (word : ℕ → ℕ) (machines jobs : ℕ) → machines ≤ 4096 → jobs ≤ 20000 → first_refusal (made_of word machines jobs) ≡ None
none_refused word machines jobs few some =
    let one = flat_map (machine_text word) (range_with_len 0 machines) in
    let other = flat_map (job_at word machines) (range_with_len 0 jobs) in
    let first = machines_are_rows word machines few in
    let second = jobs_are_rows word machines jobs some in
    let rows = typed_rows machine_row one (machines * 1) first in
    let more = typed_rows task_row other (jobs * 16) second in
    let short = text_length machine_row one (machines * 1) first in
    let long = text_length task_row other (jobs * 16) second in
    ap first_refusal (sym (λ i table. made_is word machines jobs table i))
    ∙ fine one other rows.0 more.0 rows.1 more.1 (omega (arith, short)) (omega (arith, long)) (omega (arith, rows.2)) (omega (arith, more.2))
