-- What is taken of a text's rows, where only so many may be held.
use Rattle.std.proofs.Common.{◌≡◌, ◌∙◌, ◌<◌, ◌≤◌, ◌+◌, ◌++◌, ℕ, List, [], ◌∷◌, length, length-append, Option, Some, None, true, refl, sym, ap, arith}
use Rattle.std.specs.Prelude.{Result, Ok, Err, nat_lt}
use Rattle.std.proofs.lemmas.Bool.{lt-ltb}
use Rattle.std.proofs.lemmas.List.{length_push}
use Rattle.omega_model.specs.Columns.{BadColumn}
use Rattle.omega_model.specs.Limits.{row_count, most_rows}
use Rattle.omega_model.specs.Refusals.{bad_row, trace_refusal}
use Rattle.omega_model.specs.Rows.{rows_by, rows_or_none}
use Rattle.omega_model.specs.Trace.{with_rows, machine_rows, attr_rows, task_rows, constraint_rows, activity_rows, disk_rows}
use Rattle.omega_model.specs.declared.results.Kind.TheVariants.{Rows}
use Rattle.omega_model.specs.declared.results.Status.TheVariants as status
use Rattle.omega_model.specs.declared.rows.Table.{Table}
use Rattle.omega_model.specs.declared.rows.Table.TheVariants.{MachineEvents, MachineAttributes, TaskEvents, TaskConstraints, MapreduceJobs, MachineDisk}
use Rattle.omega_model.specs.declared.rows.TraceTables.{TraceTables}
use Rattle.omega_model.proofs.TypedRows.{rows_by-append, rows_push, then_rows}
use Rattle.omega_tables.specs.Taking.{count_of, held_count, table_count, Gathers, Takes}
use Rattle.omega_tables.specs.declared.gathered.Gathered.{Gathered}
use Rattle.omega_tables.specs.declared.taken.Taken.{Taken}
use Rattle.omega_tables.specs.declared.taken.Taken.TheVariants.{All, Number}

-- the rows of the records so far, of which there are so many; they are held where there are no more than may be
abbrev pub SoFar : {A : Type 0} → (List (List ℕ) → Result A BadColumn) → ℕ → List (List (List ℕ)) → List A → ℕ → Type 0
SoFar {A} row_of most done held number = (rows : List A) × (rows_by row_of done ≡ Ok rows) × (number ≡ length rows) × (number ≤ most → held ≡ rows)

-- one more row
pub so_far_more : {A : Type 0} (row_of : List (List ℕ) → Result A BadColumn) (most : ℕ) (done : List (List (List ℕ))) (held now : List A) (number : ℕ)
    (fields : List (List ℕ)) (row : A) → SoFar row_of most done held number → row_of fields ≡ Ok row → (number < most → now ≡ held ++ row ∷ [])
    → SoFar row_of most (done ++ fields ∷ []) now (number + 1)
so_far_more {A} row_of most done held now number fields row so_far is more = (
  so_far.0 ++ row ∷ [],
  rows_push row_of done so_far.0 fields row so_far.1 is,
  ap (λ (n : ℕ). n + 1) so_far.2 ∙ sym (length_push so_far.0 row),
  λ few. more (omega (arith, few)) ∙ ap (λ (rows : List A). rows ++ row ∷ []) (so_far.3 (omega (arith, few))),
)

-- the number of the rows of both parts
pub count_both : {A : Type 0} (row_of : List (List ℕ) → Result A BadColumn) (first second : List (List (List ℕ))) (n m sum : ℕ)
    → count_of (rows_by row_of first) ≡ Some n → count_of (rows_by row_of second) ≡ Some m → sum ≡ n + m
    → count_of (rows_by row_of (first ++ second)) ≡ Some sum
count_both {A} row_of first second n m sum a b s = rw (rows_by-append row_of first second) (by (rows_by row_of first) (rows_by row_of second) a b)
  where
    by : (x y : Result (List A) (ℕ × BadColumn)) → count_of x ≡ Some n → count_of y ≡ Some m → count_of (then_rows x y) ≡ Some sum
    by (Ok rows) (Ok more) a b =
        let one : length rows ≡ n = cc a in
        let two : length more ≡ m = cc b in
        let both : length (rows ++ more) ≡ sum = length-append rows more ∙ omega (arith, one, two, s) in
        ap Some both
    by (Ok rows) (Err why) a b = cc b
    by (Err why) y a b = cc a

-- the number of rows that are known
pub count_ok : {A E : Type 0} (answer : Result (List A) E) (rows : List A) → answer ≡ Ok rows → count_of answer ≡ Some (length rows)
count_ok answer rows is = rw is refl

-- a list that has these rows behind its own
pub length_more : {A E : Type 0} (before : List A) (answer : Result (List A) E) (number : ℕ) → count_of answer ≡ Some number
    → length (before ++ rows_or_none answer) ≡ length before + number
length_more before (Ok rows) number is =
    let same : length rows ≡ number = cc is in
    length-append before rows ∙ ap (λ (n : ℕ). length before + n) same
length_more before (Err why) number is = cc is

-- the rows so far, where they are held
pub so_far_held : {A : Type 0} (row_of : List (List ℕ) → Result A BadColumn) (most : ℕ) (done : List (List (List ℕ))) (held : List A) (number : ℕ)
    → SoFar row_of most done held number → number ≤ most → rows_by row_of done ≡ Ok held
so_far_held row_of most done held number so_far few = so_far.1 ∙ ap Ok (sym (so_far.3 few))

-- how many there are
pub so_far_count : {A : Type 0} (row_of : List (List ℕ) → Result A BadColumn) (most : ℕ) (done : List (List (List ℕ))) (held : List A) (number : ℕ)
    → SoFar row_of most done held number → count_of (rows_by row_of done) ≡ Some number
so_far_count row_of most done held number so_far = count_ok (rows_by row_of done) so_far.0 so_far.1 ∙ ap Some (sym so_far.2)

-- what was taken is so many
pub takes_count : {A : Type 0} (most : ℕ) (answer : Result (List A) (ℕ × BadColumn)) (taken : Taken A) → Takes most answer taken → count_of answer ≡ Some (held_count taken)
takes_count most answer (All rows) is = count_ok answer rows.items is
takes_count most answer (Number number) is = is.1

-- where of one part only the number is known, that of both is
pub joined_count : {A : Type 0} (row_of : List (List ℕ) → Result A BadColumn) (most : ℕ) (first second : List (List (List ℕ))) (front back : Taken A) (number : ℕ)
    → Takes most (rows_by row_of first) front → Takes most (rows_by row_of second) back → number ≡ held_count front + held_count back → most < number
    → Takes most (rows_by row_of (first ++ second)) (Number number)
joined_count row_of most first second front back number one two sum above = (
  above,
  count_both row_of first second (held_count front) (held_count back) number
      (takes_count most (rows_by row_of first) front one) (takes_count most (rows_by row_of second) back two) sum,
)

-- there are more than may be held where only the number is known
pub above_most : {A : Type 0} (most number : ℕ) (answer : Result (List A) (ℕ × BadColumn)) (taken : Taken A) → Takes most answer taken → taken ≡ Number number → most < held_count taken
above_most most number answer taken takes is = rw is ((rw is at takes).0)

-- what was taken is no bad row
pub takes_none : {A : Type 0} (table : Table) (most : ℕ) (answer : Result (List A) (ℕ × BadColumn)) (taken : Taken A) → Takes most answer taken → bad_row table answer ≡ None
takes_none {A} table most answer taken takes = by answer (takes_count most answer taken takes)
  where
    by : (answer : Result (List A) (ℕ × BadColumn)) → count_of answer ≡ Some (held_count taken) → bad_row table answer ≡ None
    by (Ok rows) is = refl
    by (Err why) is = cc is

-- a trace with the rows of one table's bytes has so many more
pub more_rows : (table : Table) (bytes : List ℕ) (trace : TraceTables) (number : ℕ) → table_count table bytes ≡ Some number
    → row_count (with_rows table bytes trace) ≡ row_count trace + number
more_rows MachineEvents bytes trace number is =
    let more = length_more trace.machines (machine_rows bytes) number is in
    omega (arith, more)
more_rows MachineAttributes bytes trace number is =
    let more = length_more trace.attrs (attr_rows bytes) number is in
    omega (arith, more)
more_rows TaskEvents bytes trace number is =
    let more = length_more trace.tasks (task_rows bytes) number is in
    omega (arith, more)
more_rows TaskConstraints bytes trace number is =
    let more = length_more trace.constraints (constraint_rows bytes) number is in
    omega (arith, more)
more_rows MapreduceJobs bytes trace number is =
    let more = length_more trace.activities (activity_rows bytes) number is in
    omega (arith, more)
more_rows MachineDisk bytes trace number is =
    let more = length_more trace.disks (disk_rows bytes) number is in
    omega (arith, more)

-- the rows of one more table, where all may be held
pub gathers_more : (old new : Gathered) (trace : TraceTables) (table : Table) (bytes : List ℕ) (most number : ℕ) → Gathers old trace
    → table_count table bytes ≡ Some number → new.number ≡ old.number + number
    → (new.number ≤ most_rows → number ≤ most → new.trace ≡ with_rows table bytes old.trace)
    → (old.number + number ≤ most_rows → number ≤ most)
    → Gathers new (with_rows table bytes trace)
gathers_more old new trace table bytes most number before count sum rows few = record {
  number =
      let more = more_rows table bytes trace number count in
      let held = before.number in
      omega (arith, more, held, sum);
  rows = λ below. rows below (few (omega (arith, below, sum))) ∙ ap (with_rows table bytes) (before.rows (omega (arith, below, sum)));
}

-- rows past the limit are refused
pub too_many : (gathered : Gathered) (trace : TraceTables) → Gathers gathered trace → most_rows < gathered.number
    → trace_refusal trace ≡ Some (status.TooMany Rows gathered.number)
too_many gathered trace gathers above =
    let held = gathers.number in
    let passed : nat_lt most_rows (row_count trace) ≡ true = lt-ltb most_rows (row_count trace) (omega (arith, held, above)) in
    rw (passed, held) refl
