-- Generated rows are rows of their tables.
use Rattle.std.proofs.Common.{◌≡◌, ℕ, ◌+◌, ◌*◌, ◌<◌, ◌≤◌, ◌^◌, List, [], ◌∷◌, ◌++◌, length, Ok, codes, decimal, refl, sym, ap, ◌∙◌, arith, ◌==◌, false}
use Rattle.std.specs.List.{flat_map, join_with_byte, range_with_len}
use Rattle.std.proofs.lemmas.Bool.{ne_eqb}
use Rattle.std.proofs.lemmas.Fmt.{length-decimal-le}
use Rattle.csv.specs.Reading.{strip_bom}
use Rattle.omega_model.specs.Columns.{amount_down, amount_up, blank_or_bounded, bounded, machine_row, task_row}
use Rattle.omega_model.specs.Fields.{MachineFields, TaskFields}
use Rattle.omega_model.specs.Generated.{MadeJob, capacity_text, job_at, job_text, machine_text, made_job, row_text, submit_time, task_text, tasks_text, thousandths}
use Rattle.omega_model.specs.Numbers.{ten_to}
use Rattle.omega_gen.proofs.NumberTexts.{BeginsWithDigit, blank_or_decimal, bounded_decimal, first_digit, thousandths_read}
use Rattle.omega_gen.proofs.PlainRows.{IsPlain, capacity_is, plain_decimal, plain_row, plain_thousandths}
use Rattle.omega_gen.proofs.RowTexts.{AreRows, IsRow, both_rows, more_rows, one_row, range_rows, row_length}

-- a text that begins with a digit begins with no byte order mark
no_mark : (digit : ℕ) (others : List ℕ) → digit < 58 → strip_bom (digit ∷ others) ≡ digit ∷ others
unfolding strip_bom
no_mark digit [] small = refl
no_mark digit (second ∷ []) small = refl
no_mark digit (second ∷ third ∷ others) small =
    let other : (digit == 0xEF) ≡ false = ne_eqb digit 0xEF (λ e. omega arith) in
    rw other refl

-- nor does a row whose first field begins with a digit
row_unmarked : (field next : List ℕ) (others : List (List ℕ)) → BeginsWithDigit field → (tail : List ℕ)
    → strip_bom (row_text (field ∷ next ∷ others) ++ tail) ≡ row_text (field ∷ next ∷ others) ++ tail
row_unmarked field next others begins tail =
    let later = join_with_byte 44 (next ∷ others) in
    let rest = ((begins.others ++ 44 ∷ later) ++ 10 ∷ []) ++ tail in
    let whole : row_text (field ∷ next ∷ others) ++ tail ≡ begins.digit ∷ rest =
    ap (λ front. ((front ++ 44 ∷ later) ++ 10 ∷ []) ++ tail) begins.is in
    ap strip_bom whole ∙ no_mark begins.digit rest begins.small ∙ sym whole

-- the fields of a machine's row
abbrev machine_fields : (ℕ → ℕ) → ℕ → List (List ℕ)
machine_fields word place =
    codes "0" ∷ decimal (place + 1) ∷ codes "0" ∷ codes "g" ∷ capacity_text (word place) ∷ capacity_text (word place) ∷ []

machine_typed : (id capacity : List ℕ) (number amount : ℕ) → bounded 18446744073709551615 id ≡ Ok number → amount_down capacity ≡ Ok amount
    → (row : MachineFields) × (machine_row (codes "0" ∷ id ∷ codes "0" ∷ codes "g" ∷ capacity ∷ capacity ∷ []) ≡ Ok row)
machine_typed id capacity number amount known read =
    (record { time = 0; machine = number; code = 0; cap = record { cpu = amount; mem = amount; disk = 0 } }, rw (known, read) refl)

capacity_read : (word : ℕ) → (amount : ℕ) × (amount_down (capacity_text word) ≡ Ok amount)
unfolding ten_to
capacity_read word =
    capacity_is (λ text. (amount : ℕ) × (amount_down text ≡ Ok amount)) word (500000000, refl) (750000000, refl) (1000000000, refl)

short_capacity : (word : ℕ) → length (capacity_text word) ≤ 4
short_capacity word = capacity_is (λ text. length text ≤ 4) word (omega arith) (omega arith) (omega arith)

machine_is_row : (word : ℕ → ℕ) (place : ℕ) → place < 4096 → IsRow machine_row (machine_fields word place)
machine_is_row word place below =
    let capacity = capacity_text (word place) in
    let number : place + 1 < 2 ^ 64 = omega arith in
    let plain = capacity_is IsPlain (word place) refl refl refl in
    let read = capacity_read (word place) in
    record {
      reads = plain_row (codes "0") (decimal (place + 1)) (codes "0" ∷ codes "g" ∷ capacity ∷ capacity ∷ [])
          (refl, (plain_decimal (place + 1) number, (refl, (refl, (plain, (plain, tt))))));
      unmarked = λ tail. no_mark 48 _ (omega arith);
      short =
          let id : length (decimal (place + 1)) ≤ 20 = length-decimal-le 20 (place + 1) (omega arith) (omega arith) number in
          let cap = short_capacity (word place) in
          let row = row_length (codes "0") (decimal (place + 1) ∷ codes "0" ∷ codes "g" ∷ capacity ∷ capacity ∷ []) in
          omega (arith, id, cap, row);
      typed = machine_typed (decimal (place + 1)) capacity (place + 1) read.0
          (bounded_decimal 18446744073709551615 (place + 1) (omega arith) number) read.1;
    }

-- the rows of machines
pub machines_are_rows : (word : ℕ → ℕ) (machines : ℕ) → machines ≤ 4096
    → AreRows machine_row (flat_map (machine_text word) (range_with_len 0 machines)) (machines * 1)
machines_are_rows word machines few =
    range_rows machine_row (machine_text word) 1 0 machines
    (λ place from below. one_row machine_row (machine_fields word place) (machine_is_row word place (omega arith)))

-- a generated job keeps these ranges
record IsSmall (job : MadeJob) : Type 0 where
  pub tasks : job.tasks ≤ 8
  pub class : job.class ≤ 3
  pub priority : job.priority ≤ 255
  pub cpu : job.cpu ≤ 50
  pub mem : job.mem ≤ 50
  pub life : job.life ≤ 20

made_small : (word : ℕ → ℕ) (first : ℕ) → IsSmall (made_job word first)
made_small word first = record {
  tasks = omega arith;
  class = omega arith;
  priority = omega arith;
  cpu = omega arith;
  mem = omega arith;
  life = omega arith;
}

-- the fields of a task's row
abbrev task_fields : MadeJob → ℕ → ℕ → ℕ → ℕ → List (List ℕ)
task_fields job number time code index =
    decimal time ∷ [] ∷ decimal number ∷ decimal index ∷ [] ∷ decimal code ∷ codes "g"
    ∷ decimal job.class ∷ decimal job.priority
    ∷ thousandths job.cpu ∷ thousandths job.mem ∷ [] ∷ codes "0" ∷ []

task_typed : (time number index code class priority amount memory : List ℕ) (t n i e k p c m : ℕ)
    → bounded 9223372036854775807 time ≡ Ok t → bounded 18446744073709551615 number ≡ Ok n → bounded 2147483647 index ≡ Ok i
    → bounded 8 code ≡ Ok e → blank_or_bounded 3 class ≡ Ok k → blank_or_bounded 255 priority ≡ Ok p
    → amount_up amount ≡ Ok c → amount_up memory ≡ Ok m
    → (row : TaskFields)
    × (task_row (time ∷ [] ∷ number ∷ index ∷ [] ∷ code ∷ codes "g" ∷ class ∷ priority ∷ amount ∷ memory ∷ [] ∷ codes "0" ∷ []) ≡ Ok row)
unfolding ten_to
task_typed time number index code class priority amount memory t n i e k p c m at job place event kind rank cpu mem = (
  record {
    time = t;
    key = record { job = n; index = i };
    code = e;
    class = k;
    spec = record { need = record { cpu = c; mem = m; disk = 0 }; prec = p; differ = false };
  },
  rw (at, job, place, event, kind, rank, cpu, mem) refl,
)

digits_20 : (number : ℕ) → number < 2 ^ 64 → length (decimal number) ≤ 20
digits_20 number small = length-decimal-le 20 number (omega arith) (omega arith) small

task_is_row : (job : MadeJob) (number time code index : ℕ) → IsSmall job → number ≤ 20000 → time < 2 ^ 63 → code ≤ 8 → index < 8
    → IsRow task_row (task_fields job number time code index)
task_is_row job number time code index small few early event low =
    let at : time < 2 ^ 64 = omega arith in
    let work : number < 2 ^ 64 = omega arith in
    let place : index < 2 ^ 64 = omega arith in
    let kind : code < 2 ^ 64 = omega arith in
    let class_below = small.class in
    let class : job.class < 2 ^ 64 = omega arith in
    let priority_below = small.priority in
    let priority : job.priority < 2 ^ 64 = omega arith in
    let cpu_below = small.cpu in
    let mem_below = small.mem in
    let amount = thousandths_read job.cpu cpu_below in
    let memory = thousandths_read job.mem mem_below in
    let others =
    decimal number ∷ decimal index ∷ [] ∷ decimal code ∷ codes "g" ∷ decimal job.class ∷ decimal job.priority
    ∷ thousandths job.cpu ∷ thousandths job.mem ∷ [] ∷ codes "0" ∷ [] in
    record {
      reads = plain_row (decimal time) [] others (
        plain_decimal time at,
        (
          refl,
          (
            plain_decimal number work,
            (
              plain_decimal index place,
              (
                refl,
                (
                  plain_decimal code kind,
                  (
                    refl,
                    (
                      plain_decimal job.class class,
                      (
                        plain_decimal job.priority priority,
                        (plain_thousandths job.cpu (omega arith), (plain_thousandths job.mem (omega arith), (refl, (refl, tt)))),
                      ),
                    ),
                  ),
                ),
              ),
            ),
          ),
        ),
      );
      unmarked = row_unmarked (decimal time) [] others (first_digit time at);
      short =
          let row = row_length (decimal time) ([] ∷ others) in
          omega (arith, row, digits_20 time at, digits_20 number work, digits_20 index place, digits_20 code kind, digits_20 job.class class, digits_20 job.priority priority);
      typed = task_typed (decimal time) (decimal number) (decimal index) (decimal code) (decimal job.class) (decimal job.priority)
          (thousandths job.cpu) (thousandths job.mem) time number index code job.class job.priority amount.0 memory.0
          (bounded_decimal 9223372036854775807 time (omega arith) at)
          (bounded_decimal 18446744073709551615 number (omega arith) work)
          (bounded_decimal 2147483647 index (omega arith) place)
          (bounded_decimal 8 code event kind)
          (blank_or_decimal 3 job.class class_below class)
          (blank_or_decimal 255 job.priority priority_below priority)
          amount.1 memory.1;
    }

tasks_are_rows : (job : MadeJob) (number time code : ℕ) → IsSmall job → number ≤ 20000 → time < 2 ^ 63 → code ≤ 8
    → AreRows task_row (tasks_text job number time code) 8
tasks_are_rows job number time code small few early event =
    let tasks = small.tasks in
    more_rows task_row (tasks_text job number time code) (job.tasks * 1) 8 (omega arith)
    (range_rows task_row (task_text job number time code) 1 0 job.tasks
    (λ index from below.
    one_row task_row (task_fields job number time code index)
    (task_is_row job number time code index small few early event (omega arith))))

job_is_rows : (job : MadeJob) (number : ℕ) → IsSmall job → number ≤ 20000 → AreRows task_row (job_text job number) 16
job_is_rows job number small few =
    let life = small.life in
    let finished = submit_time number + 300000000 * job.life in
    both_rows task_row (tasks_text job number (submit_time number) 0) (tasks_text job number finished 4) 8 8
    (tasks_are_rows job number (submit_time number) 0 small few (omega arith) (omega arith))
    (tasks_are_rows job number finished 4 small few (omega arith) (omega arith))

-- the rows of jobs
pub jobs_are_rows : (word : ℕ → ℕ) (first jobs : ℕ) → jobs ≤ 20000
    → AreRows task_row (flat_map (job_at word first) (range_with_len 0 jobs)) (jobs * 16)
jobs_are_rows word first jobs few =
    range_rows task_row (job_at word first) 16 0 jobs
    (λ place from below.
    job_is_rows (made_job word (first + 6 * place)) (place + 1) (made_small word (first + 6 * place)) (omega arith))
