-- How long lists are that are made of a trace.
use Rattle.std.proofs.Common.{◌≡◌, ℕ, ◌+◌, ◌≤◌, Bool, true, false, ◌&&◌, List, [], ◌∷◌, ◌++◌, map, length, Option, Some, None, refl, arith, length-append}
use Rattle.std.proofs.lemmas.List.{length-map}
use Rattle.std.specs.Prelude.{not, nat_lt}
use Rattle.std.specs.List.{cons_option, filter, filter_map, fold, list_any}
use Rattle.omega_model.proofs.Fewer.{filter_fewer, once_fewer}
use Rattle.omega_model.proofs.InOrder.{key_asym}
use Rattle.omega_model.proofs.Lists.{by_answer}
use Rattle.omega_model.specs.Feed.{by_time, each_once, event_rows, feed, put_by_time, round_at, round_number, rounds, time_of}
use Rattle.omega_model.specs.Fields.{TaskFields}
use Rattle.omega_model.specs.Keys.{key_lt}
use Rattle.omega_model.specs.Limits.{IsWithinLimits}
use Rattle.omega_model.specs.Requests.{job_of_row, jobs_in_order}
use Rattle.omega_model.specs.Wanted.{WantedTask, ends, is_named, submits, updates, wanted, wanted_after, wanted_after_task, with_wanted}
use Rattle.omega_model.specs.declared.cells.Spec.{Spec}
use Rattle.omega_model.specs.declared.cells.TaskKey.{TaskKey}
use Rattle.omega_model.specs.declared.rows.Row.{Row}
use Rattle.omega_model.specs.declared.rows.Row.TheVariants.{Machine, Attr, Task}
use Rattle.omega_model.specs.declared.rows.TraceTables.{TraceTables}

pub some_fewer : {X Y : Type 0} (f : X → Option Y) (xs : List X) → length (filter_map f xs) ≤ length xs
some_fewer f [] = omega arith
some_fewer f (x ∷ xs) = let rest = some_fewer f xs in by_item (f x) rest where
  by_item : (item : Option _) → length (filter_map f xs) ≤ length xs → length (cons_option item (filter_map f xs)) ≤ length (x ∷ xs)
  by_item None rest = omega arith
  by_item (Some y) rest = omega arith

-- two tests that nothing passes both keep no more than there is
apart_fewer : {X : Type 0} (one other : X → Bool) → ((x : X) → one x ≡ true → other x ≡ false) → (xs : List X)
    → length (filter one xs) + length (filter other xs) ≤ length xs
apart_fewer one other apart [] = omega arith
apart_fewer one other apart (x ∷ xs) =
    let rest = apart_fewer one other apart xs in
    by_answer (one x)
    (λ t. let no = apart x t in rw (t, no) (omega arith))
    (λ f. by_answer (other x) (λ t. rw (f, t) (omega arith)) (λ g. rw (f, g) (omega arith)))

-- ---- the feed

put_longer : (row : Row) (rows : List Row) → length (put_by_time row rows) ≡ length rows + 1
put_longer row [] = omega arith
put_longer row (other ∷ rows) =
    let rest = put_longer row rows in
    by_answer (nat_lt (time_of other) (time_of row)) (λ t. rw t (omega arith)) (λ f. rw f (omega arith))

in_order_long : (rows : List Row) → length (by_time rows) ≡ length rows
in_order_long [] = refl
in_order_long (row ∷ rows) =
    let rest = in_order_long rows in let more = put_longer row (by_time rows) in omega arith

module _ (trace : TraceTables) where
  pub feed_few : IsWithinLimits trace → length (feed trace) ≤ 2000000
  feed_few within =
      let machines = map (λ row. Machine row) trace.machines in
      let attrs = map (λ row. Attr row) trace.attrs in
      let tasks = map (λ row. Task row) trace.tasks in
      let all = in_order_long (event_rows trace) in
      let front = length-append machines attrs in
      let whole = length-append (machines ++ attrs) tasks in
      let one = length-map trace.machines (λ row. Machine row) in
      let two = length-map trace.attrs (λ row. Attr row) in
      let three = length-map trace.tasks (λ row. Task row) in
      let few = within.rows in
      omega arith

  pub jobs_few : length (jobs_in_order (feed trace)) ≤ length (feed trace)
  jobs_few =
      let once = once_fewer (filter_map job_of_row (feed trace)) in
      let some = some_fewer job_of_row (feed trace) in
      omega arith

  pub rounds_few : (window : ℕ) → length (rounds trace window) ≤ length (feed trace)
  rounds_few window =
      let numbers : List ℕ = map (round_number window) (feed trace) in
      let all = length-map (each_once numbers) (round_at window (feed trace)) in
      let once = once_fewer numbers in
      let each = length-map (feed trace) (round_number window) in
      omega arith

-- ---- what is wanted

with_longer : (key : TaskKey) (spec : Spec) (asked : List WantedTask) → length (with_wanted key spec asked) ≤ length asked + 1
with_longer key spec asked =
    let lower : List WantedTask = filter (λ other. key_lt other.key key) asked in
    let higher : List WantedTask = filter (λ other. key_lt key other.key) asked in
    let all = length-append lower (record { key = key; spec = spec } ∷ higher) in
    let both = apart_fewer (λ (other : WantedTask). key_lt other.key key) (λ (other : WantedTask). key_lt key other.key) (λ other less. key_asym other.key key less) asked in
    omega arith

task_longer : (asked : List WantedTask) (row : TaskFields) → length (wanted_after_task asked row) ≤ length asked + 1
task_longer asked row =
    by_answer (submits row.code)
    (λ t. rw t (with_longer row.key row.spec asked))
    (λ f. by_answer (ends row.code)
    (λ t. let fewer = filter_fewer (λ task. not (is_named row.key task)) asked in rw (f, t) (omega arith))
    (λ g. by_answer (updates row.code && list_any (is_named row.key) asked)
    (λ t. rw (f, g, t) (with_longer row.key row.spec asked))
    (λ h. rw (f, g, h) (omega arith))))

row_longer : (asked : List WantedTask) (row : Row) → length (wanted_after asked row) ≤ length asked + 1
row_longer asked (Machine row) = omega arith
row_longer asked (Attr row) = omega arith
row_longer asked (Task row) = task_longer asked row

rows_longer : (asked : List WantedTask) (rows : List Row) → length (fold wanted_after asked rows) ≤ length asked + length rows
rows_longer asked [] = omega arith
rows_longer asked (row ∷ rows) =
    let one = row_longer asked row in let rest = rows_longer (wanted_after asked row) rows in omega arith

pub wanted_few : (rows : List Row) → length (wanted rows) ≤ length rows
wanted_few rows = let all = rows_longer [] rows in omega arith
