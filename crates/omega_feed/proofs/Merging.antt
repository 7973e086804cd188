-- The rows of three tables in order of time: what stands there of each time, and of each table.
use Rattle.std.proofs.Common.{◌≡◌, ℕ, ◌≤◌, Bool, true, false, cond, List, [], ◌∷◌, ◌++◌, map, nat_lt, refl, sym, ap, ap₂, ◌∙◌}
use Rattle.std.specs.List.{filter, AllByRecursion as Each}
use Rattle.std.proofs.lemmas.List.Elements.{filter-append}
use Rattle.omega_model.proofs.Lists.{each_append}
use Rattle.omega_model.specs.Feed.{by_time, put_by_time, time_of}
use Rattle.omega_model.specs.Fields.{MachineFields, AttrFields, TaskFields}
use Rattle.omega_model.specs.declared.rows.Row.{Row}
use Rattle.omega_model.specs.declared.rows.Row.TheVariants.{Machine, Attr, Task}
use Rattle.omega_feed.specs.Events.{Rise, has_time, merged, task_rows}
use Rattle.omega_feed.proofs.Cutting.{each_of_map}
use Rattle.omega_feed.proofs.Rising.{each_put, filter_by_time, one_order, rise_by_time}

abbrev pub machine_time : MachineFields → ℕ
machine_time row = row.time

abbrev pub attr_time : AttrFields → ℕ
attr_time row = row.time

abbrev pub task_time : TaskFields → ℕ
task_time row = row.time

-- the rows of three tables, table by table
abbrev pub laid : List MachineFields → List AttrFields → List TaskFields → List Row
laid machines attrs tasks = map (λ row. Machine row) machines ++ map (λ row. Attr row) attrs ++ map (λ row. Task row) tasks

filter_of_map : {X Y : Type 0} (p : Y → Bool) (q : X → Bool) (f : X → Y) → ((x : X) → p (f x) ≡ q x) → (xs : List X) → filter p (map f xs) ≡ map f (filter q xs)
filter_of_map p q f same [] = refl
filter_of_map p q f same (x ∷ xs) = rw (same x) (by_cases (q x) (filter_of_map p q f same xs)) where
  by_cases : (b : Bool) → filter p (map f xs) ≡ map f (filter q xs)
      → cond b (f x ∷ filter p (map f xs)) (filter p (map f xs)) ≡ map f (cond b (x ∷ filter q xs) (filter q xs))
  by_cases true e = ap (λ z. f x ∷ z) e
  by_cases false e = e

filter_laid : (n : ℕ) (ms : List MachineFields) (bs : List AttrFields) (ts : List TaskFields)
    → filter (has_time time_of n) (laid ms bs ts)
    ≡ laid (filter (has_time machine_time n) ms) (filter (has_time attr_time n) bs) (filter (has_time task_time n) ts)
filter_laid n ms bs ts =
    filter-append (has_time time_of n) (map (λ row. Machine row) ms ++ map (λ row. Attr row) bs) (map (λ row. Task row) ts)
    ∙ ap₂ (λ (some others : List Row). some ++ others)
    (filter-append (has_time time_of n) (map (λ row. Machine row) ms) (map (λ row. Attr row) bs)
    ∙ ap₂ (λ (some others : List Row). some ++ others)
    (filter_of_map (has_time time_of n) (has_time machine_time n) (λ row. Machine row) (λ row. refl) ms)
    (filter_of_map (has_time time_of n) (has_time attr_time n) (λ row. Attr row) (λ row. refl) bs))
    (filter_of_map (has_time time_of n) (has_time task_time n) (λ row. Task row) (λ row. refl) ts)

-- the rows of a time are those of each table
pub filter_merged : (n : ℕ) (ms : List MachineFields) (bs : List AttrFields) (ts : List TaskFields)
    → filter (has_time time_of n) (merged ms bs ts)
    ≡ laid (filter (has_time machine_time n) ms) (filter (has_time attr_time n) bs) (filter (has_time task_time n) ts)
filter_merged n ms bs ts = filter_by_time n (laid ms bs ts) ∙ filter_laid n ms bs ts

-- tables with the same rows of each time, in the same order, have the same rows in order of time
pub merged_same : (ms ns : List MachineFields) (bs cs : List AttrFields) (ts us : List TaskFields)
    → ((row : MachineFields) → filter (has_time machine_time row.time) ms ≡ filter (has_time machine_time row.time) ns)
    → ((row : AttrFields) → filter (has_time attr_time row.time) bs ≡ filter (has_time attr_time row.time) cs)
    → ((row : TaskFields) → filter (has_time task_time row.time) ts ≡ filter (has_time task_time row.time) us)
    → merged ms bs ts ≡ merged ns cs us
merged_same ms ns bs cs ts us same_machines same_attrs same_tasks =
    one_order time_of (merged ms bs ts) (merged ns cs us) (rise_by_time (laid ms bs ts)) (rise_by_time (laid ns cs us))
    (λ row. at_time (time_of row)) where
      machine_at : ℕ → MachineFields
      machine_at n = record { time = n; machine = 0; code = 0; cap = record { cpu = 0; mem = 0; disk = 0 } }

      attr_at : ℕ → AttrFields
      attr_at n = record { time = n; machine = 0; name = []; value = []; deleted = false }

      task_at : ℕ → TaskFields
      task_at n = record {
        time = n;
        key = record { job = 0; index = 0 };
        code = 0;
        class = 0;
        spec = record { need = record { cpu = 0; mem = 0; disk = 0 }; prec = 0; differ = false };
      }

      at_time : (n : ℕ) → filter (has_time time_of n) (merged ms bs ts) ≡ filter (has_time time_of n) (merged ns cs us)
      at_time n =
          filter_merged n ms bs ts
          ∙ ap₂ (λ (some others : List Row). some ++ others)
          (ap₂ (λ (some others : List Row). some ++ others)
          (ap (map (λ row. Machine row)) (same_machines (machine_at n)))
          (ap (map (λ row. Attr row)) (same_attrs (attr_at n))))
          (ap (map (λ row. Task row)) (same_tasks (task_at n)))
          ∙ sym (filter_merged n ns cs us)

each_by_time : (P : Row → Type 0) (rows : List Row) → Each P rows → Each P (by_time rows)
each_by_time P [] e = tt
each_by_time P (row ∷ rows) e = each_put P row (by_time rows) e.0 (each_by_time P rows e.1)

-- what holds of each row of three tables holds of each of them in order
pub each_merged : (P : Row → Type 0) (ms : List MachineFields) (bs : List AttrFields) (ts : List TaskFields)
    → Each (λ row. P (Machine row)) ms → Each (λ row. P (Attr row)) bs → Each (λ row. P (Task row)) ts → Each P (merged ms bs ts)
each_merged P ms bs ts e f g =
    each_by_time P (laid ms bs ts)
    (each_append P (map (λ row. Machine row) ms ++ map (λ row. Attr row) bs) (map (λ row. Task row) ts)
    (each_append P (map (λ row. Machine row) ms) (map (λ row. Attr row) bs)
    (each_of_map P (λ row. Machine row) ms e)
    (each_of_map P (λ row. Attr row) bs f))
    (each_of_map P (λ row. Task row) ts g))

some_put : (row : Row) (rows : List Row) → put_by_time row rows ≡ [] → ⊥
some_put row [] e = absurd (cc)
some_put row (other ∷ rows) e = by_cases (nat_lt (time_of other) (time_of row)) e where
  by_cases : (b : Bool) → cond b (other ∷ put_by_time row rows) (row ∷ other ∷ rows) ≡ [] → ⊥
  by_cases true f = absurd (cc)
  by_cases false f = absurd (cc)

none_laid : (ms : List MachineFields) (bs : List AttrFields) (ts : List TaskFields) → laid ms bs ts ≡ [] → (ms ≡ []) × (bs ≡ []) × (ts ≡ [])
none_laid [] [] [] e = (refl, refl, refl)
none_laid [] [] (t ∷ ts) e = absurd (cc)
none_laid [] (b ∷ bs) ts e = absurd (cc)
none_laid (m ∷ ms) bs ts e = absurd (cc)

-- where no row stands in order of time the tables have none
pub none_merged : (ms : List MachineFields) (bs : List AttrFields) (ts : List TaskFields) → merged ms bs ts ≡ [] → (ms ≡ []) × (bs ≡ []) × (ts ≡ [])
none_merged ms bs ts e = none_laid ms bs ts (nothing (laid ms bs ts) e) where
  nothing : (rows : List Row) → by_time rows ≡ [] → rows ≡ []
  nothing [] e = refl
  nothing (row ∷ rows) e = absurd (some_put row (by_time rows) e)

each_task : (n : ℕ) (rows : List Row) → Each (λ row. n ≤ time_of row) rows → Each (λ row. n ≤ task_time row) (task_rows rows)
each_task n [] e = tt
each_task n (Machine row ∷ rows) e = each_task n rows e.1
each_task n (Attr row ∷ rows) e = each_task n rows e.1
each_task n (Task row ∷ rows) e = (e.0, each_task n rows e.1)

rise_task : (rows : List Row) → Rise time_of rows → Rise task_time (task_rows rows)
rise_task [] r = tt
rise_task (Machine row ∷ rows) r = rise_task rows r.1
rise_task (Attr row ∷ rows) r = rise_task rows r.1
rise_task (Task row ∷ rows) r = (each_task row.time rows r.0, rise_task rows r.1)

filter_task : (n : ℕ) (rows : List Row) → filter (has_time task_time n) (task_rows rows) ≡ task_rows (filter (has_time time_of n) rows)
filter_task n [] = refl
filter_task n (Machine row ∷ rows) = filter_task n rows ∙ by_cases (has_time machine_time n row) where
  by_cases : (b : Bool) → task_rows (filter (has_time time_of n) rows) ≡ task_rows (cond b (Machine row ∷ filter (has_time time_of n) rows) (filter (has_time time_of n) rows))
  by_cases true = refl
  by_cases false = refl
filter_task n (Attr row ∷ rows) = filter_task n rows ∙ by_cases (has_time attr_time n row) where
  by_cases : (b : Bool) → task_rows (filter (has_time time_of n) rows) ≡ task_rows (cond b (Attr row ∷ filter (has_time time_of n) rows) (filter (has_time time_of n) rows))
  by_cases true = refl
  by_cases false = refl
filter_task n (Task row ∷ rows) = by_cases (has_time task_time n row) (filter_task n rows) where
  by_cases : (b : Bool) → filter (has_time task_time n) (task_rows rows) ≡ task_rows (filter (has_time time_of n) rows)
      → cond b (row ∷ filter (has_time task_time n) (task_rows rows)) (filter (has_time task_time n) (task_rows rows))
      ≡ task_rows (cond b (Task row ∷ filter (has_time time_of n) rows) (filter (has_time time_of n) rows))
  by_cases true e = ap (λ z. row ∷ z) e
  by_cases false e = e

tasks_laid : (ms : List MachineFields) (bs : List AttrFields) (ts : List TaskFields) → task_rows (laid ms bs ts) ≡ ts
tasks_laid (m ∷ ms) bs ts = tasks_laid ms bs ts
tasks_laid [] (b ∷ bs) ts = tasks_laid [] bs ts
tasks_laid [] [] [] = refl
tasks_laid [] [] (t ∷ ts) = ap (λ z. t ∷ z) (tasks_laid [] [] ts)

-- the task rows in order of time are those of the table, where it is in order
pub merged_tasks : (ms : List MachineFields) (bs : List AttrFields) (ts : List TaskFields) → Rise task_time ts → task_rows (merged ms bs ts) ≡ ts
merged_tasks ms bs ts r =
    one_order task_time (task_rows (merged ms bs ts)) ts (rise_task (merged ms bs ts) (rise_by_time (laid ms bs ts))) r
    (λ row. filter_task row.time (merged ms bs ts)
    ∙ ap task_rows (filter_by_time row.time (laid ms bs ts))
    ∙ sym (filter_task row.time (laid ms bs ts))
    ∙ ap (filter (has_time task_time row.time)) (tasks_laid ms bs ts))
