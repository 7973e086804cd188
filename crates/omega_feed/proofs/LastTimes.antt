-- The greatest time of the rows of tables that are in order of time is that of the last row of one of them.
use Rattle.std.proofs.Common.{◌≡◌, Bor, ℕ, ◌≤◌, ◌-◌, Bool, true, false, cond, List, [], ◌∷◌, ◌++◌, Some, drop, map, nat_lt, slice_get, take, refl, subst, sym, ap, ap₂, ◌∙◌, arith, take-append-drop}
use Rattle.std.specs.Prelude.{max, option_map}
use Rattle.std.specs.List.{fold, AllByRecursion as Each}
use Rattle.std.proofs.Math.Nat.{le-max_left, le-max_right, max-eq_right, max-le, max-zero, max_comm, zero-max}
use Rattle.std.specs.Slice.{IsItemAt}
use Rattle.std.proofs.lemmas.Bool.{ltb-true}
use Rattle.std.proofs.lemmas.Option.{slice_get-get_or, slice_get-map}
use Rattle.omega_laws.specs.Simulated.{greatest_time}
use Rattle.omega_model.proofs.Lists.{each_front}
use Rattle.omega_model.specs.Feed.{by_time, put_by_time, time_of}
use Rattle.omega_model.specs.Fields.{MachineFields, AttrFields, TaskFields}
use Rattle.omega_model.specs.declared.rows.Row.{Row}
use Rattle.omega_model.specs.declared.rows.Round.{Round}
use Rattle.omega_model.specs.declared.rows.Row.TheVariants.{Machine, Attr, Task}
use Rattle.omega_feed.specs.Events.{AreInOrder, Rise, merged}
use Rattle.omega_feed.specs.Rounds.{last_time, part_round, piece}
use Rattle.omega_feed.specs.declared.rounds.RoundPart.{RoundPart}
use Rattle.omega_feed.proofs.Merging.{attr_time, laid, machine_time, task_time}
use Rattle.omega_feed.proofs.Parting.{rise_back}

max_assoc : (a b c : ℕ) → max a (max b c) ≡ max (max a b) c
max_assoc a b c =
    let one : max a (max b c) ≤ max (max a b) c =
    max-le (let x = le-max_left a b in let y = le-max_left (max a b) c in omega (arith, x, y))
    (max-le (let x = le-max_right a b in let y = le-max_left (max a b) c in omega (arith, x, y)) (le-max_right (max a b) c)) in
    let other : max (max a b) c ≤ max a (max b c) =
    max-le (max-le (le-max_left a (max b c)) (let x = le-max_left b c in let y = le-max_right a (max b c) in omega (arith, x, y)))
    (let x = le-max_right b c in let y = le-max_right a (max b c) in omega (arith, x, y)) in
    omega (arith, one, other)

greatest_from : (start : ℕ) (rows : List Row) → fold (λ time row. max time (time_of row)) start rows ≡ max start (greatest_time rows)
greatest_from start [] = sym (max-zero start)
greatest_from start (row ∷ rows) =
    greatest_from (max start (time_of row)) rows
    ∙ sym (max_assoc start (time_of row) (greatest_time rows))
    ∙ ap (max start) (sym (greatest_from (max 0 (time_of row)) rows ∙ ap (λ time. max time (greatest_time rows)) (zero-max (time_of row))))

greatest_more : (row : Row) (rows : List Row) → greatest_time (row ∷ rows) ≡ max (time_of row) (greatest_time rows)
greatest_more row rows = greatest_from (max 0 (time_of row)) rows ∙ ap (λ time. max time (greatest_time rows)) (zero-max (time_of row))

greatest_append : (some others : List Row) → greatest_time (some ++ others) ≡ max (greatest_time some) (greatest_time others)
greatest_append [] others = sym (zero-max (greatest_time others))
greatest_append (row ∷ some) others =
    greatest_more row (some ++ others)
    ∙ ap (max (time_of row)) (greatest_append some others)
    ∙ max_assoc (time_of row) (greatest_time some) (greatest_time others)
    ∙ ap (λ time. max time (greatest_time others)) (sym (greatest_more row some))

greatest_put : (row : Row) (rows : List Row) → greatest_time (put_by_time row rows) ≡ greatest_time (row ∷ rows)
greatest_put row [] = refl
greatest_put row (other ∷ rows) = by_cases (nat_lt (time_of other) (time_of row)) (greatest_put row rows) where
  by_cases : (b : Bool) → greatest_time (put_by_time row rows) ≡ greatest_time (row ∷ rows)
      → greatest_time (cond b (other ∷ put_by_time row rows) (row ∷ other ∷ rows)) ≡ greatest_time (row ∷ other ∷ rows)
  by_cases true same =
      greatest_more other (put_by_time row rows)
      ∙ ap (max (time_of other)) (same ∙ greatest_more row rows)
      ∙ max_assoc (time_of other) (time_of row) (greatest_time rows)
      ∙ ap (λ time. max time (greatest_time rows)) (max_comm (time_of other) (time_of row))
      ∙ sym (max_assoc (time_of row) (time_of other) (greatest_time rows))
      ∙ ap (max (time_of row)) (sym (greatest_more other rows))
      ∙ sym (greatest_more row (other ∷ rows))
  by_cases false same = refl

greatest_by_time : (rows : List Row) → greatest_time (by_time rows) ≡ greatest_time rows
greatest_by_time [] = refl
greatest_by_time (row ∷ rows) =
    greatest_put row (by_time rows)
    ∙ greatest_more row (by_time rows)
    ∙ ap (max (time_of row)) (greatest_by_time rows)
    ∙ sym (greatest_more row rows)

-- the greatest time of items in order of time is the last one
greatest_last : {X : Type 0} (row_of : X → Row) (items : List X) → Rise (λ item. time_of (row_of item)) items
    → greatest_time (map row_of items) ≡ last_time (λ item. time_of (row_of item)) items
greatest_last {X} row_of items rise = from 0 items (each_low items) rise where
  each_low : (items : List X) → Each (λ item. 0 ≤ time_of (row_of item)) items
  each_low [] = tt
  each_low (item ∷ items) = (omega arith, each_low items)

  from : (start : ℕ) (items : List X) → Each (λ item. start ≤ time_of (row_of item)) items → Rise (λ item. time_of (row_of item)) items
      → fold (λ time row. max time (time_of row)) start (map row_of items) ≡ fold (λ last item. time_of (row_of item)) start items
  from start [] low rise = refl
  from start (item ∷ items) low rise =
      ap (λ now. fold (λ time row. max time (time_of row)) now (map row_of items)) (max-eq_right low.0)
      ∙ from (time_of (row_of item)) items rise.0 rise.1

-- the greatest time of the rows of three tables in order of time is that of the last row of one of them
pub greatest_merged : (ms : List MachineFields) (bs : List AttrFields) (ts : List TaskFields) → AreInOrder ms bs ts
    → max (max (last_time machine_time ms) (last_time attr_time bs)) (last_time task_time ts) ≡ greatest_time (merged ms bs ts)
greatest_merged ms bs ts order =
    let machines = greatest_last (λ row. Machine row) ms order.machines_rise in
    let attrs = greatest_last (λ row. Attr row) bs order.attrs_rise in
    let tasks = greatest_last (λ row. Task row) ts order.tasks_rise in
    sym (greatest_by_time (laid ms bs ts)
    ∙ greatest_append (map (λ row. Machine row) ms ++ map (λ row. Attr row) bs) (map (λ row. Task row) ts)
    ∙ ap₂ max (greatest_append (map (λ row. Machine row) ms) (map (λ row. Attr row) bs) ∙ ap₂ max machines attrs) tasks)

rise_front : {X : Type 0} (time : X → ℕ) (items later : List X) → Rise time (items ++ later) → Rise time items
rise_front time [] later rise = tt
rise_front time (item ∷ items) later rise = (each_front _ items later rise.0, rise_front time items later rise.1)

rise_piece : {X : Type 0} (time : X → ℕ) (items : List X) (from to : ℕ) → Rise time items → Rise time (piece items from to)
rise_piece time items from to rise =
    let behind = rise_back time (take from items) (drop from items) (subst (Rise time) (sym (take-append-drop from items)) rise) in
    rise_front time (piece items from to) (drop (to - from) (drop from items)) (subst (Rise time) (sym (take-append-drop (to - from) (drop from items))) behind)

-- the greatest time of the round that a part is, where the part is looked up
pub part_read : (ms : List MachineFields) (bs : List AttrFields) (ts : List TaskFields) (parts : List RoundPart) (rounds : List Round) (place : ℕ) (part : Bor RoundPart)
    → IsItemAt parts place (Some part) → map (part_round ms bs ts) parts ≡ rounds
    → option_map (λ (round : Round). greatest_time round.rows) (slice_get rounds place) ≡ Some (greatest_time (part_round ms bs ts part.now).rows)
part_read ms bs ts parts rounds place part at are =
    let here : slice_get parts place ≡ Some part.now = slice_get-get_or parts place part.now (ltb-true _ _ (sym at.0)) ∙ ap Some (sym at.1) in
    ap (option_map (λ (round : Round). greatest_time round.rows))
    (ap (λ (some : List Round). slice_get some place) (sym are)
    ∙ slice_get-map (part_round ms bs ts) parts place
    ∙ ap (option_map (part_round ms bs ts)) here)

-- pieces of tables in order of time are in order of time
pub pieces_in_order : (ms : List MachineFields) (bs : List AttrFields) (ts : List TaskFields) (from_m to_m from_b to_b from_t to_t : ℕ) → AreInOrder ms bs ts
    → AreInOrder (piece ms from_m to_m) (piece bs from_b to_b) (piece ts from_t to_t)
pieces_in_order ms bs ts from_m to_m from_b to_b from_t to_t order = record {
  machines_rise = rise_piece machine_time ms from_m to_m order.machines_rise;
  attrs_rise = rise_piece attr_time bs from_b to_b order.attrs_rise;
  tasks_rise = rise_piece task_time ts from_t to_t order.tasks_rise;
}
