-- All parts of a board lead from the empty board to an equal one.
use Rattle.std.proofs.Common.{◌≡◌, ℕ, ◌+◌, Bool, true, false, List, [], ◌∷◌, ◌++◌, length, map, slice_get, Option, Some, None, is_some, ◌≤◌, IsTrue, refl, sym, ap, ap₂, ◌∙◌, subst, append_assoc, length-append, ◌==◌}
use Rattle.std.specs.List.{filter, enumerate_from, range_with_len, AllByRecursion as Each}
use Rattle.std.specs.Option.{option_map, option_map_or}
use Rattle.std.proofs.lemmas.Bool.{both_ways, eqb-true, eq-eqb, or_left, or_right}
use Rattle.std.proofs.lemmas.List.{length-map}
use Rattle.std.proofs.lemmas.Option.{same_Some}
use Rattle.omega_model.specs.Cell.{is_on, machine_at}
use Rattle.omega_model.specs.Fields.{greatest}
use Rattle.omega_model.specs.Judge.{is_up}
use Rattle.omega_model.specs.Limits.{most_machines}
use Rattle.omega_model.specs.Machines.{is_listed}
use Rattle.omega_model.specs.Need.{Fits}
use Rattle.omega_model.specs.declared.cells.Machine.{Machine}
use Rattle.omega_model.specs.declared.cells.Task.{Task}
use Rattle.omega_model.specs.declared.delta.Part.{Part}
use Rattle.omega_machines.specs.declared.MachineState.{MachineState}
use Rattle.omega_machines.specs.Table.{IsBounded, machines_of, seq_at, state_at}
use Rattle.omega_machines.proofs.Laws.{listed_state, machine_of_state}
use Rattle.omega_board.specs.Board.{BoardState, IsBoard, cell_of, is_on_up}
use Rattle.omega_board.specs.Parts.{ChangedAlone, LeadTo, bare, part_at, part_in, whole}
use Rattle.omega_board.proofs.Sounds.{sound_board}
use Rattle.omega_model.proofs.Lists.{by_answer, all_of_each, each_map, each_of_all, filter_every, filter_none}

-- a machine behind others stands at the place of their number
pub there_behind : (front : List Machine) (row : Machine) (rest : List Machine) → slice_get (front ++ row ∷ rest) (length front) ≡ Some row
there_behind [] row rest = refl
there_behind (m ∷ front) row rest = there_behind front row rest

-- the parts of a board are those of its machines, each at its place
parts_from : (board : BoardState) (front rows : List Machine) (n : ℕ) → machines_of board.table ≡ front ++ rows → length front ≡ n
    → map (part_at board) (range_with_len n (length rows)) ≡ map Some (map (part_in (cell_of board) (seq_at board.table)) (enumerate_from n rows))
parts_from board front [] n parted long = refl
parts_from board front (row ∷ rows) n parted long =
    let at : slice_get (machines_of board.table) n ≡ Some row = ap (λ ms. slice_get ms n) parted ∙ ap (slice_get (front ++ row ∷ rows)) (sym long) ∙ there_behind front row rows in
    let part : part_at board n ≡ Some (part_in (cell_of board) (seq_at board.table) (n, row)) = ap (option_map (λ (r : Machine). part_in (cell_of board) (seq_at board.table) (n, r))) at in
    ap₂ (λ (p : Option Part) ps. p ∷ ps) part
    (parts_from board (front ++ row ∷ []) rows (n + 1) (parted ∙ sym (append_assoc front (row ∷ []) rows)) (length-append front (row ∷ []) ∙ ap (λ k. k + 1) long))

-- lists of which all items are there are equal where these are
pub same_items : (xs ys : List Part) → map Some xs ≡ map Some ys → xs ≡ ys
same_items [] [] e = refl
same_items [] (y ∷ ys) e = absurd (cc)
same_items (x ∷ xs) [] e = absurd (cc)
same_items (x ∷ xs) (y ∷ ys) e =
    let first : Some x ≡ Some y = cc in
    let rest : map Some xs ≡ map Some ys = cc in
    ap₂ (λ (p : Part) ps. p ∷ ps) (same_Some x y first) (same_items xs ys rest)

-- each machine of a list is listed there
listed_behind : (front rows : List Machine) → Each (λ row. is_listed row.id (front ++ rows) ≡ true) rows
listed_behind front [] = tt
listed_behind front (row ∷ rows) =
    (among front, subst (λ ms. Each (λ r. is_listed r.id ms ≡ true) rows) (append_assoc front (row ∷ []) rows) (listed_behind (front ++ row ∷ []) rows))
  where
    among : (others : List Machine) → is_listed row.id (others ++ row ∷ rows) ≡ true
    among [] = or_left (row.id == row.id) (is_listed row.id rows) (eq-eqb _ _ refl)
    among (other ∷ others) = or_right (other.id == row.id) (is_listed row.id (others ++ row ∷ rows)) (among others)

-- so with its place
listed_placed : (machines rows : List Machine) (n : ℕ) → Each (λ row. is_listed row.id machines ≡ true) rows
    → Each (λ (place, row). is_listed row.id machines ≡ true) (enumerate_from n rows)
listed_placed machines [] n all = tt
listed_placed machines (row ∷ rows) n all = (all.0, listed_placed machines rows (n + 1) all.1)

-- machines that are all new
all_new : (changed : ℕ → Bool) (rows : List Machine) → Each (λ row. changed row.id ≡ true) rows → ChangedAlone changed [] rows
all_new changed [] all = tt
all_new changed (row ∷ rows) all = (all.0, all_new changed rows all.1)

module _ (board : BoardState) (kept : IsBoard board.table board.tasks) where
  each_listed : Each (λ row. is_listed row.id (machines_of board.table) ≡ true) (machines_of board.table)
  each_listed = listed_behind [] (machines_of board.table)

  no_task : (id : ℕ) → is_listed id (machines_of board.table) ≡ false → filter (is_on id) board.tasks ≡ []
  no_task id absent =
      filter_none (is_on id) board.tasks
      (each_map (λ task. IsTrue (is_on_up (machines_of board.table) task)) (λ task. is_on id task ≡ false) elsewhere board.tasks kept.placed)
    where
      no_state : state_at board.table id ≡ None
      no_state = by (state_at board.table id) (sym (listed_state board.table id) ∙ absent)
        where
          by : (o : Option MachineState) → is_some o ≡ false → o ≡ None
          by None e = refl
          by (Some s) e = absurd (both_ways _ e refl)

      elsewhere : (task : Task) → IsTrue (is_on_up (machines_of board.table) task) → is_on id task ≡ false
      elsewhere task up =
          by_answer (is_on id task)
          (λ here.
          let none : machine_at (machines_of board.table) id ≡ None = machine_of_state board.table id ∙ ap (option_map (λ (s : MachineState). s.machine)) no_state in
          let down : is_on_up (machines_of board.table) task ≡ false = ap (λ (m : ℕ). is_up (machine_at (machines_of board.table) m)) (eqb-true _ _ here) ∙ ap is_up none in
          absurd (both_ways _ down up))
          (λ f. f)

  no_number : (id : ℕ) → is_listed id (machines_of board.table) ≡ false → seq_at board.table id ≡ 0
  no_number id absent = by (state_at board.table id) (sym (listed_state board.table id) ∙ absent)
    where
      by : (o : Option MachineState) → is_some o ≡ false → option_map_or (λ (s : MachineState). s.seq) o 0 ≡ 0
      by None e = refl
      by (Some s) e = absurd (both_ways _ e refl)

  -- all parts lead there from the empty board
  pub leads_whole : (parts : List Part) → map Some parts ≡ map (part_at board) (range_with_len 0 (length board.table))
      → LeadTo bare parts (whole board)
  leads_whole parts are = record {
    stands = record {
      sound = sound_board board.table board.tasks kept;
      ordered = kept.ordered;
      few = subst (λ n. n ≤ most_machines) (sym long) kept.bounded.few;
      caps = all_of_each _ _ (caps board.table (each_of_all IsBounded board.table kept.bounded.bounded));
    };
    brings = same_items parts _
        (are ∙ ap (λ n. map (part_at board) (range_with_len 0 n)) (sym long) ∙ parts_from board [] (machines_of board.table) 0 refl refl
        ∙ ap (λ rows. map Some (map (part_in (cell_of board) (seq_at board.table)) rows))
        (sym (filter_every (λ (place, row). is_listed row.id (machines_of board.table)) _ (listed_placed (machines_of board.table) (machines_of board.table) 0 each_listed))));
    listed = λ id is. is;
    rows = all_new (λ id. is_listed id (machines_of board.table)) (machines_of board.table) each_listed;
    tasks = no_task;
    seqs = no_number;
  }
    where
      long : length (machines_of board.table) ≡ length board.table
      long = length-map board.table (λ (s : MachineState). s.machine)

      caps : (table : List MachineState) → Each IsBounded table → Each (λ row. Fits row.cap greatest) (machines_of table)
      caps [] all = tt
      caps (s ∷ ss) all = (all.0.cap, caps ss all.1)
