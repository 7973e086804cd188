-- A delta that carries a history leads a copy of it from the one place to the other.
use Rattle.std.proofs.Common.{◌≡◌, ℕ, suc, ◌+◌, ◌≤◌, Bool, true, List, [], ◌∷◌, ◌++◌, length, map, take, drop, Option, refl, sym, ap, ◌∙◌, subst, arith}
use Rattle.std.specs.List.{filter, fold, list_any}
use Rattle.std.proofs.lemmas.Bool.{both_ways, false_from_ne_true}
use Rattle.std.proofs.lemmas.List.{length-map, take-append-drop, take-take}
use Rattle.std.proofs.lemmas.List.Sums.{fold-append}
use Rattle.omega_model.specs.Applying.{EachMayApply}
use Rattle.omega_model.specs.Cell.{Cell, empty_cell, is_on}
use Rattle.omega_model.specs.Copy.{StandsFor, Carries}
use Rattle.omega_model.specs.Machines.{is_listed, numbers_of}
use Rattle.omega_model.specs.Parts.{DeltaState}
use Rattle.omega_model.specs.State.{state, step}
use Rattle.omega_model.specs.Touches.{touches, seq}
use Rattle.omega_model.specs.declared.cells.Machine.{Machine}
use Rattle.omega_model.specs.declared.cells.Need.{Need}
use Rattle.omega_model.specs.declared.delta.Part.{Part}
use Rattle.omega_model.specs.declared.entries.Entry.{Entry}
use Rattle.omega_model.proofs.Lists.{by_answer, all_of_each}
use Rattle.omega_machines.specs.Table.{machines_of, seq_at}
use Rattle.omega_board.specs.Board.{BoardState, cell_of}
use Rattle.omega_board.specs.Numbers.{is_among}
use Rattle.omega_board.specs.Parts.{Target, LeadTo, IsAt, ChangedAlone}
use Rattle.omega_board.proofs.Rewritten.{listed_still, parts_from}
use Rattle.omega_plan.specs.Indexes.{MayTell, TellAll}
use Rattle.omega_plan.specs.Levels.{GoesTo}
use Rattle.omega_plan.specs.Telling.{freed_of, freed_on}
use Rattle.omega_plan.specs.declared.indexes.Indexes.{Indexes}
use Rattle.omega_plan.proofs.Applied.{MayAll, may_all, may_front, may_back, applied_sound, applied_held}
use Rattle.omega_plan.proofs.Changing.{alone_more, went_all, seq_still}

-- where a history is at a place, and what its entries since another changed
abbrev pub target_of : List Entry → ℕ → ℕ → Target
target_of history from to = record {
  cell = state (take to history);
  seqs = seq (take to history);
  changed = λ id. list_any (touches id) (drop from (take to history));
}

module _ (history : List Entry) (from to : ℕ) (order : from ≤ to) (applied : EachMayApply history) where
  -- the entries up to the later place are those up to the earlier one and those between
  parted : take to history ≡ take from history ++ drop from (take to history)
  parted = sym (take-append-drop from (take to history)) ∙ ap (λ es. es ++ drop from (take to history)) (take-take from to history order)

  may_whole : MayAll empty_cell (take to history)
  may_whole = may_front empty_cell (take to history) (drop to history) (subst (MayAll empty_cell) (sym (take-append-drop to history)) (may_all [] history applied))

  may_parts : MayAll empty_cell (take from history ++ drop from (take to history))
  may_parts = subst (MayAll empty_cell) parted may_whole

  reached_state : fold step (state (take from history)) (drop from (take to history)) ≡ state (take to history)
  reached_state = sym (ap state parted ∙ fold-append step empty_cell (take from history) (drop from (take to history)))

  -- parts that carry it lead a board at the earlier place to the later one
  pub leads : (board : BoardState) (delta : DeltaState) → StandsFor (cell_of board) (seq_at board.table) from history → Carries delta history from to → LeadTo board delta.parts (target_of history from to)
  leads board delta stands carries =
      let went = went_all (take from history) (drop from (take to history)) (may_front empty_cell (take from history) (drop from (take to history)) may_parts)
      (may_back empty_cell (take from history) (drop from (take to history)) may_parts) in
      let held = applied_held (take to history) may_whole in
      let changed : ℕ → Bool = λ id. list_any (touches id) (drop from (take to history)) in
      record {
        stands = record {
          sound = applied_sound (take to history) may_whole;
          ordered = held.ordered;
          few = held.few;
          caps = all_of_each _ (state (take to history)).machines held.caps;
        };
        brings = carries.parts;
        listed = λ id touched. ap (λ (c : Cell). is_listed id c.machines) (sym reached_state) ∙ went.listed id touched;
        rows = subst (λ ms. ChangedAlone changed ms (state (take to history)).machines) (sym stands.machines)
            (subst (λ (c : Cell). ChangedAlone changed (state (take from history)).machines c.machines) reached_state went.rows);
        tasks = λ id away.
            ap (λ (c : Cell). filter (is_on id) c.tasks) (sym reached_state) ∙ went.tasks id away ∙ ap (filter (is_on id)) (sym stands.tasks);
        seqs = λ id away.
            ap (λ h. seq h id) parted ∙ seq_still (take from history) (drop from (take to history)) id away ∙ sym (stands.numbers id);
      }

-- a board that is there stands for the history
pub stands_at : (board : BoardState) (history : List Entry) (from to : ℕ) → to ≤ length history → IsAt (target_of history from to) board → StandsFor (cell_of board) (seq_at board.table) to history
stands_at board history from to within at = record {
  within = within;
  machines = ap (λ (c : Cell). c.machines) at.cell;
  tasks = ap (λ (c : Cell). c.tasks) at.cell;
  numbers = at.seqs;
}

-- as many machines are new as changed, at most
room_rows : (changed : ℕ → Bool) (before after : List Machine) → ChangedAlone changed before after → length after ≤ length before + length (filter (λ row. changed row.id) after)
room_rows changed [] [] alone = omega arith
room_rows changed [] (n ∷ ns) alone =
    let rest = room_rows changed [] ns alone.1 in
    let kept : length (filter (λ row. changed row.id) (n ∷ ns)) ≡ suc (length (filter (λ row. changed row.id) ns)) = rw alone.0 refl in
    omega (arith, rest, kept)
room_rows changed (m ∷ ms) [] alone = absurd alone
room_rows changed (m ∷ ms) (n ∷ ns) alone =
    let rest = room_rows changed ms ns alone.1 in
    let more : length (filter (λ row. changed row.id) ns) ≤ length (filter (λ row. changed row.id) (n ∷ ns)) =
    by_answer (changed n.id) (λ t. rw t (omega arith)) (λ f. rw f (omega arith)) in
    omega (arith, rest, more)

-- the parts are as many as the machines that changed, and have their numbers
parts_numbers : (changed : ℕ → Bool) (cell : Cell) (seqs : ℕ → ℕ) (n : ℕ) (rows : List Machine) → map (λ (part : Part). part.machine.id) (parts_from changed cell seqs n rows) ≡ numbers_of (filter (λ row. changed row.id) rows)
parts_numbers changed cell seqs n [] = refl
parts_numbers changed cell seqs n (row ∷ rows) =
    let rest = parts_numbers changed cell seqs (n + 1) rows in
    by_answer (changed row.id) (λ t. rw t (ap (λ ns. row.id ∷ ns) rest)) (λ f. rw f rest)

numbers_in : (id : ℕ) (rows : List Machine) → is_among (numbers_of rows) id ≡ is_listed id rows
numbers_in id [] = refl
numbers_in id (row ∷ rows) = rw (numbers_in id rows) refl

module _ (board after : BoardState) (parts : List Part) (target : Target) (leads_there : LeadTo board parts target) (at : IsAt target after) where
  abbrev changed_rows : List Machine
  changed_rows = filter (λ row. target.changed row.id) target.cell.machines

  numbers : map (λ (part : Part). part.machine.id) parts ≡ numbers_of changed_rows
  numbers = ap (map (λ (part : Part). part.machine.id)) leads_there.brings ∙ parts_numbers target.changed target.cell target.seqs 0 target.cell.machines

  -- and are those of what changed
  named_all : (ids : List ℕ) → ids ≡ map (λ (part : Part). part.machine.id) parts → (id : ℕ) → target.changed id ≡ true → is_among ids id ≡ true
  named_all ids named id touched =
      ap (λ ns. is_among ns id) (named ∙ numbers) ∙ numbers_in id changed_rows
      ∙ listed_still target.changed id touched target.cell.machines (leads_there.listed id touched)

  goes_there : (ids : List ℕ) → ids ≡ map (λ (part : Part). part.machine.id) parts → GoesTo (is_among ids) (cell_of board) target.cell
  goes_there ids named = record {
    rows = alone_more target.changed (is_among ids) (named_all ids named) (machines_of board.table) target.cell.machines leads_there.rows;
    tasks = λ id out. leads_there.tasks id (false_from_ne_true _ (λ t. both_ways _ out (named_all ids named id t)));
  }

  -- there is room for the new ones where there is for as many as there are parts
  room_parts : (frees : List (Option Need)) (spare : ℕ) → frees ≡ freed_of 0 (cell_of board) → length parts ≤ spare → length (machines_of after.table) ≤ length frees + spare
  room_parts frees spare is room =
      let more = room_rows target.changed (machines_of board.table) target.cell.machines leads_there.rows in
      let now : length (machines_of after.table) ≡ length target.cell.machines = ap (λ (c : Cell). length c.machines) at.cell in
      let old : length frees ≡ length (machines_of board.table) = ap length is ∙ length-map (machines_of board.table) (freed_on 0 board.tasks) in
      let many : length (map (λ (part : Part). part.machine.id) parts) ≡ length (numbers_of changed_rows) = ap length numbers in
      let one = length-map parts (λ (part : Part). part.machine.id) in
      let two = length-map changed_rows (λ (m : Machine). m.id) in
      omega (arith, more, now, old, many, one, two, room)

  -- so indexes may be told of parts once these were put
  pub may_tell_parts : (indexes : Indexes) (ids : List ℕ) → TellAll (cell_of board) indexes → length parts ≤ indexes.index.spare → ids ≡ map (λ (part : Part). part.machine.id) parts
      → MayTell (is_among ids) after indexes
  may_tell_parts indexes ids tell room named = record {
    before = cell_of board;
    tell = tell;
    goes = subst (GoesTo (is_among ids) (cell_of board)) (sym at.cell) (goes_there ids named);
    room = room_parts indexes.index.free indexes.index.spare tell.free room;
  }
