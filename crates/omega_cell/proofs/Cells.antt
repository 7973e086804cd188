-- What a cell keeps, and one more entry.
use Rattle.std.proofs.Common.{Vec, Global, ◌≡◌, ℕ, ◌+◌, ◌-◌, ◌<◌, ◌≤◌, ◌^◌, false, List, [], ◌∷◌, ◌++◌, length, refl, sym, ap, ap₂, ◌∙◌, subst, arith, if◌then◌else◌}
use Rattle.std.specs.Prelude.{IfSome, IsTrue, vec_len, vec_capacity}
use Rattle.std.proofs.lemmas.Bool.{both_ways}
use Rattle.std.proofs.lemmas.List.Sums.{count_by-le-length}
use Rattle.omega_model.specs.Applying.{capacity_in, machine_in, EndsRunning, ListsOrHasRoom, MayApply, PlacesInOrder}
use Rattle.omega_model.specs.Cell.{Cell}
use Rattle.omega_model.specs.Fields.{greatest}
use Rattle.omega_model.specs.Legal.{Follows}
use Rattle.omega_model.specs.Need.{Fits}
use Rattle.omega_model.specs.State.{state, step}
use Rattle.omega_model.specs.Touches.{seq, touches, is_commit}
use Rattle.omega_model.specs.declared.cells.Task.{Task}
use Rattle.omega_model.specs.declared.entries.Entry.{Entry}
use Rattle.omega_model.specs.declared.entries.Entry.TheVariants.{Round, MachineAdd, MachineUpdate, MachineRemove, AttrSet, AttrDelete, End, Commit}
use Rattle.omega_model.proofs.Growing.{by_place_push, legal_push, state_push}
use Rattle.omega_machines.specs.declared.MachineState.{MachineState}
use Rattle.omega_machines.specs.Table.{machines_of, seq_at}
use Rattle.omega_board.specs.Board.{BoardState, cell_of}
use Rattle.omega_board.proofs.Histories.{seq_push}
use Rattle.omega_cell.specs.Cells.{IsCell}

-- a cell with one more entry that may follow, on whose board it was applied
pub cell_push : (board after : BoardState) (history : List Entry) (entry : Entry) → IsCell board history → Follows history entry → MayApply (state history) (seq history) entry
    → cell_of after ≡ step (cell_of board) entry
    → ((id : ℕ) → seq_at after.table id ≡ seq_at board.table id + (if touches id entry then 1 else 0))
    → IsCell after (history ++ entry ∷ [])
cell_push board after history entry kept follows may stepped numbered = record {
  board_is = record {
    current = stepped ∙ ap (λ (c : Cell). step c entry) kept.board_is.current ∙ sym (state_push history entry);
    numbered = λ id. numbered id ∙ ap (λ (n : ℕ). n + (if touches id entry then 1 else 0)) (kept.board_is.numbered id) ∙ sym (seq_push history entry id);
  };
  legal = legal_push history entry kept.legal follows;
  applied = by_place_push (λ (before : List Entry). MayApply (state before) (seq before)) history entry kept.applied may;
}

-- another board of the same cell, with the same sequence numbers, serves as well
pub cell_alike : (board after : BoardState) (history : List Entry) → IsCell board history → cell_of after ≡ cell_of board
    → ((id : ℕ) → seq_at after.table id ≡ seq_at board.table id) → IsCell after history
cell_alike board after history kept current numbered = record {
  board_is = record {
    current = current ∙ kept.board_is.current;
    numbered = λ id. numbered id ∙ kept.board_is.numbered id;
  };
  legal = kept.legal;
  applied = kept.applied;
}

-- so does one with the same machines and tasks
pub cell_same : (board after : BoardState) (history : List Entry) → IsCell board history → after.table ≡ board.table → after.tasks ≡ board.tasks → IsCell after history
cell_same board after history kept table tasks =
    cell_alike board after history kept
    (ap₂ (λ (t : List MachineState) (u : List Task). let cell : Cell = record { machines = machines_of t; tasks = u } in cell) table tasks)
    (λ id. ap (λ (t : List MachineState). seq_at t id) table)

-- sequence numbers are at most the number of entries
short : (history : List Entry) (entry : Entry) → length history < 2 ^ 64 - 1 → (id : ℕ) → IsTrue (touches id entry) → seq history id < 2 ^ 64 - 1
short history entry few id touched =
    let most : seq history id ≤ length history = count_by-le-length (touches id) history in
    omega (arith, few, most)

-- an entry that is no commit may follow any history
pub fed_follows : (history : List Entry) (entry : Entry) → is_commit entry ≡ false → Follows history entry
fed_follows history (Round number) other = tt
fed_follows history (MachineAdd machine cap) other = tt
fed_follows history (MachineUpdate machine cap) other = tt
fed_follows history (MachineRemove machine) other = tt
fed_follows history (AttrSet machine name value) other = tt
fed_follows history (AttrDelete machine name) other = tt
fed_follows history (End key machine) other = tt
fed_follows history (Commit scheduler seen txn reply) other = absurd (both_ways _ other refl)

-- it places nothing
places_nothing : (cell : Cell) (entry : Entry) → is_commit entry ≡ false → PlacesInOrder cell entry
places_nothing cell (Round number) other = tt
places_nothing cell (MachineAdd machine cap) other = tt
places_nothing cell (MachineUpdate machine cap) other = tt
places_nothing cell (MachineRemove machine) other = tt
places_nothing cell (AttrSet machine name value) other = tt
places_nothing cell (AttrDelete machine name) other = tt
places_nothing cell (End key machine) other = tt
places_nothing cell (Commit scheduler seen txn reply) other = absurd (both_ways _ other refl)

-- it may be applied where its capacity, its machine and its task allow it
pub fed_may : (history : List Entry) (entry : Entry) → is_commit entry ≡ false → IfSome (capacity_in entry) (λ cap. Fits cap greatest)
    → IfSome (machine_in entry) (ListsOrHasRoom (state history).machines) → EndsRunning (state history).tasks entry → length history < 2 ^ 64 - 1
    → MayApply (state history) (seq history) entry
fed_may history entry other capacity machines ends few = record {
  capacity = capacity;
  machines = machines;
  numbers = short history entry few;
  ends = ends;
  places = places_nothing (state history) entry other;
}

-- on the entries that a cell holds, which it shows as its history
pub fed_may_on : (held shown : List Entry) (entry : Entry) → held ≡ shown → is_commit entry ≡ false → IfSome (capacity_in entry) (λ cap. Fits cap greatest)
    → IfSome (machine_in entry) (ListsOrHasRoom (state shown).machines) → EndsRunning (state shown).tasks entry → length held < 2 ^ 64 - 1
    → MayApply (state held) (seq held) entry
fed_may_on held shown entry same other capacity machines ends few =
    subst (λ (history : List Entry). MayApply (state history) (seq history) entry) (sym same)
    (fed_may shown entry other capacity machines ends (subst (λ (history : List Entry). length history < 2 ^ 64 - 1) same few))

-- no vector has more entries than that
pub few_entries : (entries : Vec Entry Global) → length entries.items < 2 ^ 64 - 1
few_entries entries =
    let long : vec_len entries ≡ length entries.items = entries.ok.0 in
    let within : vec_len entries ≤ vec_capacity entries = entries.ok.1 in
    let small : vec_capacity entries < 2 ^ 63 = entries.small in
    omega (arith, long, within, small)

-- a commit may be applied where its placed claims can be placed in order
pub commit_may : (history : List Entry) (entry : Entry) → capacity_in entry ≡ capacity_in (Round 0) → machine_in entry ≡ machine_in (Round 0)
    → EndsRunning (state history).tasks entry → PlacesInOrder (state history) entry → length history < 2 ^ 64 - 1
    → MayApply (state history) (seq history) entry
commit_may history entry no_capacity no_machine ends places few = record {
  capacity = subst (λ o. IfSome o (λ cap. Fits cap greatest)) (sym no_capacity) tt;
  machines = subst (λ o. IfSome o (ListsOrHasRoom (state history).machines)) (sym no_machine) tt;
  numbers = short history entry few;
  ends = ends;
  places = places;
}
