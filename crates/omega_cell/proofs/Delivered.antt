-- A delta that carries the history of a cell.
use Rattle.std.proofs.Common.{◌≡◌, ℕ, ◌+◌, ◌<◌, ◌≤◌, Bool, false, List, [], ◌∷◌, ◌++◌, length, map, take, drop, slice_get, Option, Some, None, refl, sym, ap, ap₂, ◌∙◌, subst, arith, append_assoc, length-append}
use Rattle.std.specs.List.{All, filter, range_with_len, enumerate_from}
use Rattle.std.specs.List.Sorted.{IsStrictlyIncreasing}
use Rattle.std.specs.Option.{option_map, option_map_or}
use Rattle.std.proofs.lemmas.List.{length-map, take_all}
use Rattle.std.proofs.lemmas.Option.{none-some, same_Some}
use Rattle.omega_model.specs.Copy.{Carries, parts_between}
use Rattle.omega_model.specs.Parts.{DeltaState, PositionsRise}
use Rattle.omega_model.specs.State.{state}
use Rattle.omega_model.specs.Touches.{seq, is_touched}
use Rattle.omega_model.specs.declared.cells.Machine.{Machine}
use Rattle.omega_model.specs.declared.delta.Part.{Part}
use Rattle.omega_model.specs.declared.entries.Entry.{Entry}
use Rattle.omega_machines.specs.declared.MachineState.{MachineState}
use Rattle.omega_machines.specs.Table.{machines_of, seq_at}
use Rattle.omega_board.specs.Board.{BoardState, cell_of, IsBoardOf}
use Rattle.omega_board.specs.Parts.{part_in, part_at}
use Rattle.omega_board.proofs.Whole.{same_items, there_behind}
use Rattle.omega_cell.specs.Touched.{passes_at, touched_places}
use Rattle.omega_cell.proofs.Touching.{places_within}
use Rattle.omega_model.proofs.Lists.{by_answer, all_of_each}

-- the places that are touched are places of the board
pub places_in : (board : BoardState) (entries : List Entry) (places : List ℕ) → places ≡ touched_places (machines_of board.table) entries → All (λ place. place < length board.table) places
places_in board entries places are =
    let long : length (machines_of board.table) ≡ length board.table = length-map board.table (λ (s : MachineState). s.machine) in
    subst (All (λ place. place < length board.table)) (sym are)
    (subst (λ n. All (λ place. place < n) (touched_places (machines_of board.table) entries)) long
    (all_of_each _ (touched_places (machines_of board.table) entries) (places_within (is_touched entries) (machines_of board.table))))

-- the parts at places have these as their positions
pub positions_of : (board : BoardState) (places : List ℕ) (parts : List Part) → map Some parts ≡ map (part_at board) places → map (λ (part : Part). part.position) parts ≡ places
positions_of board [] [] same = refl
positions_of board [] (part ∷ parts) same = absurd (cc)
positions_of board (place ∷ places) [] same = absurd (cc)
positions_of board (place ∷ places) (part ∷ parts) same =
    let first : Some part ≡ part_at board place = cc in
    let rest : map Some parts ≡ map (part_at board) places = cc in
    ap₂ (λ (n : ℕ) ns. n ∷ ns) (by (slice_get (machines_of board.table) place) first) (positions_of board places parts rest)
  where
    by : (o : Option Machine) → Some part ≡ option_map (λ row. part_in (cell_of board) (seq_at board.table) (place, row)) o → part.position ≡ place
    by None e = absurd (none-some part (sym e))
    by (Some row) e = ap (λ (p : Part). p.position) (same_Some part (part_in (cell_of board) (seq_at board.table) (place, row)) e)

pub positions_rise : (board : BoardState) (places : List ℕ) (parts : List Part) → map Some parts ≡ map (part_at board) places → IsStrictlyIncreasing places → PositionsRise parts
positions_rise board places parts same rises = subst IsStrictlyIncreasing (sym (positions_of board places parts same)) rises

-- the parts of a board at the places of machines that pass are those of its machines that pass
parts_passing : (test : ℕ → Bool) (board : BoardState) (front rows : List Machine) (n : ℕ) → machines_of board.table ≡ front ++ rows → length front ≡ n
    → map (part_at board) (filter (passes_at test (machines_of board.table)) (range_with_len n (length rows)))
    ≡ map Some (map (part_in (cell_of board) (seq_at board.table)) (filter (λ (place, row). test row.id) (enumerate_from n rows)))
parts_passing test board front [] n parted long = refl
parts_passing test board front (row ∷ rows) n parted long =
    let at : slice_get (machines_of board.table) n ≡ Some row = ap (λ ms. slice_get ms n) parted ∙ ap (slice_get (front ++ row ∷ rows)) (sym long) ∙ there_behind front row rows in
    let here : passes_at test (machines_of board.table) n ≡ test row.id = ap (λ o. option_map_or (λ (r : Machine). test r.id) o false) at in
    let part : part_at board n ≡ Some (part_in (cell_of board) (seq_at board.table) (n, row)) = ap (option_map (λ (r : Machine). part_in (cell_of board) (seq_at board.table) (n, r))) at in
    let rest = parts_passing test board (front ++ row ∷ []) rows (n + 1) (parted ∙ sym (append_assoc front (row ∷ []) rows)) (length-append front (row ∷ []) ∙ ap (λ k. k + 1) long) in
    by_answer (test row.id)
    (λ t. rw (here, t) (ap₂ (λ (p : Option Part) ps. p ∷ ps) part rest))
    (λ f. rw (here, f) rest)

-- what a board brings since a place of its history carries the history from there to its end
pub delivered : (board : BoardState) (history : List Entry) (n : ℕ) (later : List Entry) (places : List ℕ) (parts : List Part) (delta : DeltaState) → IsBoardOf board history → n ≤ length history
    → later ≡ drop n history → places ≡ touched_places (machines_of board.table) later → map Some parts ≡ map (part_at board) places
    → delta ≡ record { from = n; to = length history; parts = parts } → Carries delta history n (length history)
delivered board history n later places parts delta is_board within rest are answered is = record {
  order = within;
  within = omega arith;
  begins = ap (λ (d : DeltaState). d.from) is;
  ends = ap (λ (d : DeltaState). d.to) is;
  parts = ap (λ (d : DeltaState). d.parts) is ∙ brought ∙ as_history ∙ whole;
}
  where
    whole_history : take (length history) history ≡ history
    whole_history = take_all (length history) history (omega arith)

    brought : parts ≡ map (part_in (cell_of board) (seq_at board.table)) (filter (λ (place, row). is_touched later row.id) (enumerate_from 0 (machines_of board.table)))
    brought =
        same_items parts _
        (answered ∙ ap (map (part_at board)) are ∙ parts_passing (is_touched later) board [] (machines_of board.table) 0 refl refl)

    as_history : map (part_in (cell_of board) (seq_at board.table)) (filter (λ (place, row). is_touched later row.id) (enumerate_from 0 (machines_of board.table)))
        ≡ map (part_in (state history) (seq history)) (filter (λ (place, row). is_touched (drop n history) row.id) (enumerate_from 0 (state history).machines))
    as_history = λ i.
        map (part_in (is_board.current i) (λ id. is_board.numbered id i)) (filter (λ (place, row). is_touched (rest i) row.id) (enumerate_from 0 (is_board.current i).machines))

    whole : map (part_in (state history) (seq history)) (filter (λ (place, row). is_touched (drop n history) row.id) (enumerate_from 0 (state history).machines)) ≡ parts_between history n (length history)
    whole = λ i.
        let h = whole_history in
        map (part_in (state (sym h i)) (seq (sym h i))) (filter (λ (place, row). is_touched (drop n (sym h i)) row.id) (enumerate_from 0 (state (sym h i)).machines))
