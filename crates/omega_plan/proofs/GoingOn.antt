-- Indexes of a history that go on to a board after it.
use Rattle.std.proofs.Common.{◌≡◌, ℕ, ◌≤◌, Bool, List, [], ◌++◌, length, take, drop, sym, ap, ◌∙◌, subst, arith}
use Rattle.std.specs.List.{fold, list_any}
use Rattle.std.proofs.lemmas.List.{length-map, take-append-drop, take_all}
use Rattle.std.proofs.lemmas.List.Sums.{fold-append}
use Rattle.omega_model.specs.Applying.{EachMayApply}
use Rattle.omega_model.specs.Cell.{Cell, empty_cell}
use Rattle.omega_model.specs.State.{state, step}
use Rattle.omega_model.specs.Touches.{touches}
use Rattle.omega_model.specs.declared.entries.Entry.{Entry}
use Rattle.omega_machines.specs.declared.MachineState.{MachineState}
use Rattle.omega_machines.specs.Table.{machines_of}
use Rattle.omega_board.specs.Board.{BoardState, IsBoardOf, cell_of}
use Rattle.omega_board.specs.Numbers.{is_among}
use Rattle.omega_plan.specs.Indexes.{AreIndexesOf, HavePlaces, MayGoOn, MayTell, TellAll}
use Rattle.omega_plan.specs.Levels.{GoesTo, LevelsTell}
use Rattle.omega_plan.specs.Telling.{freed_of}
use Rattle.omega_plan.specs.declared.indexes.Indexes.{Indexes}
use Rattle.omega_plan.proofs.Applied.{MayAll, may_all, may_front, may_back}
use Rattle.omega_plan.proofs.Changing.{Went, alone_more, went_all}

-- the rest of a history changes what its entries touch alone
went_on_to_end : (history : List Entry) (seen : ℕ) → EachMayApply history → Went (λ id. list_any (touches id) (drop seen history)) (state (take seen history)) (state history)
went_on_to_end history seen applied =
    let whole : MayAll empty_cell (take seen history ++ drop seen history) = subst (MayAll empty_cell) (sym (take-append-drop seen history)) (may_all [] history applied) in
    let reached : fold step (state (take seen history)) (drop seen history) ≡ state history =
    sym (ap state (sym (take-append-drop seen history)) ∙ fold-append step empty_cell (take seen history) (drop seen history)) in
    subst (Went (λ id. list_any (touches id) (drop seen history)) (state (take seen history))) reached
    (went_all (take seen history) (drop seen history) (may_front empty_cell (take seen history) (drop seen history) whole) (may_back empty_cell (take seen history) (drop seen history) whole))

-- so indexes of the history may be told of the machines that the rest touches
pub may_tell_rest : (board : BoardState) (indexes : Indexes) (machines : List ℕ) → MayGoOn indexes board machines → HavePlaces (length board.table) indexes → MayTell (is_among machines) board indexes
may_tell_rest board indexes machines may places =
    let front : Cell = state (take indexes.seen may.history) in
    let whole : Cell = state may.history in
    let touched : ℕ → Bool = λ id. list_any (touches id) (drop indexes.seen may.history) in
    let went = went_on_to_end may.history indexes.seen may.applied in
    let rows : length (machines_of board.table) ≡ length board.table = length-map board.table (λ (s : MachineState). s.machine) in
    record {
      before = front;
      tell = record { free = may.are.free; levels = may.are.levels };
      goes = subst (GoesTo (is_among machines) front) (sym may.board_is.current) (record {
        rows = alone_more touched (is_among machines) (λ id out. may.touched id ∙ out) front.machines whole.machines went.rows;
        tasks = λ id out. went.tasks id (sym (may.touched id) ∙ out);
      });
      room = omega (arith, rows, places.free);
    }

-- indexes that tell of the board after a history, to whose end they have seen it, are its indexes
pub are_now : (history : List Entry) (board : BoardState) (indexes : Indexes) → IsBoardOf board history → TellAll (cell_of board) indexes → indexes.seen ≡ length history → AreIndexesOf history indexes
are_now history board indexes board_is tell seen =
    let same : cell_of board ≡ state (take indexes.seen history) = board_is.current ∙ ap state (sym (ap (λ n. take n history) seen ∙ take_all (length history) history (omega arith))) in
    record {
      within = omega (arith, seen);
      free = tell.free ∙ ap (freed_of 0) same;
      levels = subst (λ (cell : Cell). LevelsTell cell indexes.levels) same tell.levels;
    }

-- others that have seen as many entries, and tell all that they tell, are so too
pub are_still : (a b : Indexes) (history : List Entry) → b.seen ≡ a.seen → AreIndexesOf history a → ((cell : Cell) → TellAll cell a → TellAll cell b) → AreIndexesOf history b
are_still a b history seen are kept =
    let tell = kept (state (take a.seen history)) (record { free = are.free; levels = are.levels }) in
    record {
      within = subst (λ n. n ≤ length history) (sym seen) are.within;
      free = tell.free ∙ ap (λ n. freed_of 0 (state (take n history))) (sym seen);
      levels = subst (λ n. LevelsTell (state (take n history)) b.levels) (sym seen) tell.levels;
    }
