-- A copy that follows a history.
use Rattle.std.proofs.Common.{◌≡◌, ℕ, zero, suc, ◌+◌, ◌<◌, ◌≤◌, List, [], ◌∷◌, ◌++◌, length, get_or, take, drop, slice_get, Some, refl, sym, ap, ◌∙◌, subst, arith, if◌then◌else◌}
use Rattle.std.proofs.lemmas.List.{take_more, take-append-le, take-append-drop, length-append}
use Rattle.std.proofs.lemmas.Option.{slice_get-get_or, slice_get_within, get_or_from_slice_get}
use Rattle.omega_model.specs.Applying.{MayApply, EachMayApply}
use Rattle.omega_model.specs.Cell.{Cell, empty_cell}
use Rattle.omega_model.specs.Copy.{StandsFor, Carries}
use Rattle.omega_model.specs.Parts.{DeltaState}
use Rattle.omega_model.specs.State.{state, step}
use Rattle.omega_model.specs.Touches.{seq, touches}
use Rattle.omega_model.specs.declared.entries.Entry.{Entry}
use Rattle.omega_model.proofs.Growing.{state_push}
use Rattle.omega_machines.specs.Table.{machines_of, seq_at}
use Rattle.omega_running.specs.declared.orders.Order.TheVariants.{ByKey}
use Rattle.omega_running.specs.Order.{IsInOrder}
use Rattle.omega_board.specs.Board.{BoardState, cell_of}
use Rattle.omega_board.proofs.Commits.{cell_is}
use Rattle.omega_board.proofs.Histories.{seq_push, may_apply}
use Rattle.omega_plan.proofs.Applied.{MayAll, applied_held, may_all, may_front}
use Rattle.omega_copy.specs.Copies.{CopyState, CopyOf, MayFollow, MayCatchUp}

-- the entries up to a place and the one there
taken_more : (history : List Entry) (n : ℕ) (entry : Entry) → slice_get history n ≡ Some entry → take (n + 1) history ≡ take n history ++ entry ∷ []
taken_more history n entry is =
    take_more history n entry (slice_get_within history n entry is)
    ∙ ap (λ (e : Entry). take n history ++ e ∷ []) (get_or_from_slice_get history n entry entry is)

-- a copy that takes in the next entry stands for the history still
pub stands_next : (cell after : Cell) (seqs next : ℕ → ℕ) (seen : ℕ) (history : List Entry) (entry : Entry) → StandsFor cell seqs seen history → slice_get history seen ≡ Some entry
    → after ≡ step cell entry → ((id : ℕ) → next id ≡ seqs id + (if touches id entry then 1 else 0)) → StandsFor after next (seen + 1) history
stands_next cell after seqs next seen history entry stands here stepped numbered =
    let within : seen < length history = slice_get_within history seen entry here in
    let more = taken_more history seen entry here in
    let before : cell ≡ state (take seen history) = cell_is _ _ stands.machines stands.tasks in
    let now : after ≡ state (take (seen + 1) history) =
    stepped ∙ ap (λ (c : Cell). step c entry) before ∙ sym (state_push (take seen history) entry) ∙ ap state (sym more) in
    record {
      within = omega (arith, within);
      machines = ap (λ (c : Cell). c.machines) now;
      tasks = ap (λ (c : Cell). c.tasks) now;
      numbers = λ id. numbered id ∙ ap (λ (n : ℕ). n + (if touches id entry then 1 else 0)) (stands.numbers id)
          ∙ sym (seq_push (take seen history) entry id) ∙ ap (λ (h : List Entry). seq h id) (sym more);
    }

-- an entry of the rest of a list is one of the list
rest_get : {X : Type 0} (xs : List X) (n i : ℕ) → slice_get (drop n xs) i ≡ slice_get xs (n + i)
rest_get xs zero i = let same : i ≡ 0 + i = omega arith in ap (slice_get xs) same
rest_get [] (suc n) i = refl
rest_get (x ∷ xs) (suc n) i = let next : suc (n + i) ≡ suc n + i = omega arith in rest_get xs n i ∙ ap (slice_get (x ∷ xs)) next

-- a copy has followed so many of these entries
pub record IsFollowing (start now : CopyState) (later : List Entry) (n : ℕ) : Type 0 where
  pub count : now.seen ≡ start.seen + n
  pub stands : (history : List Entry) → CopyOf start history → later ≡ drop start.seen history → CopyOf now history

pub follows_none : (start : CopyState) (later : List Entry) → IsFollowing start start later 0
follows_none start later = record { count = omega arith; stands = λ history stands rest. stands }

-- the next entry stands in the history where the copy is
next_entry : (start now : CopyState) (later : List Entry) (n : ℕ) (entry : Entry) → IsFollowing start now later n → slice_get later n ≡ Some entry
    → (history : List Entry) → later ≡ drop start.seen history → slice_get history now.seen ≡ Some entry
next_entry start now later n entry so here history rest =
    ap (slice_get history) so.count ∙ sym (rest_get history start.seen n) ∙ ap (λ (es : List Entry). slice_get es n) (sym rest) ∙ here

module _ (start now : CopyState) (later : List Entry) (n : ℕ) (entry : Entry) (so : IsFollowing start now later n) (below : n < length later) (is : entry ≡ get_or later n entry) where
  here : slice_get later n ≡ Some entry
  here = slice_get-get_or later n entry below ∙ ap Some (sym is)

  -- and may be applied
  pub next_may : MayFollow start later → MayApply (cell_of now.board) (seq_at now.board.table) entry
  next_may may =
      let stands = so.stands may.history may.stands may.rest in
      may_apply (cell_of now.board) (seq_at now.board.table) (take now.seen may.history) entry (cell_is _ _ stands.machines stands.tasks) stands.numbers
      (may.applied now.seen entry (next_entry start now later n entry so here may.history may.rest))

  -- once it was, the copy has followed one more
  pub follows_more : (after : CopyState) → after.seen ≡ now.seen + 1 → cell_of after.board ≡ step (cell_of now.board) entry
      → ((id : ℕ) → seq_at after.board.table id ≡ seq_at now.board.table id + (if touches id entry then 1 else 0)) → IsFollowing start after later (n + 1)
  follows_more after seen stepped numbered = record {
    count = omega (arith, seen, so.count);
    stands = λ history stands rest.
        subst (λ k. StandsFor (cell_of after.board) (seq_at after.board.table) k history) (sym seen)
        (stands_next (cell_of now.board) (cell_of after.board) (seq_at now.board.table) (seq_at after.board.table) now.seen history entry (so.stands history stands rest)
        (next_entry start now later n entry so here history rest) stepped numbered);
  }

-- a copy that stands for a history stands for it when it has grown
pub stands_longer : (cell : Cell) (seqs : ℕ → ℕ) (seen : ℕ) (history later : List Entry) → StandsFor cell seqs seen history → StandsFor cell seqs seen (history ++ later)
stands_longer cell seqs seen history later stands =
    let within : seen ≤ length history = stands.within in
    let same : take seen history ≡ take seen (history ++ later) = sym (take-append-le seen history later within) in
    record {
      within = omega (arith, within, length-append history later);
      machines = stands.machines ∙ ap (λ (h : List Entry). (state h).machines) same;
      tasks = stands.tasks ∙ ap (λ (h : List Entry). (state h).tasks) same;
      numbers = λ id. stands.numbers id ∙ ap (λ (h : List Entry). seq h id) same;
    }

-- the copy that has seen nothing stands for every history
pub stands_new : (copy : CopyState) (history : List Entry) → copy.board ≡ record { table = []; tasks = []; spare = 0 } → copy.seen ≡ 0 → CopyOf copy history
stands_new copy history board seen = record {
  within = omega (arith, seen);
  machines = ap (λ (b : BoardState). machines_of b.table) board ∙ ap (λ (n : ℕ). (state (take n history)).machines) (sym seen);
  tasks = ap (λ (b : BoardState). b.tasks) board ∙ ap (λ (n : ℕ). (state (take n history)).tasks) (sym seen);
  numbers = λ id. ap (λ (b : BoardState). seq_at b.table id) board ∙ ap (λ (n : ℕ). seq (take n history) id) (sym seen);
}

-- so it may follow one from its first entry on
pub may_follow_new : (copy : CopyState) (history later : List Entry) → copy.board ≡ record { table = []; tasks = []; spare = 0 } → copy.seen ≡ 0 → EachMayApply history → later ≡ history → MayFollow copy later
may_follow_new copy history later board seen applied is = record {
  history = history;
  stands = stands_new copy history board seen;
  applied = applied;
  rest = is ∙ ap (λ (n : ℕ). drop n history) (sym seen);
}

-- a copy may catch up by a delta that carries the history from where it is to its end
pub may_catch_up : (copy : CopyState) (delta : DeltaState) (history : List Entry) → CopyOf copy history → Carries delta history copy.seen (length history) → EachMayApply history → MayCatchUp copy delta
may_catch_up copy delta history stands carries applied = record {
  history = history;
  stands = stands;
  carries = subst (λ n. Carries delta history copy.seen n) (sym carries.ends) carries;
  applied = applied;
}

-- the tasks of a copy that follows a history, each of whose entries could be applied, are in order
pub next_ordered : (start now : CopyState) (later : List Entry) (n : ℕ) → IsFollowing start now later n → MayFollow start later → IsInOrder ByKey now.board.tasks
next_ordered start now later n so may =
    let history = may.history in
    let stands = so.stands history may.stands may.rest in
    let whole : MayAll empty_cell (take now.seen history ++ drop now.seen history) = subst (MayAll empty_cell) (sym (take-append-drop now.seen history)) (may_all [] history may.applied) in
    subst (IsInOrder ByKey) (sym stands.tasks) (applied_held (take now.seen history) (may_front empty_cell (take now.seen history) (drop now.seen history) whole)).ordered
