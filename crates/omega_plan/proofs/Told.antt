-- What indexes may be told once a board has changed.
use Rattle.std.proofs.Common.{◌≡◌, ◌≤◌, ◌+◌, length, sym, ap, ◌∙◌, subst, arith}
use Rattle.std.proofs.lemmas.List.{length-map}
use Rattle.omega_model.specs.Applying.{PlacesInOrder}
use Rattle.omega_model.specs.Cell.{Cell}
use Rattle.omega_model.specs.State.{step}
use Rattle.omega_model.specs.Touches.{is_touched_by}
use Rattle.omega_model.specs.declared.entries.Entry.{Entry}
use Rattle.omega_machines.specs.Table.{machines_of}
use Rattle.omega_running.specs.declared.orders.Order.TheVariants.{ByKey}
use Rattle.omega_running.specs.Order.{IsInOrder}
use Rattle.omega_board.specs.Board.{BoardState, cell_of}
use Rattle.omega_board.proofs.Commits.{cell_is}
use Rattle.omega_plan.specs.Indexes.{MayTell, TellAll}
use Rattle.omega_plan.specs.Levels.{GoesTo}
use Rattle.omega_plan.specs.declared.indexes.Indexes.{Indexes}
use Rattle.omega_plan.proofs.TellsAfter.{few_after, goes_step}

-- a board with the same machines and tasks has the same cell
pub same_cell : (a b : BoardState) → b.table ≡ a.table → b.tasks ≡ a.tasks → cell_of a ≡ cell_of b
same_cell a b table tasks = cell_is _ _ (ap machines_of (sym table)) (sym tasks)

-- once an entry was applied, indexes with room for a new machine may be told of it
pub may_tell_entry : (before after : BoardState) (entry : Entry) (indexes : Indexes) → TellAll (cell_of before) indexes → 1 ≤ indexes.index.spare
    → IsInOrder ByKey before.tasks → PlacesInOrder (cell_of before) entry → cell_of after ≡ step (cell_of before) entry → MayTell (is_touched_by entry) after indexes
may_tell_entry before after entry indexes tell spare order places stepped =
    let own : length indexes.index.free ≡ length (cell_of before).machines = ap length tell.free ∙ length-map (cell_of before).machines _ in
    let few : length (cell_of after).machines ≤ length (cell_of before).machines + 1 =
    subst (λ (cell : Cell). length cell.machines ≤ length (cell_of before).machines + 1) (sym stepped) (few_after (cell_of before).machines entry) in
    record {
      before = cell_of before;
      tell = tell;
      goes = subst (GoesTo (is_touched_by entry) (cell_of before)) (sym stepped) (goes_step (cell_of before) entry order places);
      room = omega (arith, spare, own, few);
    }
