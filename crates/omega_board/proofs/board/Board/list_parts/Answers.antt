use Rattle.std.proofs.Common.{length, take, sym, ap, ◌∙◌, subst}
use Rattle.omega_model.specs.Applying.{ListsOrHasRoom}
use Rattle.omega_machines.specs.Table.{machines_of}
use Rattle.omega_board.specs.Board.{BoardState, IsBoard}
use Rattle.omega_board.proofs.Boards.{at_now}
use Rattle.omega_board.proofs.Rewinds.{board_is}
use Rattle.omega_board.proofs.Rows.{list_room, list_refused}
use Rattle.omega_board.proofs.board.Board.list_parts.Goals as goal

pub list-requires : goal.list-requires
list-requires c =
    subst (λ (b : BoardState). ListsOrHasRoom (machines_of b.table) c.part-item.result.machine.id) (sym c.loop-part.invariant)
    (list_room c.args.self.now.table c.args.parts.now c.loop-part.part-index c.part-item.result c.requires c.loop-part-test.true c.part-item.is)

pub invariant_of-self : goal.invariant_of-self
invariant_of-self c =
    let inside = c.self-in-loop-part.inside in
    let after : BoardState = record { table = inside.table; tasks = inside.running.tasks; spare = inside.running.spare } in
    let kept = at_now _ _ c.self.view_is c.self.invariant in
    let is = list_refused c.args.self.now c.loop-part.self after (take c.loop-part.part-index c.args.parts.now) c.truncate.new.self c.len-count.result c.loop-part.invariant
    (c.self-in-loop-part.view_is ∙ c.in-Err.ensures.err) (c.len-count.ensures.len ∙ ap (λ (b : BoardState). length b.table) c.self.view_is) c.truncate.ensures.first in
    subst (IsBoard c.truncate.new.self) (sym is.1) (subst (λ table. IsBoard table c.args.self.now.tasks) (sym is.0) kept)

pub returns-in-Err-clause-err : goal.returns-in-Err-clause-err
returns-in-Err-clause-err c =
    let inside = c.self-in-loop-part.inside in
    let after : BoardState = record { table = inside.table; tasks = inside.running.tasks; spare = inside.running.spare } in
    let is = list_refused c.args.self.now c.loop-part.self after (take c.loop-part.part-index c.args.parts.now) c.truncate.new.self c.len-count.result c.loop-part.invariant
    (c.self-in-loop-part.view_is ∙ c.in-Err.ensures.err) (c.len-count.ensures.len ∙ ap (λ (b : BoardState). length b.table) c.self.view_is) c.truncate.ensures.first in
    board_is _ c.args.self.now is.0 is.1 is.2
