use Rattle.std.proofs.Common.{◌≡◌, ◌≤◌, List, length, sym, ap, ◌∙◌, subst}
use Rattle.omega_model.specs.Cell.{keys_of}
use Rattle.omega_model.specs.declared.delta.Part.{Part}
use Rattle.omega_running.specs.Kept.{KeysRise}
use Rattle.std.specs.List.{AllByRecursion as Each}
use Rattle.omega_board.specs.Board.{BoardState, cell_of}
use Rattle.omega_board.specs.Putting.{gone_of, came_of, listed_parts, with_tasks_of, MayStartAll}
use Rattle.omega_board.proofs.Boards.{at_now}
use Rattle.omega_board.proofs.Reaching.{IsStopped, stopped_as, parts_ordered, room_listed, rows_may, came_may, reached}
use Rattle.omega_board.proofs.board.Board.put_parts.Goals as goal

pub gone-requires : goal.gone-requires
gone-requires c =
    let kept = at_now _ _ c.self.view_is c.self.invariant in
    subst (Each (λ part. KeysRise part.tasks)) (sym c.as_slice.ensures) (parts_ordered c.args.self.now c.args.parts c.requires.target c.requires.leads kept)

pub list_parts-requires : goal.list_parts-requires
list_parts-requires c =
    let kept = at_now _ _ c.self.view_is c.self.invariant in
    subst (λ (parts : List Part). length (listed_parts c.self.inside.table parts) ≤ 65536) (sym c.as_slice-3.ensures)
    (subst (λ (board : BoardState). length (listed_parts board.table c.args.parts) ≤ 65536) (sym c.self.view_is)
    (room_listed c.args.self.now c.args.parts c.requires.target c.requires.leads kept))

pub put_rows-requires : goal.put_rows-requires
put_rows-requires c =
    let now = c.args.self.now in
    let kept = at_now _ _ c.self.view_is c.self.invariant in
    let before : BoardState = record { table = c.self.inside.table; tasks = c.reserve.new.self.tasks; spare = c.reserve.new.self.spare } in
    let is : IsStopped now c.stop_all.new.self c.args.parts =
    stopped_as now before c.list_parts.new.self c.stop_all.new.self c.args.parts c.as_slice-3.result.now c.deref.result.now (ap (λ (b : BoardState). b.table) c.self.view_is)
    (c.reserve.ensures.tasks ∙ ap (λ (b : BoardState). b.tasks) c.self.view_is) c.in_ok-list_parts.ensures.ok c.as_slice-3.ensures
    (c.deref.ensures.value ∙ c.in_ok-gone.ensures ∙ ap (λ (parts : List Part). keys_of (gone_of now.tasks parts)) c.as_slice.ensures) c.stop_all.ensures.tasks c.stop_all.ensures.machines c.stop_all.ensures.seqs in
    rows_may now c.args.parts c.requires.target c.requires.leads kept c.stop_all.new.self is.tasks is.machines is.seqs

pub start_all-requires-clause-starts : goal.start_all-requires-clause-starts
start_all-requires-clause-starts c =
    let now = c.args.self.now in
    let kept = at_now _ _ c.self.view_is c.self.invariant in
    let before : BoardState = record { table = c.self.inside.table; tasks = c.reserve.new.self.tasks; spare = c.reserve.new.self.spare } in
    let is : IsStopped now c.stop_all.new.self c.args.parts =
    stopped_as now before c.list_parts.new.self c.stop_all.new.self c.args.parts c.as_slice-3.result.now c.deref.result.now (ap (λ (b : BoardState). b.table) c.self.view_is)
    (c.reserve.ensures.tasks ∙ ap (λ (b : BoardState). b.tasks) c.self.view_is) c.in_ok-list_parts.ensures.ok c.as_slice-3.ensures
    (c.deref.ensures.value ∙ c.in_ok-gone.ensures ∙ ap (λ (parts : List Part). keys_of (gone_of now.tasks parts)) c.as_slice.ensures) c.stop_all.ensures.tasks c.stop_all.ensures.machines c.stop_all.ensures.seqs in
    subst (MayStartAll (cell_of c.put_rows.new.self)) (sym (c.deref-2.ensures.value ∙ c.in_ok-came.ensures ∙ ap (came_of now.tasks) c.as_slice-2.ensures))
    (came_may now c.args.parts c.requires.target c.requires.leads kept c.stop_all.new.self is.tasks is.machines is.seqs c.put_rows.new.self c.put_rows.ensures.machines c.put_rows.ensures.seqs c.put_rows.ensures.tasks)

pub returns-clause-put : goal.returns-clause-put
returns-clause-put c = λ target leads.
    let now = c.args.self.now in
    let kept = at_now _ _ c.self.view_is c.self.invariant in
    let before : BoardState = record { table = c.self.inside.table; tasks = c.reserve.new.self.tasks; spare = c.reserve.new.self.spare } in
    let is : IsStopped now c.stop_all.new.self c.args.parts =
    stopped_as now before c.list_parts.new.self c.stop_all.new.self c.args.parts c.as_slice-3.result.now c.deref.result.now (ap (λ (b : BoardState). b.table) c.self.view_is)
    (c.reserve.ensures.tasks ∙ ap (λ (b : BoardState). b.tasks) c.self.view_is) c.in_ok-list_parts.ensures.ok c.as_slice-3.ensures
    (c.deref.ensures.value ∙ c.in_ok-gone.ensures ∙ ap (λ (parts : List Part). keys_of (gone_of now.tasks parts)) c.as_slice.ensures) c.stop_all.ensures.tasks c.stop_all.ensures.machines c.stop_all.ensures.seqs in
    let came : c.deref-2.result.now ≡ came_of now.tasks c.args.parts = c.deref-2.ensures.value ∙ c.in_ok-came.ensures ∙ ap (came_of now.tasks) c.as_slice-2.ensures in
    reached now c.args.parts target leads kept c.stop_all.new.self is.tasks is.machines is.seqs c.put_rows.new.self c.put_rows.ensures.machines c.put_rows.ensures.seqs c.put_rows.ensures.tasks
    c.start_all.new.self (c.start_all.ensures.tasks ∙ ap (with_tasks_of c.put_rows.new.self.tasks) came) c.start_all.ensures.machines c.start_all.ensures.seqs
