use Rattle.std.proofs.Common.{None, ◌≡◌, sym, subst, ap, ◌∙◌}
use Rattle.omega_model.specs.Cell.{task_at}
use Rattle.omega_board.specs.Board.{BoardState, cell_of, table_with}
use Rattle.omega_board.specs.Putting.{HasRoomFor}
use Rattle.omega_board.specs.Undo.{IsUndoOf, at_reserve}
use Rattle.omega_board.proofs.Boards.{started}
use Rattle.omega_board.proofs.Claims.{room_free}
use Rattle.omega_board.proofs.Rewinds.{start_content, start_undo}
use Rattle.omega_board.proofs.board.Board.start_noted.Goals as goal

pub charge-requires : goal.charge-requires
charge-requires c = room_free _ _ c.self.invariant c.args.task (subst (λ (board : BoardState). HasRoomFor (cell_of board) c.args.task) (sym c.self.view_is) c.requires.fits)

pub invariant_of-self : goal.invariant_of-self
invariant_of-self c =
    let absent = subst (λ (board : BoardState). task_at board.tasks c.args.task.key ≡ None) (sym c.self.view_is) c.requires.absent in
    let room = room_free _ _ c.self.invariant c.args.task (subst (λ (board : BoardState). HasRoomFor (cell_of board) c.args.task) (sym c.self.view_is) c.requires.fits) in
    (started _ _ c.self.invariant c.args.task absent room _ _ c.insert_reserved.ensures.tasks c.charge.ensures.changed c.charge.ensures.table).0

pub returns-clause-table : goal.returns-clause-table
returns-clause-table c =
    let absent = subst (λ (board : BoardState). task_at board.tasks c.args.task.key ≡ None) (sym c.self.view_is) c.requires.absent in
    let room = room_free _ _ c.self.invariant c.args.task (subst (λ (board : BoardState). HasRoomFor (cell_of board) c.args.task) (sym c.self.view_is) c.requires.fits) in
    (started _ _ c.self.invariant c.args.task absent room _ _ c.insert_reserved.ensures.tasks c.charge.ensures.changed c.charge.ensures.table).1
    ∙ ap (λ (board : BoardState). table_with c.insert_reserved.new.self.tasks board.table) c.self.view_is

pub returns-clause-content : goal.returns-clause-content
returns-clause-content c =
    let now : BoardState = record { table = c.self.inside.table; tasks = c.self.inside.running.tasks; spare = c.self.inside.running.spare } in
    let next : BoardState = record { table = c.charge.new.self; tasks = c.insert_reserved.new.self.tasks; spare = c.insert_reserved.new.self.spare } in
    let absent = subst (λ (board : BoardState). task_at board.tasks c.args.task.key ≡ None) (sym c.self.view_is) c.requires.absent in
    let room = room_free _ _ c.self.invariant c.args.task (subst (λ (board : BoardState). HasRoomFor (cell_of board) c.args.task) (sym c.self.view_is) c.requires.fits) in
    let table = (started _ _ c.self.invariant c.args.task absent room _ _ c.insert_reserved.ensures.tasks c.charge.ensures.changed c.charge.ensures.table).1 in
    let undoes = subst (λ (board : BoardState). IsUndoOf board c.args.undo.now) (sym c.self.view_is) c.requires.undo in
    start_content now next c.self.invariant c.args.undo.now c.note_started.new.self undoes c.args.task absent c.insert_reserved.ensures.tasks table c.insert_reserved.ensures.spare c.note_started.ensures.log
    ∙ ap (at_reserve c.args.undo.now) c.self.view_is

pub returns-clause-undo : goal.returns-clause-undo
returns-clause-undo c =
    let now : BoardState = record { table = c.self.inside.table; tasks = c.self.inside.running.tasks; spare = c.self.inside.running.spare } in
    let next : BoardState = record { table = c.charge.new.self; tasks = c.insert_reserved.new.self.tasks; spare = c.insert_reserved.new.self.spare } in
    let absent = subst (λ (board : BoardState). task_at board.tasks c.args.task.key ≡ None) (sym c.self.view_is) c.requires.absent in
    let room = room_free _ _ c.self.invariant c.args.task (subst (λ (board : BoardState). HasRoomFor (cell_of board) c.args.task) (sym c.self.view_is) c.requires.fits) in
    let table = (started _ _ c.self.invariant c.args.task absent room _ _ c.insert_reserved.ensures.tasks c.charge.ensures.changed c.charge.ensures.table).1 in
    let undoes = subst (λ (board : BoardState). IsUndoOf board c.args.undo.now) (sym c.self.view_is) c.requires.undo in
    start_undo now next c.self.invariant c.args.undo.now c.note_started.new.self undoes c.args.task absent c.insert_reserved.ensures.tasks table c.insert_reserved.ensures.spare c.note_started.ensures.log c.note_started.ensures.claims
