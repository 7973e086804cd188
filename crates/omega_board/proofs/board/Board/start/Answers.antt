use Rattle.std.proofs.Common.{sym, subst, ap, ◌∙◌}
use Rattle.omega_board.specs.Board.{BoardState, cell_of, table_with}
use Rattle.omega_board.specs.Putting.{MayStart}
use Rattle.omega_board.proofs.Boards.{started}
use Rattle.omega_board.proofs.Rewinds.{sound_room}
use Rattle.omega_board.proofs.board.Board.start.Goals as goal

pub charge-requires : goal.charge-requires
charge-requires c =
    let now : BoardState = record { table = c.self.inside.table; tasks = c.self.inside.running.tasks; spare = c.self.inside.running.spare } in
    let may = subst (λ (board : BoardState). MayStart (cell_of board) c.args.task) (sym c.self.view_is) c.requires.starts in
    sound_room now c.args.task c.self.invariant may

pub invariant_of-self : goal.invariant_of-self
invariant_of-self c =
    let now : BoardState = record { table = c.self.inside.table; tasks = c.self.inside.running.tasks; spare = c.self.inside.running.spare } in
    let may = subst (λ (board : BoardState). MayStart (cell_of board) c.args.task) (sym c.self.view_is) c.requires.starts in
    (started _ _ c.self.invariant c.args.task may.absent (sound_room now c.args.task c.self.invariant may) _ _ c.insert_reserved.ensures.tasks c.charge.ensures.changed c.charge.ensures.table).0

pub returns-clause-table : goal.returns-clause-table
returns-clause-table c =
    let now : BoardState = record { table = c.self.inside.table; tasks = c.self.inside.running.tasks; spare = c.self.inside.running.spare } in
    let may = subst (λ (board : BoardState). MayStart (cell_of board) c.args.task) (sym c.self.view_is) c.requires.starts in
    (started _ _ c.self.invariant c.args.task may.absent (sound_room now c.args.task c.self.invariant may) _ _ c.insert_reserved.ensures.tasks c.charge.ensures.changed c.charge.ensures.table).1
    ∙ ap (λ (board : BoardState). table_with c.insert_reserved.new.self.tasks board.table) c.self.view_is
