use Rattle.omega_board.proofs.Rewinds.{stop_content, stop_undo}
use Rattle.omega_board.proofs.board.Board.stop_noted.Goals as goal

pub returns-in-Some-clause-content : goal.returns-in-Some-clause-content
returns-in-Some-clause-content c =
    stop_content c.args.self.now c.stop.new.self c.stop.ensures.board c.args.undo.now c.note_stopped.new.self c.requires.undo c.args.key c.in-Some.task c.in-Some.ensures.task c.stop.ensures.tasks c.stop.ensures.table c.in-Some.ensures.spare c.note_stopped.ensures.log

pub returns-in-Some-clause-undo : goal.returns-in-Some-clause-undo
returns-in-Some-clause-undo c =
    stop_undo c.args.self.now c.stop.new.self c.stop.ensures.board c.args.undo.now c.note_stopped.new.self c.requires.undo c.args.key c.in-Some.task c.in-Some.ensures.task c.stop.ensures.tasks c.stop.ensures.table c.in-Some.ensures.spare c.note_stopped.ensures.log c.note_stopped.ensures.claims
