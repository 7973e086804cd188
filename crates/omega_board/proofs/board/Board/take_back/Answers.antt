use Rattle.std.proofs.Common.{subst}
use Rattle.omega_model.specs.Cell.{with_task}
use Rattle.omega_model.specs.Legal.{Sound}
use Rattle.omega_board.specs.Undo.{MayTakeBack}
use Rattle.omega_board.proofs.Rewinds.{machines_with}
use Rattle.omega_board.proofs.board.Board.take_back.Goals as goal

pub start-requires-clause-starts : goal.start-requires-clause-starts
start-requires-clause-starts c =
    let board = c.args.self.now in
    let task = c.in-Stopped.task in
    let may = subst (λ change. MayTakeBack change board) c.in-Stopped.is c.requires in
    record {
      absent = may.0;
      sound = subst (λ machines. Sound (record { machines = machines; tasks = with_task task board.tasks })) (machines_with (with_task task board.tasks) board.table) may.2;
    }
