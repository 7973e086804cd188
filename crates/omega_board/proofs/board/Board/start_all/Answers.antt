use Rattle.std.proofs.Common.{◌∙◌, false}
use Rattle.omega_model.specs.declared.cells.Task.{Task}
use Rattle.omega_board.proofs.Starting.{machines_started, seqs_started, others_start, running_started, room_started}
use Rattle.omega_board.proofs.board.Board.start_all.Goals as goal

pub loop-task-preserved : goal.loop-task-preserved
loop-task-preserved c =
    let none : Task = record { key = record { job = 0; index = 0 }; machine = 0; spec = record { need = record { cpu = 0; mem = 0; disk = 0 }; prec = 0; differ = false } } in
    let so = c.loop-task.invariant in
    let old = c.loop-task.self in
    let new = c.start.new.self in
    let tasks = c.args.tasks.now in
    let i = c.loop-task.task-index in
    record {
      starts = others_start old new tasks i none c.loop-task-test.true c.start.ensures.tasks c.start.ensures.table so.starts;
      room = room_started old new tasks i none c.loop-task-test.true c.start.ensures.tasks c.start.ensures.table so.room c.start.ensures.spare;
      running = running_started old new tasks i none c.loop-task-test.true c.start.ensures.tasks c.start.ensures.table ∙ so.running;
      machines = machines_started old new tasks i none c.loop-task-test.true c.start.ensures.tasks c.start.ensures.table ∙ so.machines;
      seqs = λ id. seqs_started old new tasks i none c.loop-task-test.true c.start.ensures.tasks c.start.ensures.table id ∙ so.seqs id;
    }
