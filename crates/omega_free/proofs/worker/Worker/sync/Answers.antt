use Rattle.std.proofs.Common.{sym}
use Rattle.omega_board.specs.Board.{cell_of}
use Rattle.omega_opening.proofs.Reopened.{quiet_on}
use Rattle.omega_free.specs.declared.worker.Worker.{Worker}
use Rattle.omega_free.proofs.WorkerSyncs.{worker_synced}
use Rattle.omega_free.proofs.worker.Worker.sync.Goals as goal

pub sync_desk-requires-clause-quiet : goal.sync_desk-requires-clause-quiet
sync_desk-requires-clause-quiet c = quiet_on c.args.open_jobs.now c.args.wanted.now _ _ (sym c.board.ensures.current) c.requires.quiet

pub returns-clause-quiet : goal.returns-clause-quiet
returns-clause-quiet c = quiet_on c.sync_desk.new.open_jobs c.args.wanted.now _ _ c.board.ensures.current c.sync_desk.ensures.quiet

pub returns-in_err-begun-clause-quiet : goal.returns-in_err-begun-clause-quiet
returns-in_err-begun-clause-quiet c = quiet_on c.sync_desk.new.open_jobs c.args.wanted.now _ _ c.board.ensures.current c.sync_desk.ensures.quiet

pub returns-in_err-attempt-clause-quiet : goal.returns-in_err-attempt-clause-quiet
returns-in_err-attempt-clause-quiet c = quiet_on c.sync_desk.new.open_jobs c.args.wanted.now _ _ c.board.ensures.current c.sync_desk.ensures.quiet

pub returns-clause-syncs : goal.returns-clause-syncs
returns-clause-syncs c =
    let new : Worker = record { desk = c.sync_desk.new.desk; begun = c.in_ok-begun.begun; attempt = c.in_ok-attempt.attempt } in
    worker_synced c.args.settings.now c.args.wanted.now c.args.cell.now.history (cell_of c.board.result.now) c.args.triggers c.args.now
    c.args.self.now new c.board.ensures.current c.sync_desk.ensures.same c.sync_desk.ensures.attempts c.in_ok-begun.ensures.syncs
    c.in_ok-attempt.ensures.first c.in_ok-attempt.ensures.kept
