use Rattle.omega_opening.proofs.Reopened.{quiet_fed_on}
use Rattle.omega_opening.proofs.opening.feed_one.Goals as goal

pub returns-clause-quiet : goal.returns-clause-quiet
returns-clause-quiet c =
    quiet_fed_on c.args.open_jobs.now c.reopen_stopped.new.open_jobs c.args.wanted.now c.args.cell.now.history c.feed.new.cell.history c.args.entry _
    c.board.ensures.current c.requires.quiet c.in_ok-reopen_stopped.ensures c.in_ok-feed.ensures
