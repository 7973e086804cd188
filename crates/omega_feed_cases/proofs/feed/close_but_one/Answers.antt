use Rattle.omega_feed.proofs.Quiet.{still_quiet}
use Rattle.omega_feed_cases.proofs.feed.close_but_one.Goals as goal

pub returns : goal.returns
returns c = still_quiet c.settle.new.self c.reopen.new.self c.args.wanted.now c.args.board.now.tasks c.reopen.ensures.stay c.settle.ensures.quiet
