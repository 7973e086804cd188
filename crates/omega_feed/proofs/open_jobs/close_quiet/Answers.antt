use Rattle.std.proofs.Common.{rules}
use Rattle.omega_feed.proofs.Settling.{settled}
use Rattle.omega_feed.proofs.open_jobs.close_quiet.Goals as goal

pub returns : goal.returns
returns c =
    settled c.args.wanted.now c.args.board.now.tasks _ _ (λ place b f k. search rules) c.args.places.now c.retain.new.self
    c.retain.ensures.filtered c.retain.ensures.no_new_key
