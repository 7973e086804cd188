use Rattle.omega_copy.proofs.Follows.{may_follow_new}
use Rattle.omega_board_cases.proofs.planning.following.Goals as goal

pub follow-requires-clause-history : goal.follow-requires-clause-history
follow-requires-clause-history c =
    may_follow_new c.new-copy.result c.args.cell.now.history c.history.result.now c.new-copy.ensures.board c.new-copy.ensures.seen c.history.ensures.applied c.history.ensures.history
