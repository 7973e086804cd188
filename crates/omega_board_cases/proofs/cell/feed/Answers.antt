use Rattle.omega_model.specs.State.{state}
use Rattle.omega_board_cases.proofs.cell.feed.Goals as goal

pub feed-requires-clause-ends : goal.feed-requires-clause-ends
feed-requires-clause-ends c = c.requires.ends (state c.args.cell.now.history).tasks
