use Rattle.omega_running.proofs.Tally.{extras_around}
use Rattle.omega_running.proofs.nodes.extras_around.Goals as goal

pub returns : goal.returns
returns c = λ l r before behind. rw (before, behind, c.from.ensures, c.is_extra.ensures) (extras_around l c.args.task.now r)
