use Rattle.omega_rounds.proofs.WorldWaiting.{left_last, left_seen}
use Rattle.omega_rounds.proofs.world.World.waiting.Goals as goal

pub returns-clause-tasks : goal.returns-clause-tasks
returns-clause-tasks c = left_seen _ _ _ _ _ _ _ _ c.self.invariant.0 c.self.view_is c.board.ensures.current c.left.ensures

pub returns-clause-end : goal.returns-clause-end
returns-clause-end c = left_last _ _ _ _ _ _ _ _ c.self.invariant.0 c.self.view_is c.board.ensures.current c.left.ensures
