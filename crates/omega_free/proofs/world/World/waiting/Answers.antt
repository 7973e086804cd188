use Rattle.std.proofs.Common.{subst}
use Rattle.std.specs.Prelude.{IfOk}
use Rattle.omega_feed.specs.Left.{AreLeft}
use Rattle.omega_model.specs.Cell.{Cell}
use Rattle.omega_free.proofs.world.World.waiting.Goals as goal

pub returns : goal.returns
returns c =
    subst (λ (cell : Cell). IfOk c.left.result (AreLeft c.args.self.now.demand.wanted.tasks cell)) c.board.ensures.current c.left.ensures
