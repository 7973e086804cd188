use Rattle.std.proofs.Common.{refl}
use Rattle.omega_free.proofs.WholeRuns.{is_whole}
use Rattle.omega_free.proofs.world.World.into_run.Goals as goal

pub returns : goal.returns
returns c trace end left =
    is_whole c.args.self trace _ end c.into_run-history.ensures.history refl c.into_run-history.ensures.effects left refl
