use Rattle.std.proofs.Common.{ap₂, ◌∙◌}
use Rattle.std.specs.Prelude.{max}
use Rattle.omega_feed.proofs.LastTimes.{greatest_merged}
use Rattle.omega_feed.proofs.rounds.greatest_time.Goals as goal

pub returns : goal.returns
returns c =
    c.max-2.ensures
    ∙ ap₂ max (c.max.ensures ∙ ap₂ max c.last_time.ensures c.last_time-2.ensures) c.last_time-3.ensures
    ∙ greatest_merged c.args.machines.now c.args.attrs.now c.args.tasks.now c.requires
