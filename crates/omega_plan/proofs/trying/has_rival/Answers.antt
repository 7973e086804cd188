use Rattle.std.proofs.Common.{◌&&◌, [], ap, sym, ◌∙◌}
use Rattle.std.specs.List.{list_any}
use Rattle.omega_model.specs.Jobs.{stays_of_job}
use Rattle.omega_plan.specs.Overlays.{tasks_claimed}
use Rattle.omega_plan.proofs.trying.has_rival.Goals as goal

pub returns-then-wish : goal.returns-then-wish
returns-then-wish c =
    c.has_of_job.ensures
    ∙ sym (ap (λ b. b && list_any (stays_of_job c.args.wish.now.key.job c.args.id []) (tasks_claimed c.args.overlay.now)) c.if-wish.true)
