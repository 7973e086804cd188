use Rattle.std.proofs.Common.{◌∙◌}
use Rattle.omega_running.proofs.Kept.{other_same}
use Rattle.omega_running.proofs.table.Running.other_of_job.Goals as goal

pub returns : goal.returns
returns c =
    c.other_of_job.ensures
    ∙ rw (← c.self.view_is) (other_same c.self.inside.by_key.tasks c.self.inside.by_machine.tasks c.self.invariant.same c.args.job c.args.machine c.args.gone.now)
