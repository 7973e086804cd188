use Rattle.std.proofs.Common.{ap, ◌∙◌}
use Rattle.std.specs.List.{filter}
use Rattle.omega_model.specs.Cell.{total}
use Rattle.omega_model.specs.Need.{minus}
use Rattle.omega_running.specs.Staying.{staying_on, stays_against}
use Rattle.omega_running.specs.Kept.{RunningTasks}
use Rattle.omega_running.proofs.table.Running.left_on.Goals as goal

pub returns : goal.returns
returns c =
    c.left_on.ensures
    ∙ ap (λ ts. minus c.args.amount (total (filter (stays_against c.args.prec) ts))) (c.self.invariant.same c.args.machine)
    ∙ ap (λ (r : RunningTasks). minus c.args.amount (staying_on c.args.prec r.tasks c.args.machine)) c.self.view_is
