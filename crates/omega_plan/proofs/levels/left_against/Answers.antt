use Rattle.std.proofs.Common.{List, sym, ap, ◌∙◌}
use Rattle.std.specs.List.{filter}
use Rattle.std.proofs.lemmas.List.{drop_all}
use Rattle.omega_model.specs.Cell.{total}
use Rattle.omega_model.specs.Need.{minus}
use Rattle.omega_model.specs.declared.cells.Task.{Task}
use Rattle.omega_running.specs.Staying.{stays_against}
use Rattle.omega_plan.proofs.Listed.{minus_nothing}
use Rattle.omega_plan.proofs.Nearest.{passing_more}
use Rattle.omega_plan.proofs.levels.left_against.Goals as goal

pub loop-task-preserved : goal.loop-task-preserved
loop-task-preserved c =
    let against = stays_against c.args.prec in
    passing_more against c.loop-task.left c.left_beside-left.result (minus c.args.amount (total (filter against c.args.tasks.now))) c.args.tasks.now c.loop-task.task-index _ c.loop-task-test.true c.left_beside-left.ensures c.loop-task.invariant

pub returns : goal.returns
returns c =
    let against = stays_against c.args.prec in
    sym (minus_nothing c.loop-task.left)
    ∙ ap (λ (ts : List Task). minus c.loop-task.left (total (filter against ts))) (sym (drop_all c.loop-task.task-index c.args.tasks.now c.loop-task-test.false))
    ∙ c.loop-task.invariant
