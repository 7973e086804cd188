use Rattle.std.proofs.Common.{List, sym, ap, ◌∙◌}
use Rattle.std.proofs.lemmas.List.{drop_all}
use Rattle.omega_model.specs.Need.{minus}
use Rattle.omega_model.specs.declared.cells.Task.{Task}
use Rattle.omega_running.specs.Staying.{staying_on}
use Rattle.omega_plan.proofs.Listed.{left_more, minus_nothing}
use Rattle.omega_plan.proofs.placed.left_on.Goals as goal

pub loop-task-preserved : goal.loop-task-preserved
loop-task-preserved c =
    left_more c.args.prec c.args.machine c.loop-task.left c.left_by-left.result (minus c.args.amount (staying_on c.args.prec c.args.tasks.now c.args.machine))
    c.args.tasks.now c.loop-task.task-index _ c.loop-task-test.true c.left_by-left.ensures c.loop-task.invariant

pub returns : goal.returns
returns c =
    sym (minus_nothing c.loop-task.left)
    ∙ ap (λ (ts : List Task). minus c.loop-task.left (staying_on c.args.prec ts c.args.machine)) (sym (drop_all c.loop-task.task-index c.args.tasks.now c.loop-task-test.false))
    ∙ c.loop-task.invariant
