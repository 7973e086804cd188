use Rattle.std.proofs.Common.{List, sym, ap, ◌∙◌}
use Rattle.std.specs.List.{filter}
use Rattle.std.proofs.lemmas.List.{drop_all}
use Rattle.omega_model.specs.Cell.{goes_before, total}
use Rattle.omega_model.specs.Need.{minus}
use Rattle.omega_model.specs.declared.cells.Task.{Task}
use Rattle.omega_plan.proofs.Listed.{minus_nothing}
use Rattle.omega_plan.proofs.Nearest.{passing_more}
use Rattle.omega_plan.proofs.evicting.left_behind.Goals as goal

pub loop-task-preserved : goal.loop-task-preserved
loop-task-preserved c =
    let later = goes_before c.args.other.now in
    passing_more later c.loop-task.left c.left_if_behind-left.result (minus c.args.amount (total (filter later c.args.tasks.now))) c.args.tasks.now c.loop-task.task-index _ c.loop-task-test.true c.left_if_behind-left.ensures c.loop-task.invariant

pub returns : goal.returns
returns c =
    let later = goes_before c.args.other.now in
    sym (minus_nothing c.loop-task.left)
    ∙ ap (λ (ts : List Task). minus c.loop-task.left (total (filter later ts))) (sym (drop_all c.loop-task.task-index c.args.tasks.now c.loop-task-test.false))
    ∙ c.loop-task.invariant
