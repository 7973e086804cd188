use Rattle.std.proofs.Common.{false, ◌==◌, ap, sym, ◌∙◌}
use Rattle.std.specs.Option.{option_map_or}
use Rattle.std.proofs.lemmas.Bool.{eq-eqb, ne_eqb}
use Rattle.omega_model.specs.Judge.{runs_on}
use Rattle.omega_model.specs.declared.cells.Task.{Task}
use Rattle.omega_board.specs.Board.{BoardState}
use Rattle.omega_board.proofs.Parts.{runs_on_is}
use Rattle.omega_board.proofs.board.Board.task_on.Goals as goal

pub returns-in_err-task-clause-runs : goal.returns-in_err-task-clause-runs
returns-in_err-task-clause-runs c =
    rw c.from_residual.ensures
    (ap (λ o. option_map_or (λ (task : Task). task.machine == c.args.machine) o false) c.in_err-task.ensures.task
    ∙ sym (runs_on_is c.self.inside.running.tasks c.args.machine c.args.key c.self.invariant.ordered)
    ∙ ap (λ (board : BoardState). runs_on board.tasks c.args.machine c.args.key) c.self.view_is)

pub returns-then-task-machine-clause-runs : goal.returns-then-task-machine-clause-runs
returns-then-task-machine-clause-runs c =
    sym (eq-eqb _ _ c.if-task-machine.true)
    ∙ ap (λ o. option_map_or (λ (task : Task). task.machine == c.args.machine) o false) c.in_ok-task.ensures.task
    ∙ sym (runs_on_is c.self.inside.running.tasks c.args.machine c.args.key c.self.invariant.ordered)
    ∙ ap (λ (board : BoardState). runs_on board.tasks c.args.machine c.args.key) c.self.view_is

pub returns-else-task-machine-clause-runs : goal.returns-else-task-machine-clause-runs
returns-else-task-machine-clause-runs c =
    sym (ne_eqb _ _ c.if-task-machine.false)
    ∙ ap (λ o. option_map_or (λ (task : Task). task.machine == c.args.machine) o false) c.in_ok-task.ensures.task
    ∙ sym (runs_on_is c.self.inside.running.tasks c.args.machine c.args.key c.self.invariant.ordered)
    ∙ ap (λ (board : BoardState). runs_on board.tasks c.args.machine c.args.key) c.self.view_is
