use Rattle.std.proofs.Common.{sym, subst, ap, ◌∙◌}
use Rattle.omega_board.specs.Board.{BoardState, IsBoard, table_with}
use Rattle.omega_running.proofs.Kept.{without_absent}
use Rattle.omega_board.proofs.Boards.{on_listed, need_in_use, stopped, table_with-same}
use Rattle.omega_board.proofs.board.Board.stop.Goals as goal

pub release-requires-clause-listed : goal.release-requires-clause-listed
release-requires-clause-listed c = on_listed _ _ c.self.invariant c.args.key c.in_ok-task.task c.in_ok-task.ensures.task

pub release-requires-clause-in_use : goal.release-requires-clause-in_use
release-requires-clause-in_use c = need_in_use _ _ c.self.invariant c.args.key c.in_ok-task.task c.in_ok-task.ensures.task

pub invariant_of-self : goal.invariant_of-self
invariant_of-self c =
    subst (IsBoard c.self.inside.table) (sym (c.remove.ensures.tasks ∙ without_absent c.args.key c.self.inside.running.tasks (sym c.in_err-task.ensures.task))) c.self.invariant

pub invariant_of-self-2 : goal.invariant_of-self-2
invariant_of-self-2 c =
    (stopped _ _ c.self.invariant c.args.key c.in_ok-task.task c.in_ok-task.ensures.task _ _ c.remove.ensures.tasks c.release.ensures.changed c.release.ensures.table).0

pub returns-clause-table : goal.returns-clause-table
returns-clause-table c =
    (stopped _ _ c.self.invariant c.args.key c.in_ok-task.task c.in_ok-task.ensures.task _ _ c.remove.ensures.tasks c.release.ensures.changed c.release.ensures.table).1
    ∙ ap (λ (board : BoardState). table_with c.remove.new.self.tasks board.table) c.self.view_is

pub returns-in_err-task-clause-table : goal.returns-in_err-task-clause-table
returns-in_err-task-clause-table c =
    sym (table_with-same c.self.inside.running.tasks c.self.inside.table c.self.invariant.counted)
    ∙ ap (λ tasks. table_with tasks c.self.inside.table) (sym (c.remove.ensures.tasks ∙ without_absent c.args.key c.self.inside.running.tasks (sym c.in_err-task.ensures.task)))
    ∙ ap (λ (board : BoardState). table_with c.remove.new.self.tasks board.table) c.self.view_is
