use Rattle.std.proofs.Common.{ap, ◌∙◌}
use Rattle.omega_model.specs.Cell.{Cell}
use Rattle.omega_free.proofs.own_ends.OwnEnds.first.Goals as goal

pub returns-clause-kept : goal.returns-clause-kept
returns-clause-kept c trace rows times keeps =
    let tasks = c.running.ensures.tasks ∙ ap (λ (cell : Cell). cell.tasks) c.board.ensures.current in
    record { low = keeps.low; pieces = keeps.pieces; due = c.first.ensures.kept trace c.args.cell.now.history times tasks keeps.due }
