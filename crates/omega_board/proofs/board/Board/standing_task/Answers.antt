use Rattle.std.proofs.Common.{◌≡◌, Bool, true, false, not, ◌&&◌, refl, sym, ap, ◌∙◌}
use Rattle.omega_board.proofs.Standing.{behind_last, last_behind}
use Rattle.omega_board.proofs.board.Board.standing_task.Goals as goal

pub returns-then-comes_behind-clause-stands : goal.returns-then-comes_behind-clause-stands
returns-then-comes_behind-clause-stands c =
    let apart = behind_last c.args.self.now.tasks c.args.before.now c.args.last.now c.args.key c.in_ok-task.task c.requires c.in_ok-task.ensures.task (sym c.if-comes_behind.ensures) in
    c.in_ok-task.ensures.runs ∙ and_not _ _ apart
  where
    and_not : (runs among : Bool) → among ≡ false → runs ≡ (runs && not among)
    and_not true among apart = ap not (sym apart)
    and_not false among apart = refl

pub returns-then-comes_behind-clause-last : goal.returns-then-comes_behind-clause-last
returns-then-comes_behind-clause-last c =
    last_behind c.args.self.now.tasks c.args.before.now c.args.last.now c.args.key c.in_ok-task.task c.requires c.in_ok-task.ensures.task (sym c.if-comes_behind.ensures)
