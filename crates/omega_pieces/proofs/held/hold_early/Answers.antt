use Rattle.std.proofs.Common.{sym, ◌∙◌}
use Rattle.omega_pieces.proofs.PieceRows.{held_kept, held_more, of_no_later, of_no_piece}
use Rattle.omega_pieces.proofs.held.hold_early.Goals as goal

pub returns-then-ends : goal.returns-then-ends
returns-then-ends c rows often is are =
    let row = c.args.row.now in
    held_kept rows often c.args.held.now row (λ key number less. of_no_piece key number rows row (sym c.ends.ensures.ends ∙ c.if-ends.true)) are

pub returns-then-progress : goal.returns-then-progress
returns-then-progress c rows often is are =
    let row = c.args.row.now in
    held_kept rows often c.args.held.now row (of_no_later rows often row c.args.progress is c.if-progress.true) are

pub returns : goal.returns
returns c rows often is are =
    held_more rows often c.args.held.now c.hold.new.held c.args.row.now c.args.progress.cuts (sym c.ends.ensures.ends ∙ c.if-ends.false) is.cuts c.in_ok-hold.ensures are
