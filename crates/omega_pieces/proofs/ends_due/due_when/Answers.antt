use Rattle.std.proofs.Common.{Some, None, ap, sym, ◌∙◌}
use Rattle.omega_pieces.proofs.EndsOn.{due_low}
use Rattle.omega_pieces.proofs.ends_due.due_when.Goals as goal

pub returns-in_ok-due-in-Some : goal.returns-in_ok-due-in-Some
returns-in_ok-due-in-Some c trace rows history keeps =
    let low = c.if-key-ge-FIRST_EXTRA.false in
    ap Some c.in_ok-due-in-Some.ensures
    ∙ due_low trace history c.args.time c.args.key (Some c.in-Some.life) low (sym c.in-Some.is ∙ c.life.ensures trace rows history keeps low)

pub returns-in-None : goal.returns-in-None
returns-in-None c trace rows history keeps =
    let low = c.if-key-ge-FIRST_EXTRA.false in
    due_low trace history c.args.time c.args.key None low (sym c.in-None.is ∙ c.life.ensures trace rows history keeps low)
