use Rattle.std.proofs.Common.{◌++◌, ◌∙◌, ap, List}
use Rattle.omega_model.proofs.Answering.{if_ok_weaker}
use Rattle.omega_model.specs.declared.entries.Entry.{Entry}
use Rattle.omega_opening.proofs.Fed.{made_may}
use Rattle.omega_opening.proofs.opening.apply_row.Goals as goal

pub feed_all-requires-clause-may : goal.feed_all-requires-clause-may
feed_all-requires-clause-may c =
    (made_may c.args.cell.now.history c.args.wanted.now.disks c.args.wanted.now.tasks c.args.row _ c.in_ok-entries.entries
    c.entries.ensures.row c.board.ensures.current c.in_ok-entries.ensures.entries c.in_ok-entries.ensures.range).0

pub returns-clause-history : goal.returns-clause-history
returns-clause-history c =
    let same = (made_may c.args.cell.now.history c.args.wanted.now.disks c.args.wanted.now.tasks c.args.row _ c.in_ok-entries.entries
    c.entries.ensures.row c.board.ensures.current c.in_ok-entries.ensures.entries c.in_ok-entries.ensures.range).1 in
    if_ok_weaker _ _ c.feed_all.result (λ value is. is ∙ ap (λ (es : List Entry). c.args.cell.now.history ++ es) same) c.feed_all.ensures.history
