use Rattle.std.proofs.Common.{◌++◌, ap, ◌∙◌}
use Rattle.omega_shared.specs.Passes.{PassState}
use Rattle.omega_shared.proofs.Standing.{stands_later}
use Rattle.omega_shared.proofs.shared.SharedCell.commit.Goals as goal

pub returns-clause-stands : goal.returns-clause-stands
returns-clause-stands g c =
    let on = c.append.ensures.extends in
    let copy = c.args.copy.now in
    let kind = g.C.CellCopy in
    stands_later (kind.cell_of copy) (kind.seq_of copy) (kind.seen_of copy) c.args.pass.now.seen c.append.new.seat.seen c.requires.stands
    (on.0, on.1 ∙ ap (λ (pass : PassState). pass.seen ++ on.0) c.pass.view_is)
