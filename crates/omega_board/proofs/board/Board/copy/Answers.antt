use Rattle.std.proofs.Common.{sym, subst}
use Rattle.omega_board.specs.Board.{BoardState}
use Rattle.omega_board.specs.Parts.{LeadTo, whole}
use Rattle.omega_board.proofs.board.Board.copy.Goals as goal

pub put_parts-requires : goal.put_parts-requires
put_parts-requires c = record {
  target = whole c.args.self.now;
  leads = subst (λ (board : BoardState). LeadTo board c.in_ok-parts.parts (whole c.args.self.now)) (sym c.new-board.ensures) c.in_ok-parts.ensures;
}

pub returns-clause-cell : goal.returns-clause-cell
returns-clause-cell c =
    let leads = subst (λ (board : BoardState). LeadTo board c.in_ok-parts.parts (whole c.args.self.now)) (sym c.new-board.ensures) c.in_ok-parts.ensures in
    (c.in_ok-put_parts.ensures.put (whole c.args.self.now) leads).cell

pub returns-clause-seqs : goal.returns-clause-seqs
returns-clause-seqs c =
    let leads = subst (λ (board : BoardState). LeadTo board c.in_ok-parts.parts (whole c.args.self.now)) (sym c.new-board.ensures) c.in_ok-parts.ensures in
    (c.in_ok-put_parts.ensures.put (whole c.args.self.now) leads).seqs
