use Rattle.std.proofs.Common.{ap, ◌∙◌}
use Rattle.omega_machines.specs.Table.{machines_of, seq_at}
use Rattle.omega_machines.proofs.Laws.{machines_ensured, seq_ensured}
use Rattle.omega_board.specs.Board.{BoardState}
use Rattle.omega_board.proofs.board.Board.displace.Goals as goal

pub returns-clause-machines : goal.returns-clause-machines
returns-clause-machines c =
    c.stop_all.ensures.machines ∙ ap (λ (b : BoardState). machines_of b.table) c.in_ok-list.ensures.ok ∙ machines_ensured c.args.machine c.args.self.now.table

pub returns-clause-seqs : goal.returns-clause-seqs
returns-clause-seqs c = λ id.
    c.stop_all.ensures.seqs id ∙ ap (λ (b : BoardState). seq_at b.table id) c.in_ok-list.ensures.ok ∙ seq_ensured c.args.machine c.args.self.now.table id
