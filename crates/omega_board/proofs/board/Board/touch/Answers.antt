use Rattle.std.proofs.Common.{sym, subst}
use Rattle.omega_machines.specs.Table.{IsTable}
use Rattle.omega_board.specs.Board.{IsBoard}
use Rattle.omega_board.proofs.Boards.{touched_board}
use Rattle.omega_board.proofs.board.Board.touch.Goals as goal

pub invariant_of-self : goal.invariant_of-self
invariant_of-self c =
    subst (λ table. IsBoard table c.self.inside.running.tasks) (sym c.touch.ensures.changed)
    (touched_board _ _ c.self.invariant c.args.id (subst IsTable c.touch.ensures.changed c.touch.ensures.table))
