use Rattle.omega_board.proofs.Needing.{Walking}
use Rattle.omega_board.proofs.board.Board.needed.Given as goal

abbrev pub invariant-loop-n : goal.invariant-loop-n
invariant-loop-n l = Walking l.self l.claim l.standing l.n l.free
