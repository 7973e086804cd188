use Rattle.omega_model.specs.State.{ranked_on}
use Rattle.omega_board.proofs.Ranks.{Walked}
use Rattle.omega_board.proofs.board.Board.excess_len.Given as goal

abbrev pub invariant-loop-i : goal.invariant-loop-i
invariant-loop-i l = Walked l.cap (ranked_on l.machine l.self.tasks) l.i l.left
