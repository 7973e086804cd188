use Rattle.std.proofs.Common.{subst}
use Rattle.omega_model.specs.Legal.{Sound}
use Rattle.omega_board.specs.Board.{BoardState, cell_of}
use Rattle.omega_board.proofs.Sounds.{sound_board}
use Rattle.omega_board.proofs.board.Board.machines.Goals as goal

pub returns-clause-sound : goal.returns-clause-sound
returns-clause-sound c = subst (λ (board : BoardState). Sound (cell_of board)) c.self.view_is (sound_board _ _ c.self.invariant)
