use Rattle.std.specs.Iterator.Adapters.{zip_first, zip_second}
use Rattle.std.specs.List.{zip}
use Rattle.std.specs.Slice.Iter.{iter_rest}
use Rattle.omega_board.proofs.Commits.{IsPlacing}
use Rattle.omega_board.proofs.board.Board.place_all.Given as goal

abbrev pub invariant-loop-claim : goal.invariant-loop-claim
invariant-loop-claim l =
    IsPlacing l.fn.self l.self l.undo (zip l.claims l.reply) (iter_rest (zip_first l.claim-iterator)) (iter_rest (zip_second l.claim-iterator))
