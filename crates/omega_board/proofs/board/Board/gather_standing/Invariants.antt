use Rattle.std.proofs.Common.{◌≡◌, ◌≤◌, length}
use Rattle.std.specs.Vec.{vec_capacity}
use Rattle.omega_board.specs.Judging.{ComesLast}
use Rattle.omega_board.proofs.Gathered.{IsTold}
use Rattle.omega_board.proofs.Standing.{AreGathered}
use Rattle.omega_board.proofs.board.Board.gather_standing.Given as goal

abbrev pub invariant-loop-key : goal.invariant-loop-key
invariant-loop-key l =
    AreGathered l.self.tasks l.claim.machine l.claim.victims l.key-index l.standing.items
    × (length l.standing.items ≤ l.key-index)
    × (vec_capacity l.standing ≡ vec_capacity l.fn.standing)
    × ComesLast l.self.tasks l.standing.items l.last
    × IsTold l.self l.claim.machine l.claim.spec.prec l.standing.items l.found
