use Rattle.std.proofs.Common.{◌≡◌, take}
use Rattle.omega_board.specs.Putting.{listed_parts}
use Rattle.omega_board.proofs.board.Board.list_parts.Given as goal

abbrev pub invariant-loop-part : goal.invariant-loop-part
invariant-loop-part l =
    l.self ≡ record l.fn.self { table = listed_parts l.fn.self.table (take l.part-index l.parts) }
