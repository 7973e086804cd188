use Rattle.std.proofs.Common.{ap, ◌∙◌, sym}
use Rattle.std.specs.Iterator.Adapters.{zip_first, zip_second}
use Rattle.std.specs.List.{fold}
use Rattle.std.specs.Slice.Iter.{iter_rest}
use Rattle.std.proofs.lemmas.Slice.Zip.{either_empty_from_Zip}
use Rattle.omega_model.specs.Reply.{tasks_after_claim}
use Rattle.omega_board.proofs.Counts.{zipped_out}
use Rattle.omega_board.proofs.board.Board.place_all.Goals as goal

pub returns-clause-tasks : goal.returns-clause-tasks
returns-clause-tasks c =
    let left = c.loop-claim.claim-iterator in
    let none = zipped_out (iter_rest (zip_first left)) (iter_rest (zip_second left)) (either_empty_from_Zip left c.next.new.self c.next.result c.in-None.is c.next.ensures.steps) in
    ap (fold tasks_after_claim c.loop-claim.self.tasks) (sym none) ∙ c.loop-claim.invariant.tasks
