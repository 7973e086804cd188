use Rattle.std.proofs.Common.{IfSome}
use Rattle.std.specs.List.{list_any, zip}
use Rattle.std.specs.Iterator.Adapters.{zip_first, zip_second}
use Rattle.std.specs.Slice.Iter.{iter_rest}
use Rattle.omega_machines.specs.Table.{machines_of}
use Rattle.omega_model.specs.Touches.{places_on}
use Rattle.omega_plan.specs.Telling.{TellsBut, TellsOf}
use Rattle.omega_plan.proofs.telling.tell_placed.Given as goal

abbrev pub invariant-loop-claim : goal.invariant-loop-claim
invariant-loop-claim l = record {
  told : TellsBut (λ id. list_any (places_on id) (zip (iter_rest (zip_first l.claim-iterator)) (iter_rest (zip_second l.claim-iterator)))) 0 l.fn.board.tasks l.index.free (machines_of l.fn.board.table);
  last : IfSome l.last (λ told. TellsOf told 0 l.fn.board.tasks l.index.free (machines_of l.fn.board.table));
}
