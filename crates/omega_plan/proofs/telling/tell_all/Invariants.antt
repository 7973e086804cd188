use Rattle.std.proofs.Common.{◌==◌, IfSome, drop}
use Rattle.std.specs.List.{list_any}
use Rattle.omega_machines.specs.Table.{machines_of}
use Rattle.omega_plan.specs.Telling.{TellsBut, TellsOf}
use Rattle.omega_plan.proofs.telling.tell_all.Given as goal

abbrev pub invariant-loop-machine : goal.invariant-loop-machine
invariant-loop-machine l = record {
  told : TellsBut (λ id. list_any (λ machine. machine == id) (drop l.machine-index l.machines)) 0 l.fn.board.tasks l.index.free (machines_of l.fn.board.table);
  last : IfSome l.last (λ told. TellsOf told 0 l.fn.board.tasks l.index.free (machines_of l.fn.board.table));
}
