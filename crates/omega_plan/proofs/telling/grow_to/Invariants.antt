use Rattle.std.proofs.Common.{◌≡◌, ◌≤◌, ◌+◌, ◌-◌, length}
use Rattle.omega_machines.specs.Table.{machines_of}
use Rattle.omega_plan.specs.Telling.{placed}
use Rattle.omega_plan.proofs.telling.grow_to.Given as goal

abbrev pub invariant-loop-index : goal.invariant-loop-index
invariant-loop-index l = record {
  free : placed (machines_of l.board.table) l.index.free ≡ placed (machines_of l.board.table) l.fn.index.free;
  room : length (machines_of l.board.table) ≤ length l.index.free + l.index.spare;
}

abbrev pub decreases-loop-index : goal.decreases-loop-index
decreases-loop-index l = length (machines_of l.board.table) - length l.index.free
