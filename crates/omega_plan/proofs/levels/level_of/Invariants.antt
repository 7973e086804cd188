use Rattle.std.proofs.Common.{◌≡◌, ◌≤◌, ◌++◌, map, drop, vec_capacity}
use Rattle.omega_machines.specs.Table.{machines_of}
use Rattle.omega_plan.specs.Overlays.{tasks_claimed}
use Rattle.omega_plan.specs.Telling.{freed_on}
use Rattle.omega_plan.proofs.levels.level_of.Given as goal

abbrev pub invariant-loop-position : goal.invariant-loop-position
invariant-loop-position l = record {
  told : l.freed.items ++ map (freed_on l.prec (tasks_claimed l.overlay)) (drop l.position (machines_of l.overlay.board.table)) ≡ map (freed_on l.prec (tasks_claimed l.overlay)) (machines_of l.overlay.board.table);
  room : l.count ≤ vec_capacity l.freed;
}
