use Rattle.std.proofs.Common.{drop}
use Rattle.omega_board.specs.Numbers.{is_among}
use Rattle.omega_machines.specs.Table.{machines_of}
use Rattle.omega_plan.specs.Overlays.{tasks_claimed}
use Rattle.omega_plan.specs.Telling.{TellsBut}
use Rattle.omega_plan.proofs.levels.tell_first.Given as goal

abbrev pub invariant-loop-place : goal.invariant-loop-place
invariant-loop-place l =
    TellsBut (is_among (drop l.place l.machines)) l.prec (tasks_claimed l.overlay) l.index.free (machines_of l.overlay.board.table)
