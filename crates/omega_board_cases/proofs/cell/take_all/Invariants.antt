use Rattle.omega_copy.specs.Copies.{CopyOf}
use Rattle.omega_board_cases.proofs.cell.take_all.Given as goal

abbrev pub invariant-loop-step : goal.invariant-loop-step
invariant-loop-step l = CopyOf l.copy l.cell.history
