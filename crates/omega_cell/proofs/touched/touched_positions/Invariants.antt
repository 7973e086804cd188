use Rattle.std.proofs.Common.{◌≡◌, ℕ, take}
use Rattle.omega_machines.specs.Table.{machines_of}
use Rattle.omega_cell.specs.Touched.{passes_at}
use Rattle.omega_board.specs.Numbers.{is_among}
use Rattle.omega_cell.proofs.touched.touched_positions.Given as goal

abbrev pub invariant-loop-number : goal.invariant-loop-number
invariant-loop-number l =
    (place : ℕ) → is_among l.positions.items place ≡ passes_at (is_among (take l.number-index l.number-items)) (machines_of l.machines) place
