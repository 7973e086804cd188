use Rattle.std.proofs.Common.{◌≡◌, ℕ, take}
use Rattle.omega_board.specs.Numbers.{is_among}
use Rattle.omega_model.specs.Touches.{is_touched}
use Rattle.omega_board.proofs.naming.touched.Given as goal

abbrev pub invariant-loop-entry : goal.invariant-loop-entry
invariant-loop-entry l = (id : ℕ) → is_among l.machines.items id ≡ is_touched (take l.entry-index l.entries) id
