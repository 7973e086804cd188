use Rattle.std.proofs.Common.{◌≡◌, ◌≤◌, length, take}
use Rattle.std.specs.Prelude.{map, vec_capacity}
use Rattle.omega_io.specs.Gates.{hold_of}
use Rattle.omega_io.proofs.held_gate.HeldGate.new.Given as goal

abbrev pub invariant-loop-hold : goal.invariant-loop-hold
invariant-loop-hold l = (map hold_of l.holds.items ≡ take l.hold-index l.order) × (length l.order ≤ vec_capacity l.holds)
