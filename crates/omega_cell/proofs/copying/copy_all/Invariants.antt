use Rattle.std.proofs.Common.{◌≡◌, ◌≤◌, length, take}
use Rattle.std.specs.Prelude.{vec_capacity}
use Rattle.omega_cell.proofs.copying.copy_all.Given as goal

-- the items so far are copied, and there is room for all
abbrev pub invariant-loop-item : goal.invariant-loop-item
invariant-loop-item g l = (l.copied.items ≡ take l.item-index l.items) × (length l.items ≤ vec_capacity l.copied)
