use Rattle.std.proofs.Common.{◌≡◌, ◌≤◌, length, take}
use Rattle.std.specs.Prelude.{vec_len, vec_capacity}
use Rattle.omega_cell.proofs.room.KeyRoom.fill.Given as goal

abbrev pub invariant-loop-name : goal.invariant-loop-name
invariant-loop-name l = (l.keys.items ≡ take l.name-index l.names) × (vec_len l.keys ≡ l.name-index) × (length l.names ≤ vec_capacity l.keys)
