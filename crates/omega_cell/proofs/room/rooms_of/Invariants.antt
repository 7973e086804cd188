use Rattle.std.proofs.Common.{◌≡◌, take}
use Rattle.omega_cell.specs.Rooms.{victim_counts}
use Rattle.omega_cell.proofs.room.rooms_of.Given as goal

abbrev pub invariant-loop-claim : goal.invariant-loop-claim
invariant-loop-claim l = l.rooms.items ≡ victim_counts (take l.claim-index l.claims)
