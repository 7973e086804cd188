use Rattle.std.proofs.Common.{◌≡◌, take}
use Rattle.omega_keep.specs.Resumed.{in_common}
use Rattle.omega_rounds.proofs.kept.in_common.Given as goal

abbrev pub invariant-loop-place : goal.invariant-loop-place
invariant-loop-place l = in_common l.fn.kept (take l.place l.fn.entries) ≡ l.place
