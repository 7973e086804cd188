use Rattle.std.proofs.Common.{◌≡◌, take}
use Rattle.omega_keep.proofs.taking.are_same.Given as goal

abbrev pub invariant-loop-i : goal.invariant-loop-i
invariant-loop-i l = take l.i l.due ≡ take l.i l.reply
