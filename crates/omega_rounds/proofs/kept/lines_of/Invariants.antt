use Rattle.std.proofs.Common.{◌≡◌, take}
use Rattle.omega_keep.specs.Resumed.{lines_of}
use Rattle.omega_rounds.proofs.kept.lines_of.Given as goal

abbrev pub invariant-loop-entry : goal.invariant-loop-entry
invariant-loop-entry l = l.lines ≡ lines_of (take l.entry-index l.entries)
