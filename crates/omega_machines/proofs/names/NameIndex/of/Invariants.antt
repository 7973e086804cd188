use Rattle.std.proofs.Common.{take}
use Rattle.omega_machines.specs.Names.{IsIndexOf, names_of}
use Rattle.omega_machines.proofs.names.NameIndex.of.Given as goal

abbrev pub invariant-loop-attr : goal.invariant-loop-attr
invariant-loop-attr l = IsIndexOf l.index (names_of (take l.attr-index l.attrs))
