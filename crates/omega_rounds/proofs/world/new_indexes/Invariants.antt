use Rattle.std.proofs.Common.{List}
use Rattle.omega_model.specs.declared.entries.Entry.{Entry}
use Rattle.omega_rounds.specs.Keeping.{AreIndexesFor}
use Rattle.omega_rounds.proofs.world.new_indexes.Given as goal

abbrev pub invariant-loop : goal.invariant-loop
invariant-loop l = (history : List Entry) → AreIndexesFor l.counter history l.all.items
