-- What the lock of a shared cell holds.
use Rattle.std.specs.Prelude.{List}
use Rattle.std.specs.Arc.{arc_value}
use Rattle.omega_model.specs.declared.entries.Entry.{Entry}
use Rattle.omega_shared.specs.declared.held.Held.{Held}
use Rattle.omega_shared.specs.declared.held.Held.TheVariants.{Own, Lent}

-- the history of a cell that is held, lent or not
abbrev pub held_history : Held → List Entry
held_history (Own cell) = cell.history
held_history (Lent cell) = (arc_value cell).history
