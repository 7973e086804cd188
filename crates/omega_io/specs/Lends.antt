-- What is left of one thing for each table, once one of them was lent out to be written.
use Rattle.std.specs.Borrow.{Lends, Fml, RattleType, MutBor}
use Rattle.omega_model.specs.declared.rows.Table.{Table}
use Rattle.omega_io.specs.ByTable.{put}
use Rattle.omega_io.specs.contracts.by_table.ByTable.{the_row}
use Rattle.omega_io.specs.declared.by_table.ByTable.{ByTable}

-- the one of this table ends as it was last written, and the others as they were
abbrev pub lends_one : (T : RattleType) → MutBor (ByTable T.Denot) → Table → MutBor T.Denot → Fml
lends_one T all table one = Lends (the_row T) T all one (put all.now table)
