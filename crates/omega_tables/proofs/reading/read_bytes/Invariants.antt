use Rattle.std.proofs.Common.{◌≡◌, ◌≢◌, ◌-◌, ◌≤◌, length}
use Rattle.omega_io.specs.Edge.{HandsOver}
use Rattle.omega_model.specs.declared.rows.Table.{Table}
use Rattle.omega_tables.proofs.reading.read_bytes.Given as goal

abbrev pub invariant-loop-piece : goal.invariant-loop-piece
invariant-loop-piece g l = record {
  taken : HandsOver l.bytes.items (g.T.Tables.rest l.fn.tables l.table) (g.T.Tables.rest l.tables l.table);
  later : g.T.Tables.faults l.fn.tables l.table ≤ g.T.Tables.faults l.tables l.table;
  other_rests : (t : Table) → t ≢ l.table → g.T.Tables.rest l.tables t ≡ g.T.Tables.rest l.fn.tables t;
  other_counts : (t : Table) → t ≢ l.table → g.T.Tables.faults l.tables t ≡ g.T.Tables.faults l.fn.tables t;
  folder : g.T.Tables.entered l.tables ≡ g.T.Tables.entered l.fn.tables;
}

abbrev pub decreases-loop-piece : goal.decreases-loop-piece
decreases-loop-piece g l = 268435457 - length l.bytes.items
