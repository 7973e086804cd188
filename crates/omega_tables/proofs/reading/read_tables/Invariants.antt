use Rattle.std.proofs.Common.{◌≡◌, ◌<◌, ◌≤◌, ℕ, List, [], Some, None, take}
use Rattle.std.specs.Prelude.{IfSome}
use Rattle.std.specs.List.{fold}
use Rattle.omega_io.specs.Edge.{Tells}
use Rattle.omega_model.specs.Trace.{tables_in_order, place_of, with_rows, no_rows}
use Rattle.omega_model.specs.Refusals.{refusal_among}
use Rattle.omega_model.specs.declared.rows.Table.{Table}
use Rattle.omega_tables.specs.Taking.{Gathers}
use Rattle.omega_tables.proofs.reading.read_tables.Given as goal

abbrev pub invariant-loop-table : goal.invariant-loop-table
invariant-loop-table g l = record {
  none : (bytes : Table → List ℕ) → Tells (g.T.Tables.rest l.fn.tables) bytes → refusal_among (take l.table-index tables_in_order) bytes ≡ None;
  trace : (bytes : Table → List ℕ) → Tells (g.T.Tables.rest l.fn.tables) bytes
      → Gathers l.gathered (fold (λ trace table. with_rows table (bytes table) trace) no_rows (take l.table-index tables_in_order));
  done : (t : Table) → place_of t < l.table-index → IfSome (g.T.Tables.rest l.fn.tables t) (λ bytes. g.T.Tables.rest l.tables t ≡ Some []);
  left : (t : Table) → l.table-index ≤ place_of t → g.T.Tables.rest l.tables t ≡ g.T.Tables.rest l.fn.tables t;
  same : (t : Table) → l.table-index ≤ place_of t → g.T.Tables.faults l.tables t ≡ g.T.Tables.faults l.fn.tables t;
  later : (t : Table) → g.T.Tables.faults l.fn.tables t ≤ g.T.Tables.faults l.tables t;
  folder : g.T.Tables.entered l.tables ≡ g.T.Tables.entered l.fn.tables;
}
