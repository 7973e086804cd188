use Rattle.std.proofs.Common.{◌≡◌, List}
use Rattle.std.specs.List.{fold, zip}
use Rattle.std.specs.Iterator.Adapters.{zip_first, zip_second}
use Rattle.std.specs.Slice.Iter.{iter_rest}
use Rattle.omega_model.specs.declared.cells.TaskKey.{TaskKey}
use Rattle.omega_model.specs.declared.entries.Entry.{Entry}
use Rattle.omega_model.specs.declared.rows.Row.{Row}
use Rattle.omega_model.specs.declared.rows.TraceTables.{TraceTables}
use Rattle.omega_pieces.specs.Due.{due_after, due_at, due_when}
use Rattle.omega_pieces.specs.Kept.{KeepsPieces}
use Rattle.omega_pieces.proofs.ends_due.EndsDue.claims.Given as goal

abbrev pub invariant-loop-claim : goal.invariant-loop-claim
invariant-loop-claim l =
    (trace : TraceTables) (rows : List Row) (history : List Entry) → KeepsPieces trace rows history l.pieces → (key : TaskKey)
    → fold (due_after key (due_when trace history l.time key)) (due_at l.self key) (zip (iter_rest (zip_first l.claim-iterator)) (iter_rest (zip_second l.claim-iterator)))
    ≡ fold (due_after key (due_when trace history l.time key)) (due_at l.fn.self key) (zip l.claims l.reply)
