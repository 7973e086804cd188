use Rattle.std.proofs.Common.{◌≡◌, ℕ}
use Rattle.std.specs.List.{fold, AllByRecursion as Each}
use Rattle.std.specs.Vec.Iter.{into_iter_items}
use Rattle.omega_machines.specs.Table.{machines_of, seq_at}
use Rattle.omega_model.specs.Machines.{numbers_of}
use Rattle.omega_board.specs.Putting.{with_row, seq_put, MayPutRow}
use Rattle.omega_board.proofs.board.Board.put_rows.Given as goal

abbrev pub invariant-loop-part : goal.invariant-loop-part
invariant-loop-part l = record {
  rows : Each (MayPutRow (numbers_of (machines_of l.self.table)) l.self.tasks) (into_iter_items l.part-iterator);
  machines : fold with_row (machines_of l.self.table) (into_iter_items l.part-iterator) ≡ fold with_row (machines_of l.fn.self.table) l.fn.parts;
  seqs : (id : ℕ) → fold (seq_put id) (seq_at l.self.table id) (into_iter_items l.part-iterator) ≡ fold (seq_put id) (seq_at l.fn.self.table id) l.fn.parts;
  tasks : l.self.tasks ≡ l.fn.self.tasks;
  spare : l.self.spare ≡ l.fn.self.spare;
}
