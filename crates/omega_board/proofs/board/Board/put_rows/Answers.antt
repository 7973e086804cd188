use Rattle.std.proofs.Common.{◌≡◌, ◌∷◌, sym, ap, ◌∙◌, rules}
use Rattle.std.specs.List.{fold}
use Rattle.std.specs.Vec.Iter.{into_iter_items}
use Rattle.omega_machines.specs.Table.{machines_of, seq_at}
use Rattle.omega_model.specs.declared.delta.Part.{Part}
use Rattle.omega_board.specs.Putting.{with_row, seq_put}
use Rattle.omega_board.proofs.Rows.{rows_next}
use Rattle.omega_board.proofs.board.Board.put_rows.Goals as goal

pub loop-part-preserved : goal.loop-part-preserved
loop-part-preserved c =
    let part : Part = c.in-Some.part in
    let rest = into_iter_items c.next.new.self in
    let items : into_iter_items c.loop-part.part-iterator ≡ part ∷ rest = search rules in
    let so = c.loop-part.invariant in
    record {
      rows = rows_next c.loop-part.self c.put_row.new.self part (into_iter_items c.loop-part.part-iterator) rest items c.put_row.ensures.machines c.put_row.ensures.tasks so.rows;
      machines = ap (λ ms. fold with_row ms rest) c.put_row.ensures.machines ∙ ap (fold with_row (machines_of c.loop-part.self.table)) (sym items) ∙ so.machines;
      seqs = λ id. ap (λ n. fold (seq_put id) n rest) (c.put_row.ensures.seqs id) ∙ ap (fold (seq_put id) (seq_at c.loop-part.self.table id)) (sym items) ∙ so.seqs id;
      tasks = c.put_row.ensures.tasks ∙ so.tasks;
      spare = c.put_row.ensures.spare ∙ so.spare;
    }
