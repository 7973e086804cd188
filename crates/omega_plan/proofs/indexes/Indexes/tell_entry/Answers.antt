use Rattle.omega_model.specs.Touches.{is_touched_by}
use Rattle.omega_board.specs.Board.{cell_of}
use Rattle.omega_plan.proofs.TellsAfter.{levels_near, near_told}
use Rattle.omega_plan.proofs.indexes.Indexes.tell_entry.Goals as goal

pub tell_entry-requires : goal.tell_entry-requires
tell_entry-requires c = near_told (is_touched_by c.args.entry.now) c.args.board.now c.args.self.now c.requires.may

pub returns-clause-tell : goal.returns-clause-tell
returns-clause-tell c = record {
  free = c.tell_entry.ensures;
  levels = c.note_entry.ensures (cell_of c.args.board.now) (levels_near (is_touched_by c.args.entry.now) c.args.board.now c.args.self.now c.requires.may);
}
