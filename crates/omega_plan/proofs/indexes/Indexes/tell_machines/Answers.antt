use Rattle.omega_board.specs.Board.{cell_of}
use Rattle.omega_board.specs.Numbers.{is_among}
use Rattle.omega_plan.proofs.TellsAfter.{levels_near, near_told}
use Rattle.omega_plan.proofs.indexes.Indexes.tell_machines.Goals as goal

pub tell_parts-requires : goal.tell_parts-requires
tell_parts-requires c = near_told (is_among c.args.machines.now) c.args.board.now c.args.self.now c.requires.may

pub returns-clause-tell : goal.returns-clause-tell
returns-clause-tell c = record {
  free = c.tell_parts.ensures;
  levels = c.note_all.ensures (cell_of c.args.board.now) (levels_near (is_among c.args.machines.now) c.args.board.now c.args.self.now c.requires.may);
}
