use Rattle.std.proofs.Common.{ap, ◌∙◌}
use Rattle.omega_model.specs.Machines.{is_listed}
use Rattle.omega_machines.specs.Table.{machines_of}
use Rattle.omega_board.specs.Board.{cell_of}
use Rattle.omega_board.proofs.Commits.{placed_listed}
use Rattle.omega_board.proofs.board.Board.commit.Goals as goal

pub touch_placed-requires-clause-listed : goal.touch_placed-requires-clause-listed
touch_placed-requires-clause-listed c = λ id any.
    ap (is_listed id) (c.place_all.ensures.machines ∙ ap machines_of c.in_ok-undo.ensures.table)
    ∙ placed_listed (cell_of c.args.self.now) _ id c.requires.places any
