use Rattle.std.proofs.Common.{◌++◌}
use Rattle.omega_model.proofs.Lists.{each_append}
use Rattle.omega_free.specs.KeptEnds.{IsLowRow}
use Rattle.omega_free.proofs.OwnOpened.{ends_opened, pieces_opened}
use Rattle.omega_free.proofs.OwnPasts.{tells_opened}
use Rattle.omega_free.proofs.own_ends.OwnEnds.open.Goals as goal

pub returns-clause-past : goal.returns-clause-past
returns-clause-past c settings trace past times keeps tells =
    tells_opened settings trace past c.args.round c.in_ok-rows.rows c.args.cell.now.history c.open_round.new.cell.history c.args.demand.now.wanted
    c.reopen_since.new.demand.wanted c.open_round.new.demand.wanted tells c.in_ok-reopen_since.ensures.wanted
    (c.in_ok-rows.ensures.counting trace past.rows past.history keeps.pieces) c.in_ok-open_round.ensures.history c.in_ok-open_round.ensures.wanted

pub returns-clause-kept : goal.returns-clause-kept
returns-clause-kept c settings trace past times keeps tells = record {
  low = each_append IsLowRow past.rows c.args.round.rows keeps.low c.in_ok-rows.ensures.low;
  pieces = pieces_opened trace past.rows past.history c.args.round (past.rows ++ c.args.round.rows) c.those_that_count.new.pieces
      (c.in_ok-rows.ensures.kept trace past.rows past.history keeps.pieces);
  due = ends_opened trace past.rows past.history c.args.round times c.args.self.now.due keeps.due;
}
