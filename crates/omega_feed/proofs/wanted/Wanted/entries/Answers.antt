use Rattle.std.proofs.Common.{◌∙◌}
use Rattle.omega_board.specs.Board.{cell_of}
use Rattle.omega_model.specs.Cell.{Cell}
use Rattle.omega_model.specs.RowEntries.{row_entries}
use Rattle.omega_model.proofs.Answering.{if_ok_weaker}
use Rattle.omega_feed.proofs.wanted.Wanted.entries.Goals as goal

pub returns-clause-entries : goal.returns-clause-entries
returns-clause-entries c =
    let cell : Cell = cell_of c.args.board.now in
    if_ok_weaker _ _ c.entries_of.result
    (λ entries is.
    is cell.machines
    ∙ (λ i. row_entries (c.self.view_is i).disks (record { machines = cell.machines; tasks = c.running.ensures.tasks i }) (c.self.view_is i).tasks c.args.row))
    c.entries_of.ensures.entries
