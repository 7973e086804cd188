use Rattle.std.proofs.Common.{ap, ap₂, ◌∙◌}
use Rattle.omega_machines.specs.Table.{capacity_of_all, used_by_all}
use Rattle.omega_board.proofs.Sums.{capacity_on_board, used_on_board}
use Rattle.omega_model.specs.declared.cells.Need.{Need}
use Rattle.omega_cell.specs.declared.effects.Usage.{Usage}
use Rattle.omega_cell.proofs.effects.Usage.of.Goals as goal

pub returns : goal.returns
returns c =
    let board = c.args.board.now in
    ap₂ (λ (used capacity : Need). let usage : Usage = record { used = used; capacity = capacity } in usage)
    (c.used.ensures ∙ ap used_by_all c.machines-machines.ensures.table ∙ used_on_board board c.machines-machines.ensures.counted)
    (c.capacity.ensures ∙ ap capacity_of_all c.machines-machines.ensures.table ∙ capacity_on_board board)
