use Rattle.std.proofs.Common.{◌≡◌, ℕ, ◌<◌, ◌≤◌, ◌+◌, sym, ap, subst, ◌∙◌}
use Rattle.omega_model.specs.ExtraTasks.{capacity_in_all, used_in}
use Rattle.omega_model.specs.Extras.{extras}
use Rattle.omega_machines.specs.Table.{capacity_of_all, used_by_all}
use Rattle.omega_board.specs.Board.{cell_of}
use Rattle.omega_board.proofs.Sums.{capacity_on_board, used_on_board}
use Rattle.omega_feed.proofs.ExtraIndexes.{extras_narrow, extras_room}
use Rattle.omega_feed.proofs.extras.extra_count.Goals as goal

pub returns-clause-count : goal.returns-clause-count
returns-clause-count c =
    let board = c.args.board.now in
    let used_is : c.used-used.result ≡ used_in (cell_of board) =
    c.used-used.ensures ∙ ap used_by_all c.machines-machines.ensures.table ∙ used_on_board board c.machines-machines.ensures.counted in
    let capacity_is : c.capacity-capacity.result ≡ capacity_in_all (cell_of board) =
    c.capacity-capacity.ensures ∙ ap capacity_of_all c.machines-machines.ensures.table ∙ capacity_on_board board in
    c.extras.ensures
    ∙ (λ i. extras c.args.policy c.args.activities (c.narrowed.ensures i) (c.narrowed-2.ensures i) c.args.need (used_is i) (capacity_is i))
    ∙ extras_narrow c.args.policy c.args.activities c.args.wanted c.args.running c.args.need (used_in (cell_of board)) (capacity_in_all (cell_of board)) c.ranges.activities.fits

pub returns-clause-room : goal.returns-clause-room
returns-clause-room c =
    let board = c.args.board.now in
    subst (λ (n : ℕ). 0 < n → c.args.running + n ≤ c.args.activities) (sym (returns-clause-count c))
    (extras_room c.args.policy c.args.activities c.args.wanted c.args.running c.args.need (used_in (cell_of board)) (capacity_in_all (cell_of board)))
