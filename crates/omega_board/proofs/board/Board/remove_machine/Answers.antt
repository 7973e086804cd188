use Rattle.std.proofs.Common.{ap, ◌∙◌}
use Rattle.std.specs.List.{filter}
use Rattle.omega_model.specs.Cell.{is_on, keys_of, without}
use Rattle.omega_model.specs.Machines.{change, removed}
use Rattle.omega_model.specs.State.{ranked_on}
use Rattle.omega_board.specs.Board.{BoardState}
use Rattle.omega_board.proofs.Commits.{cell_is}
use Rattle.omega_board.proofs.Ranks.{none-without}
use Rattle.omega_board.proofs.board.Board.remove_machine.Goals as goal

pub take_down-requires-clause-empty : goal.take_down-requires-clause-empty
take_down-requires-clause-empty c =
    let names = c.in_ok-gone.ensures ∙ ap (λ (b : BoardState). keys_of (ranked_on c.args.machine b.tasks)) c.self.view_is in
    ap (filter (is_on c.args.machine)) (c.in_ok-displace.ensures.tasks ∙ ap (λ keys. without keys c.args.self.now.tasks) (c.as_slice.ensures ∙ names))
    ∙ none-without c.args.self.now.tasks c.args.machine

pub returns-clause-cell : goal.returns-clause-cell
returns-clause-cell c =
    let names = c.in_ok-gone.ensures ∙ ap (λ (b : BoardState). keys_of (ranked_on c.args.machine b.tasks)) c.self.view_is in
    cell_is _ _
    (c.take_down.ensures.machines ∙ ap (change c.args.machine removed) c.in_ok-displace.ensures.machines)
    (c.take_down.ensures.tasks ∙ c.in_ok-displace.ensures.tasks ∙ ap (λ keys. without keys c.args.self.now.tasks) (c.as_slice.ensures ∙ names))
