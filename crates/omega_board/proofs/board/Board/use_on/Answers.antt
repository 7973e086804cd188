use Rattle.std.proofs.Common.{sym, ap, ◌∙◌}
use Rattle.omega_model.specs.Cell.{use_on}
use Rattle.omega_machines.specs.Table.{free_at}
use Rattle.omega_board.specs.Board.{BoardState}
use Rattle.omega_board.proofs.Boards.{at_now}
use Rattle.omega_board.proofs.Parts.{unused_down, unlisted_free, used_found, found_there}
use Rattle.omega_board.proofs.board.Board.use_on.Goals as goal

pub returns-in_default : goal.returns-in_default
returns-in_default c = absurd (unlisted_free c.self.inside.table c.args.machine c.in_default.field-0-0 (sym c.in_default.ensures'.listed) c.in_default.ensures.free)

pub returns-in_default-2 : goal.returns-in_default-2
returns-in_default-2 c =
    unused_down c.args.self.now (at_now _ _ c.self.view_is c.self.invariant) c.args.machine
    (ap (λ (board : BoardState). free_at board.table c.args.machine) (sym c.self.view_is) ∙ sym c.free.ensures.free ∙ c.in_default.is-0)

pub returns-in-Some : goal.returns-in-Some
returns-in-Some c =
    c.minus.ensures
    ∙ used_found (record { table = c.self.inside.table; tasks = c.self.inside.running.tasks; spare = 0 }) c.self.invariant c.args.machine c.in-Some-Some.place c.in-Some-Some.free c.in-Some.machine.now c.in-Some-Some.ensures.free c.in-Some-Some.ensures'.place c.in-Some.ensures
    ∙ ap (λ (board : BoardState). use_on board.tasks c.args.machine) c.self.view_is

pub returns-in-None : goal.returns-in-None
returns-in-None c = absurd (found_there c.self.inside.table c.args.machine c.in-Some-Some.place c.in-Some-Some.free c.in-Some-Some.ensures.free c.in-Some-Some.ensures'.place c.in-None.ensures)
