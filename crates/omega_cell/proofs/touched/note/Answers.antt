use Rattle.std.proofs.Common.{◌||◌, ap, sym, ◌∙◌}
use Rattle.std.specs.Option.{is_some}
use Rattle.omega_machines.specs.Table.{machines_of}
use Rattle.omega_board.specs.Numbers.{is_among}
use Rattle.omega_board.proofs.Numbers.{one_more, none_added}
use Rattle.omega_cell.proofs.Touching.{unlisted_nowhere, listed_there}
use Rattle.omega_cell.proofs.touched.note.Goals as goal

pub returns-in_ok-push : goal.returns-in_ok-push
returns-in_ok-push c = λ place.
    let places = c.args.positions.now.items in
    ap (λ ps. is_among ps place) c.in_ok-push.ensures.items ∙ one_more places c.in-Some.position place
    ∙ ap (λ b. is_among places place || b) (listed_there c.args.machine (machines_of c.args.machines.now) c.in-Some.position c.requires c.in-Some.ensures.place place)

pub returns-in_default : goal.returns-in_default
returns-in_default c = λ place. none_added c.args.positions.now.items place _
    (unlisted_nowhere c.args.machine (machines_of c.args.machines.now) (sym c.position.ensures.listed ∙ ap is_some c.in_default.is) place)
