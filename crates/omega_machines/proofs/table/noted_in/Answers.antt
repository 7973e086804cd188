use Rattle.std.proofs.Common.{◌≡◌, ◌∙◌, sym, ap, slice_get, Some}
use Rattle.omega_machines.proofs.Finding.{numbers_at}
use Rattle.omega_machines.proofs.Places.{lent_at}
use Rattle.omega_machines.proofs.table.noted_in.Goals as goal

pub returns-then-state-id : goal.returns-then-state-id
returns-then-state-id c =
    let states = c.args.states.now in
    let place = c.in_ok-place.place in
    let state = c.in_ok-state.state in
    let at : slice_get states place ≡ Some state.now = sym (lent_at states place (Some state) c.in_ok-state.ensures.lookup) in
    numbers_at states place state.now at ∙ ap Some c.if-state-id.true
