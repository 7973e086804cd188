use Rattle.std.proofs.Common.{◌∙◌, ap, slice_get, position, ◌==◌}
use Rattle.omega_machines.specs.Table.{machines_of}
use Rattle.omega_machines.proofs.Places.{lent_at, state_found}
use Rattle.omega_machines.proofs.table.MachineTable.state.Goals as goal

pub find-requires : goal.find-requires
find-requires c = rw c.deref.ensures.value c.self.invariant.kept.placed

pub returns-in_err-place-clause-found : goal.returns-in_err-place-clause-found
returns-in_err-place-clause-found c =
    rw c.from_residual.ensures
    (state_found c.self.inside.states.items c.args.self.now c.args.id _ c.self.view_is
    (c.in_err-place.ensures ∙ ap (λ t. position (λ machine. machine.id == c.args.id) (machines_of t)) (c.deref.ensures.value ∙ c.self.view_is)))

pub returns-clause-found : goal.returns-clause-found
returns-clause-found c =
    lent_at c.deref-3.result.now c.in_ok-place.place c.get.result c.get.ensures.lookup
    ∙ ap (λ t. slice_get t c.in_ok-place.place) c.deref-3.ensures.value
    ∙ state_found c.self.inside.states.items c.args.self.now c.args.id _ c.self.view_is
    (c.in_ok-place.ensures ∙ ap (λ t. position (λ machine. machine.id == c.args.id) (machines_of t)) (c.deref.ensures.value ∙ c.self.view_is))
