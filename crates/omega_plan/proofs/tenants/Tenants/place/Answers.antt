use Rattle.std.proofs.Common.{◌≡◌, List, refl, ap, ap₂, ◌∙◌}
use Rattle.omega_model.specs.Cell.{task_at, with_task, without}
use Rattle.omega_model.specs.declared.cells.Task.{Task}
use Rattle.omega_plan.specs.declared.tenants.Tenants.{Tenants}
use Rattle.omega_plan.proofs.Placing.{own_absent, placed_beside}
use Rattle.omega_plan.proofs.tenants.Tenants.place.Goals as goal

pub insert_reserved-requires-clause-absent : goal.insert_reserved-requires-clause-absent
insert_reserved-requires-clause-absent c =
    let may = c.requires.may in
    let left : c.take_out.new.own.tasks ≡ without c.args.claim.now.victims c.args.self.now.own.tasks =
    c.take_out.ensures.tasks ∙ ap (λ keys. without keys c.args.self.now.own.tasks) c.as_slice.ensures in
    ap₂ (λ (ts : List Task) (t : Task). task_at ts t.key) left c.task_of.ensures
    ∙ own_absent c.args.self.now c.args.board.now.tasks c.args.claim.now may.tasks may.goes

pub returns : goal.returns
returns c = λ tasks goes.
    let next : Tenants = record { own = c.insert_reserved.new.self; whole = c.args.self.now.whole } in
    let left : c.take_out.new.own.tasks ≡ without c.args.claim.now.victims c.args.self.now.own.tasks =
    c.take_out.ensures.tasks ∙ ap (λ keys. without keys c.args.self.now.own.tasks) c.as_slice.ensures in
    placed_beside c.args.self.now c.args.board.now.tasks c.args.claim.now tasks goes next
    (c.insert_reserved.ensures.tasks ∙ ap₂ with_task c.task_of.ensures left) refl
