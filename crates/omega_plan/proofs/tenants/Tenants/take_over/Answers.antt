use Rattle.std.proofs.Common.{◌≡◌, ap₂, sym, ◌∙◌}
use Rattle.std.specs.List.{filter}
use Rattle.omega_model.specs.Cell.{is_on}
use Rattle.omega_plan.specs.Tenants.{put_all}
use Rattle.omega_plan.specs.declared.tenants.Tenants.{Tenants}
use Rattle.omega_plan.proofs.Placing.{is_whole_now, taken_over}
use Rattle.omega_plan.proofs.tenants.Tenants.take_over.Goals as goal

pub returns-clause-kept : goal.returns-clause-kept
returns-clause-kept c = λ tasks beside.
    let next : Tenants = record { own = c.put_all.new.placed; whole = c.insert.new.self } in
    let put : c.put_all.new.placed.tasks ≡ put_all c.args.self.now.own.tasks (filter (is_on c.args.machine) c.args.board.now.tasks) =
    c.put_all.ensures ∙ ap₂ put_all (c.reserve.ensures.tasks ∙ c.plant.ensures) (c.as_slice.ensures ∙ c.in_ok-tasks.ensures) in
    taken_over c.args.self.now next c.args.board.now.tasks c.args.machine c.requires (sym c.is_whole.ensures ∙ c.if-is_whole.false) put c.in_ok-insert.ensures.updates tasks beside

pub returns-clause-whole : goal.returns-clause-whole
returns-clause-whole c =
    let next : Tenants = record { own = c.put_all.new.placed; whole = c.insert.new.self } in
    let put : c.put_all.new.placed.tasks ≡ put_all c.args.self.now.own.tasks (filter (is_on c.args.machine) c.args.board.now.tasks) =
    c.put_all.ensures ∙ ap₂ put_all (c.reserve.ensures.tasks ∙ c.plant.ensures) (c.as_slice.ensures ∙ c.in_ok-tasks.ensures) in
    is_whole_now c.args.self.now next c.args.board.now.tasks c.args.machine c.requires (sym c.is_whole.ensures ∙ c.if-is_whole.false) put c.in_ok-insert.ensures.updates
