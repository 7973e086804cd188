use Rattle.std.proofs.Common.{List, sym, ap, subst, ◌∙◌}
use Rattle.omega_model.specs.declared.cells.Task.{Task}
use Rattle.omega_plan.specs.Tenants.{MayPutAll, put_all}
use Rattle.omega_plan.proofs.Listed.{may_put_first, put_first}
use Rattle.omega_plan.proofs.placed.planted.Goals as goal

pub put_all-requires-clause-may : goal.put_all-requires-clause-may
put_all-requires-clause-may c =
    subst (λ (ts : List Task). MayPutAll ts c.args.tasks.now) (sym (c.reserve.ensures.tasks ∙ c.in_trees-placed.ensures)) (may_put_first c.args.tasks.now c.requires)

pub returns : goal.returns
returns c =
    c.put_all.ensures
    ∙ ap (λ (ts : List Task). put_all ts c.args.tasks.now) (c.reserve.ensures.tasks ∙ c.in_trees-placed.ensures)
    ∙ put_first c.args.tasks.now c.requires
