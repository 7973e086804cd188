use Rattle.std.proofs.Common.{◌≡◌, List, refl, sym, subst, ◌∙◌}
use Rattle.std.specs.List.{insert}
use Rattle.omega_model.specs.declared.cells.Task.{Task}
use Rattle.omega_running.specs.declared.orders.Order.TheVariants.{ByKey}
use Rattle.omega_running.specs.Order.{IsInOrder, put_in}
use Rattle.omega_running.proofs.Kept.{put_is, put_rises}
use Rattle.omega_plan.proofs.placed.put_in.Goals as goal

pub returns-clause-items : goal.returns-clause-items
returns-clause-items c =
    let tasks = c.args.list.now.items in
    let task = c.args.task in
    let placed : put_in ByKey task tasks ≡ insert tasks c.place_of-place.result task =
    subst (λ (ys : List Task). put_in ByKey task ys ≡ insert ys c.place_of-place.result task) c.as_slice.ensures.value (c.place_of-place.ensures.place task refl) in
    c.in-Ok.ensures.items ∙ sym placed ∙ put_is task tasks c.requires.absent

pub returns-clause-rise : goal.returns-clause-rise
returns-clause-rise c =
    let tasks = c.args.list.now.items in
    let task = c.args.task in
    let placed : put_in ByKey task tasks ≡ insert tasks c.place_of-place.result task =
    subst (λ (ys : List Task). put_in ByKey task ys ≡ insert ys c.place_of-place.result task) c.as_slice.ensures.value (c.place_of-place.ensures.place task refl) in
    subst (IsInOrder ByKey) (sym (c.in-Ok.ensures.items ∙ sym placed)) (put_rises task tasks c.requires.absent c.requires.rise)
