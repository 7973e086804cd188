use Rattle.std.proofs.Common.{◌∙◌, List, ap, subst, sym}
use Rattle.std.specs.List.{list_any}
use Rattle.omega_model.specs.Wanted.{is_named}
use Rattle.omega_feed.specs.Slots.{GetsSlotAt, HasSlotAt}
use Rattle.omega_feed.specs.declared.task_list.Slot.{Slot}
use Rattle.omega_feed.proofs.Slots.{found_named, none_named}
use Rattle.omega_feed.proofs.task_list.TaskList.contains.Goals as goal

pub returns-in-Ok : goal.returns-in-Ok
returns-in-Ok c =
    let key = c.args.key in
    let slots = c.self.inside.slots.items in
    let at : HasSlotAt slots key c.in-Ok.place = subst (λ (ss : List Slot). HasSlotAt ss key c.in-Ok.place) c.deref.ensures.value c.in-Ok.ensures in
    c.is_some.ensures
    ∙ found_named slots key c.in-Ok.place c.self.invariant.rise at c.index.result.now c.index.ensures
    ∙ ap (list_any (is_named key)) c.self.view_is

pub returns-in-Err : goal.returns-in-Err
returns-in-Err c =
    let key = c.args.key in
    let slots = c.self.inside.slots.items in
    let gets : GetsSlotAt slots key c.in-Err._gap = subst (λ (ss : List Slot). GetsSlotAt ss key c.in-Err._gap) c.deref.ensures.value c.in-Err.ensures in
    sym (none_named slots key c.in-Err._gap gets) ∙ ap (list_any (is_named key)) c.self.view_is
