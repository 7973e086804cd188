use Rattle.std.proofs.Common.{◌≡◌, refl, ◌∙◌}
use Rattle.omega_feed.proofs.Merging.{merged_same}
use Rattle.omega_feed.proofs.events.Events.take.Goals as goal

pub returns-clause-events : goal.returns-clause-events
returns-clause-events c =
    let machines : c.into_items.result.items ≡ c.args.tables.now.machines = c.into_items.ensures ∙ c.replace-machines.ensures.value in
    let attrs : c.into_items-2.result.items ≡ c.args.tables.now.attrs = c.into_items-2.ensures ∙ c.replace-attrs.ensures.value in
    let tasks : c.into_items-3.result.items ≡ c.args.tables.now.tasks = c.into_items-3.ensures ∙ c.replace-tasks.ensures.value in
    merged_same c.in_ok-in_order.field-0.items c.into_items.result.items c.in_ok-in_order-2.field-0.items c.into_items-2.result.items c.in_ok-in_order-3.field-0.items c.into_items-3.result.items
    c.in_ok-in_order.ensures.same c.in_ok-in_order-2.ensures.same c.in_ok-in_order-3.ensures.same
    ∙ rw (machines, attrs, tasks) refl
