use Rattle.std.proofs.Common.{ap, sym, ◌∙◌}
use Rattle.omega_feed.specs.Events.{task_rows}
use Rattle.omega_feed.proofs.Merging.{merged_tasks}
use Rattle.omega_feed.proofs.events.Events.tasks.Goals as goal

pub returns : goal.returns
returns c =
    c.deref.ensures.value
    ∙ sym (merged_tasks c.self.inside.machines.items c.self.inside.attrs.items c.self.inside.tasks.items c.self.invariant.tasks_rise)
    ∙ ap task_rows c.self.view_is
