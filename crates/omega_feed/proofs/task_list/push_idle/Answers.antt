use Rattle.std.proofs.Common.{◌++◌, ◌∙◌, List, ap, append-nil, map, sym}
use Rattle.std.specs.List.{filter}
use Rattle.std.proofs.lemmas.List.{drop_all}
use Rattle.omega_feed.specs.Slots.{is_idle}
use Rattle.omega_feed.specs.declared.task_list.Slot.{Slot}
use Rattle.omega_feed.proofs.Slots.{idle_are}
use Rattle.omega_feed.proofs.task_list.push_idle.Goals as goal

pub returns : goal.returns
returns c =
    let running = c.args.running.now.tasks in
    let slots = c.args.slots.now in
    sym (append-nil c.loop-slot.jobs.items)
    ∙ ap (λ (rest : List Slot). c.loop-slot.jobs.items ++ map (λ (slot : Slot). slot.key.job) (filter (is_idle running) rest)) (sym (drop_all c.loop-slot.slot-index slots c.loop-slot-test.false))
    ∙ c.loop-slot.invariant
    ∙ ap (λ jobs. c.args.jobs.now.items ++ jobs) (idle_are running slots)
