use Rattle.std.proofs.Common.{◌++◌, ◌∙◌, ap, append-nil, map, sym}
use Rattle.std.specs.List.{filter_map}
use Rattle.std.proofs.lemmas.List.{drop_all, map-append}
use Rattle.omega_feed.specs.Index.{wanted_task}
use Rattle.omega_feed.specs.Slots.{entry_of}
use Rattle.omega_feed.proofs.Slots.{entries_are}
use Rattle.omega_feed.proofs.task_list.push_entries.Goals as goal

pub returns : goal.returns
returns c =
    let job = c.args.job in
    let slots = c.args.slots.now in
    let found = c.args.found.now.items in
    let all = sym (append-nil c.loop-slot.found.items)
    ∙ ap (λ rest. c.loop-slot.found.items ++ filter_map (entry_of job) rest) (sym (drop_all c.loop-slot.slot-index slots c.loop-slot-test.false))
    ∙ c.loop-slot.invariant in
    ap (map wanted_task) all ∙ map-append wanted_task found (filter_map (entry_of job) slots) ∙ ap (λ tasks. map wanted_task found ++ tasks) (entries_are job slots)
