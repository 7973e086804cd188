use Rattle.std.proofs.Common.{◌∙◌, List, ap, subst, sym}
use Rattle.omega_feed.specs.Slots.{HasSlotAt, SlotsRise, tasks_in}
use Rattle.omega_feed.specs.declared.task_list.Slot.{Slot}
use Rattle.omega_feed.proofs.Slots.{put_rise, put_same, put_there}
use Rattle.omega_feed.proofs.task_list.put_slot.Goals as goal

pub returns-clause-rise : goal.returns-clause-rise
returns-clause-rise c = subst SlotsRise (sym c.in_ok-insert.ensures.items) (put_rise c.args.slots.now.items c.args.key c.args.place c.requires.rise c.requires.gets)

pub returns-clause-same : goal.returns-clause-same
returns-clause-same c = ap tasks_in c.in_ok-insert.ensures.items ∙ put_same c.args.slots.now.items c.args.key c.args.place

pub returns-clause-place : goal.returns-clause-place
returns-clause-place c =
    subst (λ (ss : List Slot). HasSlotAt ss c.args.key c.args.place) (sym c.in_ok-insert.ensures.items)
    (put_there c.args.slots.now.items c.args.key c.args.place c.requires.gets.within)
