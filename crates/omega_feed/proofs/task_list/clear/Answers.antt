use Rattle.std.proofs.Common.{Option, List, ap, arith, set, subst, ◌-◌, ◌/◌, ◌∙◌}
use Rattle.std.specs.Prelude.{is_some}
use Rattle.omega_model.specs.declared.cells.Spec.{Spec}
use Rattle.omega_feed.specs.Slots.{GetsSlotAt, HasSlotAt, tasks_in}
use Rattle.omega_feed.specs.declared.task_list.Slot.{Slot}
use Rattle.omega_feed.proofs.Blocks.{bit_is, count_within, counted_again, counts_reach, one_if, set_counted}
use Rattle.omega_feed.proofs.Slots.{none_cleared, set_cleared, set_rise, set_within, slot_of}
use Rattle.omega_feed.proofs.task_list.clear.Goals as goal

pub returns-in_default-clause-tasks : goal.returns-in_default-clause-tasks
returns-in_default-clause-tasks c =
    let slots = c.args.slots.now.items in
    let gets : GetsSlotAt slots c.args.key c.in_default.field-0 = subst (λ (ss : List Slot). GetsSlotAt ss c.args.key c.in_default.field-0) c.deref.ensures.value c.in_default.ensures in
    none_cleared slots c.args.key c.in_default.field-0 gets

pub index_mut-requires : goal.index_mut-requires
index_mut-requires c =
    let slots = c.args.slots.now.items in
    let place = c.in-Ok.place in
    let within = set_within slots c.args.key place c.requires.rise (subst (λ (ss : List Slot). HasSlotAt ss c.args.key place) c.deref.ensures.value c.in-Ok.ensures) in
    omega (arith, within)

pub index_mut-requires-2 : goal.index_mut-requires-2
index_mut-requires-2 c =
    let slots = c.args.slots.now.items in
    let place = c.in-Ok.place in
    let within = set_within slots c.args.key place c.requires.rise (subst (λ (ss : List Slot). HasSlotAt ss c.args.key place) c.deref.ensures.value c.in-Ok.ensures) in
    let reach = counts_reach c.args.counts.now.items slots c.requires.counted in
    omega (arith, within, reach)

pub overflow_sub-index_mut : goal.overflow_sub-index_mut
overflow_sub-index_mut c =
    let slots = c.args.slots.now.items in
    let place = c.in-Ok.place in
    let slot = c.index_mut.result.now in
    let at : HasSlotAt slots c.args.key place = subst (λ (ss : List Slot). HasSlotAt ss c.args.key place) c.deref.ensures.value c.in-Ok.ensures in
    let within = set_within slots c.args.key place c.requires.rise at in
    let was = ap one_if (c.is_some-ended.ensures ∙ ap is_some c.take.ensures.value) in
    let bounds = count_within c.args.counts.now.items slots (place / 64) place c.index_mut-2.result.now slot (omega arith) (omega arith) within c.index_mut-2.ensures.value c.index_mut.ensures.value c.requires.counted in
    let enough = bounds.0 in
    let bit = c.from.ensures ∙ bit_is c.is_some-ended.result in
    omega (arith, enough, was, bit)

pub returns-clause-rise : goal.returns-clause-rise
returns-clause-rise c =
    let slots = c.args.slots.now.items in
    let place = c.in-Ok.place in
    let slot = c.index_mut.result.now in
    let at : HasSlotAt slots c.args.key place = subst (λ (ss : List Slot). HasSlotAt ss c.args.key place) c.deref.ensures.value c.in-Ok.ensures in
    set_rise slots c.args.key place c.requires.rise at slot c.index_mut.ensures.value c.take.new.self

pub returns-clause-tasks : goal.returns-clause-tasks
returns-clause-tasks c =
    let slots = c.args.slots.now.items in
    let place = c.in-Ok.place in
    let slot = c.index_mut.result.now in
    let at : HasSlotAt slots c.args.key place = subst (λ (ss : List Slot). HasSlotAt ss c.args.key place) c.deref.ensures.value c.in-Ok.ensures in
    ap (λ (spec : Option Spec). tasks_in (set slots place (slot_of slot.key spec))) c.take.ensures.after
    ∙ set_cleared slots c.args.key place c.requires.rise at slot c.index_mut.ensures.value

pub returns-clause-counted : goal.returns-clause-counted
returns-clause-counted c =
    let slots = c.args.slots.now.items in
    let place = c.in-Ok.place in
    let slot = c.index_mut.result.now in
    let at : HasSlotAt slots c.args.key place = subst (λ (ss : List Slot). HasSlotAt ss c.args.key place) c.deref.ensures.value c.in-Ok.ensures in
    let within = set_within slots c.args.key place c.requires.rise at in
    let was = ap one_if (c.is_some-ended.ensures ∙ ap is_some c.take.ensures.value) in
    let is = ap (λ (spec : Option Spec). one_if (is_some spec)) c.take.ensures.after in
    let bounds = count_within c.args.counts.now.items slots (place / 64) place c.index_mut-2.result.now slot (omega arith) (omega arith) within c.index_mut-2.ensures.value c.index_mut.ensures.value c.requires.counted in
    let enough = bounds.0 in
    let bit = c.from.ensures ∙ bit_is c.is_some-ended.result in
    let count = c.index_mut-2.result.now in
    counted_again c.args.counts.now.items slots (place / 64) place count (count - c.from.result) slot (slot_of slot.key c.take.new.self) (omega arith) (omega arith) within
    c.index_mut-2.ensures.value c.index_mut.ensures.value (omega (arith, enough, was, bit, is)) c.requires.counted

pub returns-clause-count : goal.returns-clause-count
returns-clause-count c =
    let slots = c.args.slots.now.items in
    let place = c.in-Ok.place in
    let slot = c.index_mut.result.now in
    let at : HasSlotAt slots c.args.key place = subst (λ (ss : List Slot). HasSlotAt ss c.args.key place) c.deref.ensures.value c.in-Ok.ensures in
    let within = set_within slots c.args.key place c.requires.rise at in
    let was = ap one_if (c.is_some-ended.ensures ∙ ap is_some c.take.ensures.value) in
    let is = ap (λ (spec : Option Spec). one_if (is_some spec)) c.take.ensures.after in
    let own = ap (λ (s : Slot). one_if (is_some s.spec)) c.index_mut.ensures.value in
    let changed = set_counted slots place (slot_of slot.key c.take.new.self) slot within in
    omega (arith, was, is, own, changed)
