use Rattle.std.proofs.Common.{Option, ap, arith, set, ◌+◌, ◌/◌, ◌∙◌, sym}
use Rattle.std.specs.Prelude.{is_some}
use Rattle.omega_model.specs.declared.cells.Spec.{Spec}
use Rattle.omega_feed.specs.Slots.{tasks_in}
use Rattle.omega_feed.specs.declared.task_list.Slot.{Slot}
use Rattle.omega_feed.proofs.Blocks.{bit_is, count_within, counted_again, counts_reach, one_if, one_of, set_counted}
use Rattle.omega_feed.proofs.Slots.{set_filled, set_rise, set_within, slot_of}
use Rattle.omega_feed.proofs.task_list.fill.Goals as goal

pub index_mut-requires-2 : goal.index_mut-requires-2
index_mut-requires-2 c =
    let slots = c.args.slots.now.items in
    let within = set_within slots c.args.key c.args.place c.requires.rise c.requires.place in
    let reach = counts_reach c.args.counts.now.items slots c.requires.counted in
    omega (arith, within, reach)

pub overflow_add-index_mut : goal.overflow_add-index_mut
overflow_add-index_mut c =
    let slots = c.args.slots.now.items in
    let place = c.args.place in
    let slot = c.index_mut.result.now in
    let within = set_within slots c.args.key place c.requires.rise c.requires.place in
    let bounds = count_within c.args.counts.now.items slots (place / 64) place c.index_mut-2.result.now slot (omega arith) (omega arith) within c.index_mut-2.ensures.value c.index_mut.ensures.value c.requires.counted in
    let few = bounds.1 in
    let was = one_of (is_some slot.spec) c.is_none-added.result (sym (ap is_some c.replace.ensures.value) ∙ c.is_none-added.ensures) in
    let bit = c.from.ensures ∙ bit_is c.is_none-added.result in
    omega (arith, few, was, bit)

pub returns-clause-rise : goal.returns-clause-rise
returns-clause-rise c = set_rise c.args.slots.now.items c.args.key c.args.place c.requires.rise c.requires.place c.index_mut.result.now c.index_mut.ensures.value c.replace.new.self

pub returns-clause-tasks : goal.returns-clause-tasks
returns-clause-tasks c =
    let slots = c.args.slots.now.items in
    let slot = c.index_mut.result.now in
    ap (λ (spec : Option Spec). tasks_in (set slots c.args.place (slot_of slot.key spec))) c.replace.ensures.after
    ∙ set_filled slots c.args.key c.args.place c.requires.rise c.requires.place slot c.index_mut.ensures.value c.args.spec

pub returns-clause-counted : goal.returns-clause-counted
returns-clause-counted c =
    let slots = c.args.slots.now.items in
    let place = c.args.place in
    let slot = c.index_mut.result.now in
    let count = c.index_mut-2.result.now in
    let within = set_within slots c.args.key place c.requires.rise c.requires.place in
    let was = one_of (is_some slot.spec) c.is_none-added.result (sym (ap is_some c.replace.ensures.value) ∙ c.is_none-added.ensures) in
    let bit = c.from.ensures ∙ bit_is c.is_none-added.result in
    let is = ap (λ (spec : Option Spec). one_if (is_some spec)) c.replace.ensures.after in
    counted_again c.args.counts.now.items slots (place / 64) place count (count + c.from.result) slot (slot_of slot.key c.replace.new.self) (omega arith) (omega arith) within
    c.index_mut-2.ensures.value c.index_mut.ensures.value (omega (arith, was, bit, is)) c.requires.counted

pub returns-clause-count : goal.returns-clause-count
returns-clause-count c =
    let slots = c.args.slots.now.items in
    let place = c.args.place in
    let slot = c.index_mut.result.now in
    let within = set_within slots c.args.key place c.requires.rise c.requires.place in
    let was = one_of (is_some slot.spec) c.is_none-added.result (sym (ap is_some c.replace.ensures.value) ∙ c.is_none-added.ensures) in
    let is = ap (λ (spec : Option Spec). one_if (is_some spec)) c.replace.ensures.after in
    let own = ap (λ (s : Slot). one_if (is_some s.spec)) c.index_mut.ensures.value in
    let changed = set_counted slots place (slot_of slot.key c.replace.new.self) slot within in
    omega (arith, was, is, own, changed)
