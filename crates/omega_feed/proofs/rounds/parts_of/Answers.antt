use Rattle.std.proofs.Common.{◌≡◌, ◌+◌, ◌++◌, ◌∷◌, [], List, append-nil, ap, length, map, refl, subst, sym, ◌∙◌}
use Rattle.std.specs.List.{AllByRecursion as Each}
use Rattle.omega_model.proofs.Lists.{each_append}
use Rattle.omega_model.specs.declared.rows.Round.{Round}
use Rattle.omega_model.specs.declared.rows.Row.{Row}
use Rattle.omega_feed.specs.Events.{Rise, merged}
use Rattle.omega_feed.specs.Rounds.{HavePart, gathered, part_round}
use Rattle.omega_feed.specs.declared.rounds.RoundPart.{RoundPart}
use Rattle.omega_feed.proofs.Merging.{attr_time, machine_time, task_time}
use Rattle.omega_feed.proofs.Parting.{AreCut, next_fewer, next_is, next_piece, none_left, parts_push, rise_back}
use Rattle.omega_feed.proofs.rounds.parts_of.Goals as goal

pub split_round-requires-clause-reached : goal.split_round-requires-clause-reached
split_round-requires-clause-reached c =
    let left = c.loop-number in
    (next_is c.args.window left.machines.now left.attrs.now left.tasks.now c.in-Some.number c.requires.window left.invariant.order (sym c.next_number.ensures ∙ c.in-Some.is)).machines

pub split_round-requires-in-Some-clause-reached : goal.split_round-requires-in-Some-clause-reached
split_round-requires-in-Some-clause-reached c =
    let left = c.loop-number in
    (next_is c.args.window left.machines.now left.attrs.now left.tasks.now c.in-Some.number c.requires.window left.invariant.order (sym c.next_number.ensures ∙ c.in-Some.is)).attrs

pub split_round-requires-in-Some-2-clause-reached : goal.split_round-requires-in-Some-2-clause-reached
split_round-requires-in-Some-2-clause-reached c =
    let left = c.loop-number in
    (next_is c.args.window left.machines.now left.attrs.now left.tasks.now c.in-Some.number c.requires.window left.invariant.order (sym c.next_number.ensures ∙ c.in-Some.is)).tasks

pub loop-number-smaller : goal.loop-number-smaller
loop-number-smaller c =
    let left = c.loop-number in
    let machines = c.split_round in
    let attrs = c.split_round-in-Some in
    let tasks = c.split_round-in-Some-2 in
    next_fewer c.args.window c.in-Some.number machines.result.0.now machines.result.1.now left.machines.now attrs.result.0.now attrs.result.1.now left.attrs.now tasks.result.0.now tasks.result.1.now left.tasks.now
    (record {
      own_machines = machines.ensures.own;
      own_attrs = attrs.ensures.own;
      own_tasks = tasks.ensures.own;
      later_machines = machines.ensures.later;
      later_attrs = attrs.ensures.later;
      later_tasks = tasks.ensures.later;
    })
    machines.ensures.all attrs.ensures.all tasks.ensures.all
    (next_is c.args.window left.machines.now left.attrs.now left.tasks.now c.in-Some.number c.requires.window left.invariant.order (sym c.next_number.ensures ∙ c.in-Some.is))

pub loop-number-preserved : goal.loop-number-preserved
loop-number-preserved c =
    let left = c.loop-number in
    let before = left.invariant in
    let machines = c.split_round in
    let attrs = c.split_round-in-Some in
    let tasks = c.split_round-in-Some-2 in
    let are : AreCut c.args.window c.in-Some.number machines.result.0.now machines.result.1.now attrs.result.0.now attrs.result.1.now tasks.result.0.now tasks.result.1.now = record {
      own_machines = machines.ensures.own;
      own_attrs = attrs.ensures.own;
      own_tasks = tasks.ensures.own;
      later_machines = machines.ensures.later;
      later_attrs = attrs.ensures.later;
      later_tasks = tasks.ensures.later;
    } in
    let next = next_is c.args.window left.machines.now left.attrs.now left.tasks.now c.in-Some.number c.requires.window before.order (sym c.next_number.ensures ∙ c.in-Some.is) in
    let part : RoundPart = record {
      number = c.in-Some.number;
      from = left.from;
      to = record {
        machines = left.from.machines + length machines.result.0.now;
        attrs = left.from.attrs + length attrs.result.0.now;
        tasks = left.from.tasks + length tasks.result.0.now;
      };
    } in
    let of_machines = next_piece c.args.machines.now machines.result.0.now machines.result.1.now left.machines.now left.from.machines part.to.machines before.within_machines before.machines machines.ensures.all refl in
    let of_attrs = next_piece c.args.attrs.now attrs.result.0.now attrs.result.1.now left.attrs.now left.from.attrs part.to.attrs before.within_attrs before.attrs attrs.ensures.all refl in
    let of_tasks = next_piece c.args.tasks.now tasks.result.0.now tasks.result.1.now left.tasks.now left.from.tasks part.to.tasks before.within_tasks before.tasks tasks.ensures.all refl in
    let have : HavePart c.args.machines.now c.args.attrs.now c.args.tasks.now part = record { of_machines = of_machines.has; of_attrs = of_attrs.has; of_tasks = of_tasks.has } in
    let is : part_round c.args.machines.now c.args.attrs.now c.args.tasks.now part ≡ (let round : Round = record { number = c.in-Some.number; rows = merged machines.result.0.now attrs.result.0.now tasks.result.0.now } in round) =
    rw (of_machines.piece_is, of_attrs.piece_is, of_tasks.piece_is) refl in
    let items : c.push.new.self.items ≡ left.parts.items ++ part ∷ [] = c.in_ok-push.ensures.items in
    record {
      order = record {
        machines_rise = rise_back machine_time machines.result.0.now machines.result.1.now (subst (Rise machine_time) (sym machines.ensures.all) before.order.machines_rise);
        attrs_rise = rise_back attr_time attrs.result.0.now attrs.result.1.now (subst (Rise attr_time) (sym attrs.ensures.all) before.order.attrs_rise);
        tasks_rise = rise_back task_time tasks.result.0.now tasks.result.1.now (subst (Rise task_time) (sym tasks.ensures.all) before.order.tasks_rise);
      };
      machines = of_machines.rest_is;
      attrs = of_attrs.rest_is;
      tasks = of_tasks.rest_is;
      within_machines = of_machines.has.1;
      within_attrs = of_attrs.has.1;
      within_tasks = of_tasks.has.1;
      parts = subst (Each (HavePart c.args.machines.now c.args.attrs.now c.args.tasks.now)) (sym items)
          (each_append (HavePart c.args.machines.now c.args.attrs.now c.args.tasks.now) left.parts.items (part ∷ []) before.parts (have, tt));
      rounds = ap (λ (parts : List RoundPart). map (part_round c.args.machines.now c.args.attrs.now c.args.tasks.now) parts
          ++ gathered c.args.window (merged machines.result.1.now attrs.result.1.now tasks.result.1.now)) items
          ∙ parts_push c.args.window c.in-Some.number (part_round c.args.machines.now c.args.attrs.now c.args.tasks.now) left.parts.items part machines.result.0.now machines.result.1.now left.machines.now
          attrs.result.0.now attrs.result.1.now left.attrs.now tasks.result.0.now tasks.result.1.now left.tasks.now
          (gathered c.args.window (merged c.args.machines.now c.args.attrs.now c.args.tasks.now)) c.requires.window are machines.ensures.all attrs.ensures.all tasks.ensures.all next is before.rounds;
    }

pub returns-clause-rounds : goal.returns-clause-rounds
returns-clause-rounds c =
    let left = c.loop-number in
    let parts : List Round = map (part_round c.args.machines.now c.args.attrs.now c.args.tasks.now) left.parts.items in
    sym (append-nil parts)
    ∙ ap (λ (rows : List Row). parts ++ gathered c.args.window rows) (sym (none_left c.args.window left.machines.now left.attrs.now left.tasks.now (sym c.next_number.ensures ∙ c.in_default.is)))
    ∙ left.invariant.rounds
