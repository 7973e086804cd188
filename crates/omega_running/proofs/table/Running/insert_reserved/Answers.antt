use Rattle.std.proofs.Common.{◌≡◌, None, arith, ◌∙◌}
use Rattle.omega_model.specs.Cell.{task_at}
use Rattle.omega_running.specs.declared.orders.Order.TheVariants.{ByKey, ByMachine}
use Rattle.omega_running.specs.Order.{put_in}
use Rattle.omega_running.proofs.Kept.{apart_absent, apart_by_machines, put_is, put_rises, put_rises_too, put_same}
use Rattle.omega_running.proofs.Spread.{length-put}
use Rattle.omega_running.proofs.table.Running.insert_reserved.Goals as goal

pub insert-requires-clause-apart : goal.insert-requires-clause-apart
insert-requires-clause-apart c =
    let absent : task_at c.self.inside.by_key.tasks c.args.task.key ≡ None = rw (← c.self.view_is) at c.requires.absent in
    rw c.self.invariant.key_order (apart_absent c.args.task c.self.inside.by_key.tasks absent)

pub insert-requires-2-clause-apart : goal.insert-requires-2-clause-apart
insert-requires-2-clause-apart c =
    let kept = c.self.invariant in
    let absent : task_at c.self.inside.by_key.tasks c.args.task.key ≡ None = rw (← c.self.view_is) at c.requires.absent in
    rw kept.machine_order (apart_by_machines c.args.task c.self.inside.by_key.tasks c.self.inside.by_machine.tasks absent (kept.same c.args.task.machine))

pub invariant_of-self : goal.invariant_of-self
invariant_of-self c =
    let t = c.args.task in
    let keys = c.self.inside.by_key.tasks in
    let machines = c.self.inside.by_machine.tasks in
    let kept = c.self.invariant in
    let absent : task_at keys t.key ≡ None = rw (← c.self.view_is) at c.requires.absent in
    let by_key : c.insert.new.self.tasks ≡ put_in ByKey t keys = rw kept.key_order at c.insert.ensures.tasks in
    let by_machine : c.insert-2.new.self.tasks ≡ put_in ByMachine t machines = rw kept.machine_order at c.insert-2.ensures.tasks in
    let more = length-put ByKey t keys in
    let planted = kept.planted (omega (arith, c.in-Some.ensures.cases)) in
    record {
      key_order = c.insert.ensures.order ∙ kept.key_order;
      machine_order = c.insert-2.ensures.order ∙ kept.machine_order;
      keys_rise = rw by_key (put_rises t keys absent kept.keys_rise);
      machines_rise = rw by_machine (put_rises_too t keys machines absent (kept.same t.machine) kept.machines_rise);
      same = rw (by_key, by_machine) (put_same t keys machines kept.keys_rise kept.machines_rise kept.same);
      planted = λ some. (rw c.insert.ensures.trees planted.0, rw c.insert-2.ensures.trees planted.1);
      counted = rw by_key (omega (arith, more, kept.counted));
      room = omega (arith, c.in-Some.ensures.cases);
      few = omega (arith, c.in-Some.ensures.cases, kept.few);
    }

pub returns-clause-tasks : goal.returns-clause-tasks
returns-clause-tasks c =
    let keys = c.self.inside.by_key.tasks in
    let absent : task_at keys c.args.task.key ≡ None = rw (← c.self.view_is) at c.requires.absent in
    c.insert.ensures.tasks ∙ rw (c.self.invariant.key_order, ← c.self.view_is) (put_is c.args.task keys absent)
