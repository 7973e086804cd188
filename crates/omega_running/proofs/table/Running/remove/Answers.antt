use Rattle.std.proofs.Common.{◌≡◌, Some, None, sym, ◌∙◌, arith}
use Rattle.omega_model.specs.Cell.{task_at}
use Rattle.omega_running.specs.declared.orders.Order.TheVariants.{ByKey, ByMachine}
use Rattle.omega_running.specs.Order.{at_place, taken_out}
use Rattle.omega_running.proofs.InOrder.{place_of_key}
use Rattle.omega_running.proofs.Kept.{stands, taken_is, taken_rises, taken_same, without_absent}
use Rattle.omega_running.proofs.Spread.{length-taken}
use Rattle.omega_running.proofs.table.Running.remove.Goals as goal

-- where the key doesn't run nothing was taken out
pub invariant_of-self : goal.invariant_of-self
invariant_of-self c =
    let keys = c.self.inside.by_key.tasks in
    let kept = c.self.invariant in
    let none : task_at keys c.task_of_key.result.key ≡ None = sym (place_of_key c.task_of_key.result keys) ∙ sym (rw kept.key_order at c.in_err-by_key.ensures.out) in
    let taken : taken_out ByKey c.task_of_key.result keys ≡ keys = taken_is c.task_of_key.result keys ∙ without_absent c.task_of_key.result.key keys none in
    let all : c.remove.new.self.tasks ≡ keys = rw kept.key_order at c.remove.ensures.tasks ∙ taken in
    record {
      key_order = c.remove.ensures.order ∙ kept.key_order;
      machine_order = kept.machine_order;
      keys_rise = rw all kept.keys_rise;
      machines_rise = kept.machines_rise;
      same = rw all kept.same;
      planted = rw c.remove.ensures.trees kept.planted;
      counted = rw all kept.counted;
      room = kept.room;
      few = kept.few;
    }

pub unreachable-requires : goal.unreachable-requires
unreachable-requires c =
    let kept = c.self.invariant in
    let t = c.in_ok-by_key.by_key.value.task in
    let s = stands c.task_of_key.result t c.self.inside.by_key.tasks c.self.inside.by_machine.tasks (rw kept.key_order at c.in_ok-by_key.ensures.out) kept.same in
    let none : None ≡ at_place ByMachine t c.self.inside.by_machine.tasks = rw (kept.machine_order, c.deref.ensures) at c.in_default.ensures.out in
    let some = s.too in
    absurd (cc)

pub invariant_of-self-2 : goal.invariant_of-self-2
invariant_of-self-2 c =
    let keys = c.self.inside.by_key.tasks in
    let machines = c.self.inside.by_machine.tasks in
    let kept = c.self.invariant in
    let t = c.in_ok-by_key.by_key.value.task in
    let found : Some t ≡ at_place ByKey c.task_of_key.result keys = rw kept.key_order at c.in_ok-by_key.ensures.out in
    let s = stands c.task_of_key.result t keys machines found kept.same in
    let by_key : c.remove.new.self.tasks ≡ taken_out ByKey t keys = rw kept.key_order at c.remove.ensures.tasks ∙ s.taken in
    let by_machine : c.remove-2.new.self.tasks ≡ taken_out ByMachine t machines = rw (kept.machine_order, c.deref.ensures) at c.remove-2.ensures.tasks in
    let less = length-taken ByKey t keys t kept.keys_rise (place_of_key t keys ∙ s.runs) in
    let planted = kept.planted (omega (arith, less, kept.counted)) in
    record {
      key_order = c.remove.ensures.order ∙ kept.key_order;
      machine_order = c.remove-2.ensures.order ∙ kept.machine_order;
      keys_rise = rw by_key (taken_rises ByKey t keys kept.keys_rise);
      machines_rise = rw by_machine (taken_rises ByMachine t machines kept.machines_rise);
      same = rw (by_key, by_machine) (taken_same t keys machines kept.keys_rise s.runs kept.same);
      planted = λ some. (rw c.remove.ensures.trees planted.0, rw c.remove-2.ensures.trees planted.1);
      counted = rw by_key (omega (arith, less, kept.counted));
      room = omega (arith, less, kept.counted, kept.room);
      few = omega (arith, less, kept.counted, kept.few);
    }
