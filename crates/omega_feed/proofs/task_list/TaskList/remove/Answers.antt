use Rattle.std.proofs.Common.{◌≡◌, ◌+◌, ◌∙◌, arith, cond, length, not, subst, sym}
use Rattle.omega_model.specs.ExtraTasks.{HasLowIndex}
use Rattle.omega_model.specs.Wanted.{is_named}
use Rattle.std.specs.List.{AllByRecursion as Each}
use Rattle.omega_model.proofs.Lists.{each_filter, all_of_each}
use Rattle.omega_feed.specs.Slots.{tasks_in}
use Rattle.omega_feed.proofs.task_list.TaskList.remove.Goals as goal

pub invariant_of-self : goal.invariant_of-self
invariant_of-self c =
    let fewer : length (tasks_in c.clear.new.slots.items) + 1 ≡ c.self.inside.count =
    (λ i. length (tasks_in c.clear.new.slots.items) + cond (sym c.if-clear.true i) 1 0) ∙ c.clear.ensures.count ∙ sym c.self.invariant.counted in
    record {
      rise = c.clear.ensures.rise;
      low = subst (Each HasLowIndex) (sym c.clear.ensures.tasks) (each_filter HasLowIndex (λ task. not (is_named c.args.key task)) (tasks_in c.self.inside.slots.items) c.self.invariant.low);
      blocks = c.clear.ensures.counted;
      counted = omega (arith, fewer);
    }

pub invariant_of-self-else-clear : goal.invariant_of-self-else-clear
invariant_of-self-else-clear c =
    let same : length (tasks_in c.clear.new.slots.items) + 0 ≡ c.self.inside.count =
    (λ i. length (tasks_in c.clear.new.slots.items) + cond (sym c.if-clear.false i) 1 0) ∙ c.clear.ensures.count ∙ sym c.self.invariant.counted in
    record {
      rise = c.clear.ensures.rise;
      low = subst (Each HasLowIndex) (sym c.clear.ensures.tasks) (each_filter HasLowIndex (λ task. not (is_named c.args.key task)) (tasks_in c.self.inside.slots.items) c.self.invariant.low);
      blocks = c.clear.ensures.counted;
      counted = omega (arith, same);
    }

pub returns-then-clear-clause-low : goal.returns-then-clear-clause-low
returns-then-clear-clause-low c =
    all_of_each HasLowIndex (tasks_in c.clear.new.slots.items)
    (subst (Each HasLowIndex) (sym c.clear.ensures.tasks) (each_filter HasLowIndex (λ task. not (is_named c.args.key task)) (tasks_in c.self.inside.slots.items) c.self.invariant.low))

pub returns-else-clear-clause-low : goal.returns-else-clear-clause-low
returns-else-clear-clause-low c =
    all_of_each HasLowIndex (tasks_in c.clear.new.slots.items)
    (subst (Each HasLowIndex) (sym c.clear.ensures.tasks) (each_filter HasLowIndex (λ task. not (is_named c.args.key task)) (tasks_in c.self.inside.slots.items) c.self.invariant.low))
