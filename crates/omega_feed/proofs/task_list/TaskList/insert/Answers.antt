use Rattle.std.proofs.Common.{◌≡◌, ◌+◌, ◌∙◌, ℕ, ap, arith, cond, length, subst, sym}
use Rattle.omega_model.specs.ExtraTasks.{HasLowIndex}
use Rattle.omega_model.specs.Wanted.{with_wanted}
use Rattle.std.specs.List.{AllByRecursion as Each}
use Rattle.omega_model.proofs.Lists.{all_of_each}
use Rattle.omega_feed.specs.Slots.{tasks_in}
use Rattle.omega_feed.proofs.Slots.{low_with, no_more}
use Rattle.omega_feed.proofs.task_list.TaskList.insert.Goals as goal

pub overflow_add-self : goal.overflow_add-self
overflow_add-self c =
    let grown : length (tasks_in c.fill.new.slots.items) ≡ c.self.inside.count + 1 =
    c.fill.ensures.count ∙ (λ i. length (c.place_for.ensures.same i) + cond (c.if-fill.true i) 1 0) ∙ ap (λ (n : ℕ). n + 1) (sym c.self.invariant.counted) in
    let fewer = no_more c.fill.new.slots.items in
    let small = c.fill.new.slots.small in
    let known = c.fill.new.slots.ok.0 in
    omega (arith, grown, fewer, small, known)

pub invariant_of-self-then-fill : goal.invariant_of-self-then-fill
invariant_of-self-then-fill c =
    let grown : length (tasks_in c.fill.new.slots.items) ≡ c.self.inside.count + 1 =
    c.fill.ensures.count ∙ (λ i. length (c.place_for.ensures.same i) + cond (c.if-fill.true i) 1 0) ∙ ap (λ (n : ℕ). n + 1) (sym c.self.invariant.counted) in
    record {
      rise = c.fill.ensures.rise;
      low = subst (Each HasLowIndex) (sym (c.fill.ensures.tasks ∙ ap (with_wanted c.args.key c.args.spec) c.place_for.ensures.same)) (low_with c.args.key c.args.spec (tasks_in c.self.inside.slots.items) c.requires c.self.invariant.low);
      blocks = c.fill.ensures.counted;
      counted = sym grown;
    }

pub invariant_of-self-else-fill : goal.invariant_of-self-else-fill
invariant_of-self-else-fill c =
    let same : length (tasks_in c.fill.new.slots.items) ≡ c.self.inside.count + 0 =
    c.fill.ensures.count ∙ (λ i. length (c.place_for.ensures.same i) + cond (c.if-fill.false i) 1 0) ∙ ap (λ (n : ℕ). n + 0) (sym c.self.invariant.counted) in
    record {
      rise = c.fill.ensures.rise;
      low = subst (Each HasLowIndex) (sym (c.fill.ensures.tasks ∙ ap (with_wanted c.args.key c.args.spec) c.place_for.ensures.same)) (low_with c.args.key c.args.spec (tasks_in c.self.inside.slots.items) c.requires c.self.invariant.low);
      blocks = c.fill.ensures.counted;
      counted = omega (arith, same);
    }

pub returns-then-fill-clause-low : goal.returns-then-fill-clause-low
returns-then-fill-clause-low c =
    all_of_each HasLowIndex (tasks_in c.fill.new.slots.items)
    (subst (Each HasLowIndex) (sym (c.fill.ensures.tasks ∙ ap (with_wanted c.args.key c.args.spec) c.place_for.ensures.same)) (low_with c.args.key c.args.spec (tasks_in c.self.inside.slots.items) c.requires c.self.invariant.low))

pub returns-else-fill-clause-low : goal.returns-else-fill-clause-low
returns-else-fill-clause-low c =
    all_of_each HasLowIndex (tasks_in c.fill.new.slots.items)
    (subst (Each HasLowIndex) (sym (c.fill.ensures.tasks ∙ ap (with_wanted c.args.key c.args.spec) c.place_for.ensures.same)) (low_with c.args.key c.args.spec (tasks_in c.self.inside.slots.items) c.requires c.self.invariant.low))
