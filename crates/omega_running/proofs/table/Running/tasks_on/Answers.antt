use Rattle.std.proofs.Common.{◌+◌, get_or, sym, ◌∙◌, rules}
use Rattle.std.specs.List.{filter}
use Rattle.std.specs.List.Sorted.{IsPermutation, IsSortedBy}
use Rattle.std.proofs.lemmas.List.Sorted.{IsPermutation-trans, answers_always}
use Rattle.omega_model.specs.Cell.{is_on}
use Rattle.omega_model.specs.declared.cells.Task.{Task}
use Rattle.omega_running.specs.declared.orders.Order.TheVariants.{ByKey}
use Rattle.omega_running.specs.Order.{IsInOrder, precedes}
use Rattle.omega_running.proofs.Kept.{rises_filter}
use Rattle.omega_running.proofs.Ranked.{by_key_is, goes_by_key}
use Rattle.omega_running.proofs.table.Running.tasks_on.Goals as goal

pub returns : goal.returns
returns c =
    let keys = c.self.inside.by_key.tasks in
    let found = c.collect.new.found.items in
    let ys = c.sort_unstable_by_key.new.self.items in
    let here : IsPermutation (filter (is_on c.args.machine) keys) found = rw (c.new-found.ensures.items, c.self.invariant.same c.args.machine) at c.in_ok-collect.ensures in
    let moved = IsPermutation-trans (filter (is_on c.args.machine) keys) found ys here c.sort_unstable_by_key.ensures.permutation in
    let rises : IsInOrder ByKey (filter (is_on c.args.machine) keys) = rises_filter (precedes ByKey) (is_on c.args.machine) keys c.self.invariant.keys_rise in
    let sorted = c.sort_unstable_by_key.ensures.sorted (λ (t : Task). (t.key.job, t.key.index)) (answers_always _ _ _ (λ f a r f' q. search rules)) in
    let up : IsSortedBy (precedes ByKey) ys = λ k d l h. sym (goes_by_key (get_or ys (k + 1) d) (get_or ys k d)) ∙ sorted k d l h in
    rw (← c.self.view_is) (c.of.ensures ∙ sym (by_key_is (filter (is_on c.args.machine) keys) ys rises moved up))
