use Rattle.std.proofs.Common.{◌≡◌, Bool, List, not, sym, ap, subst, ◌∙◌, rules}
use Rattle.std.specs.List.{filter}
use Rattle.std.specs.List.Sorted.{IsPermutation}
use Rattle.std.proofs.lemmas.Fn.{filter_same}
use Rattle.omega_model.specs.Cell.{by_rank, goes_before, total}
use Rattle.omega_model.specs.Need.{minus}
use Rattle.omega_model.specs.declared.cells.Need.{Need}
use Rattle.omega_model.specs.declared.cells.Task.{Task}
use Rattle.omega_running.specs.declared.orders.Order.TheVariants.{ByKey}
use Rattle.omega_running.specs.Order.{precedes}
use Rattle.omega_running.proofs.Kept.{rises_filter}
use Rattle.omega_plan.specs.Leaving.{GoFirst}
use Rattle.omega_plan.proofs.Moved.{filter_moved, total_moved}
use Rattle.omega_plan.proofs.Nearest.{go_first_of_all}
use Rattle.omega_plan.proofs.evicting.+first_to_go.Goals as goal

-- what is left by those that come behind a task, wherever they stand
left_late : (other : Task) (left less : Need) (own moved : List Task) → IsPermutation own moved → less ≡ minus left (total (filter (goes_before other) moved)) → less ≡ minus left (total (filter (goes_before other) own))
left_late other left less own moved places is = is ∙ ap (minus left) (sym (total_moved _ _ (filter_moved (goes_before other) own moved places)))

pub returns-then-len-count : goal.returns-then-len-count
returns-then-len-count t c = λ own rises places.
    let other = c.index.result.now in
    let tasks = c.args.tasks.items in
    let stands : Task → Bool = λ task. not (goes_before other task) in
    let gone = c.first_sorted-then-len-count.result.items in
    let less = left_late other c.args.left c.left_behind-less.result own tasks places (c.left_behind-less.ensures ∙ ap (λ (ts : List Task). minus c.args.left (total (filter (goes_before other) ts))) c.deref.ensures.value) in
    let kept : c.retain.new.self.items ≡ filter stands tasks = filter_same _ stands _ (λ task b f k. search rules) _ _ c.retain.ensures.filtered in
    let some : IsPermutation (filter stands own) c.retain.new.self.items = subst (IsPermutation (filter stands own)) (sym kept) (filter_moved stands own tasks places) in
    go_first_of_all c.args.need c.args.left other own gone
    (subst (λ (n : Need). GoFirst c.args.need n (by_rank (filter stands own)) gone) less
    (c.first_sorted-then-len-count.ensures (filter stands own) (rises_filter (precedes ByKey) stands own rises) some))

pub returns : goal.returns
returns t c = λ own rises places.
    let other = c.index.result.now in
    let tasks = c.args.tasks.items in
    let stands : Task → Bool = λ task. not (goes_before other task) in
    let gone = c.first_to_go.result.items in
    let less = left_late other c.args.left c.left_behind-less.result own tasks places (c.left_behind-less.ensures ∙ ap (λ (ts : List Task). minus c.args.left (total (filter (goes_before other) ts))) c.deref.ensures.value) in
    let kept : c.retain.new.self.items ≡ filter stands tasks = filter_same _ stands _ (λ task b f k. search rules) _ _ c.retain.ensures.filtered in
    let some : IsPermutation (filter stands own) c.retain.new.self.items = subst (IsPermutation (filter stands own)) (sym kept) (filter_moved stands own tasks places) in
    go_first_of_all c.args.need c.args.left other own gone
    (subst (λ (n : Need). GoFirst c.args.need n (by_rank (filter stands own)) gone) less
    (c.first_to_go.ensures (filter stands own) (rises_filter (precedes ByKey) stands own rises) some))
