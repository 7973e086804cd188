use Rattle.std.proofs.Common.{◌≡◌, ◌%◌, ap, ◌∙◌}
use Rattle.std.specs.List.{filter}
use Rattle.omega_model.specs.Cell.{task_at}
use Rattle.omega_running.specs.declared.orders.Order.TheVariants.{ByKey}
use Rattle.omega_running.specs.Forest.{is_at}
use Rattle.omega_running.specs.Order.{spread_key}
use Rattle.omega_running.specs.Tree.{tasks_of}
use Rattle.omega_running.proofs.Spread.{found_in_tree}
use Rattle.omega_running.proofs.forest.Forest.find.Goals as goal

pub returns : goal.returns
returns c =
    let now = c.args.self.now in
    let part : tasks_of c.in_ok-tree.field-0.now ≡ filter (is_at ByKey now.trees (spread_key c.args.key % now.trees)) now.tasks = rw (c.requires, c.spread_key.ensures) at c.in_ok-tree.ensures.part in
    c.find.ensures ∙ ap (λ tasks. task_at tasks c.args.key) part ∙ found_in_tree now.trees c.args.key now.tasks
