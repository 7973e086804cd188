use Rattle.std.proofs.Common.{◌≡◌, ◌%◌, ap, ◌∙◌}
use Rattle.std.specs.List.{filter}
use Rattle.omega_running.specs.declared.orders.Order.TheVariants.{ByMachine}
use Rattle.omega_running.specs.Forest.{is_at}
use Rattle.omega_running.specs.Order.{spread_machine}
use Rattle.omega_running.specs.Others.{other_in_share}
use Rattle.omega_running.specs.Tree.{tasks_of}
use Rattle.omega_running.proofs.Others.{other_in_tree}
use Rattle.omega_running.proofs.forest.Forest.other_in_share.Goals as goal

pub returns : goal.returns
returns c =
    let now = c.args.self.now in
    let part : tasks_of c.in_ok-tree.field-0.now ≡ filter (is_at ByMachine now.trees (spread_machine c.args.machine c.args.share % now.trees)) now.tasks = rw (c.requires, c.spread_machine.ensures) at c.in_ok-tree.ensures.part in
    c.other_of_job.ensures ∙ ap (λ tasks. other_in_share c.args.share tasks c.args.job c.args.machine c.args.gone.now) part ∙ other_in_tree now.trees c.args.share c.args.job c.args.machine c.args.gone.now now.tasks
