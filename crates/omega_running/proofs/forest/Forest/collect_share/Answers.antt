use Rattle.std.proofs.Common.{◌≡◌, ◌%◌, ap, ◌∙◌}
use Rattle.std.specs.List.{filter}
use Rattle.omega_running.specs.Forest.{is_at}
use Rattle.omega_running.specs.Order.{in_share, led_by, spread_machine}
use Rattle.omega_running.specs.Tree.{tasks_of}
use Rattle.omega_running.specs.declared.orders.Order.TheVariants.{ByMachine}
use Rattle.omega_running.proofs.Spread.{led_in_tree}
use Rattle.omega_running.proofs.forest.Forest.collect_share.Goals as goal

pub returns-in-Some : goal.returns-in-Some
returns-in-Some c =
    let forest = c.args.self.now in
    let machine = c.args.machine in
    let share = c.args.share in
    let part : tasks_of c.in-Some.tree.now ≡ filter (is_at ByMachine forest.trees (spread_machine machine share % forest.trees)) forest.tasks = rw (c.requires, c.spread_machine.ensures) at c.in-Some.ensures.part in
    let led : filter (in_share share) (led_by ByMachine machine (tasks_of c.in-Some.tree.now)) ≡ filter (in_share share) (led_by ByMachine machine forest.tasks) =
    ap (λ ts. filter (in_share share) (led_by ByMachine machine ts)) part ∙ led_in_tree forest.trees machine share forest.tasks in
    let by : c.self.inside.order ≡ ByMachine = rw (← c.self.view_is) at c.requires in
    rw (← led, ← by) c.collect.ensures
