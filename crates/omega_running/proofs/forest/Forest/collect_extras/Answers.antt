use Rattle.std.proofs.Common.{◌≡◌, ◌%◌, ap, ◌∙◌}
use Rattle.std.specs.List.{filter}
use Rattle.omega_model.specs.ExtraTasks.{is_extra_of}
use Rattle.omega_running.specs.Forest.{is_at}
use Rattle.omega_running.specs.Order.{is_extra, led_by}
use Rattle.omega_running.specs.Tree.{tasks_of}
use Rattle.omega_running.specs.declared.orders.Order.TheVariants.{ByKey}
use Rattle.omega_running.proofs.Spread.{extras_here, extras_led}
use Rattle.omega_running.proofs.forest.Forest.collect_extras.Goals as goal

pub returns-in-Some : goal.returns-in-Some
returns-in-Some c =
    let forest = c.args.self.now in
    let job = c.args.job in
    let part : tasks_of c.in-Some.tree.now ≡ filter (is_at ByKey forest.trees (job % forest.trees)) forest.tasks = rw c.requires at c.in-Some.ensures.part in
    let led : filter is_extra (led_by ByKey job (tasks_of c.in-Some.tree.now)) ≡ filter (is_extra_of job) forest.tasks =
    extras_led job (tasks_of c.in-Some.tree.now) ∙ ap (filter (is_extra_of job)) part ∙ extras_here forest.trees job forest.tasks in
    let by : c.self.inside.order ≡ ByKey = rw (← c.self.view_is) at c.requires in
    rw (← led, ← by) c.collect.ensures
