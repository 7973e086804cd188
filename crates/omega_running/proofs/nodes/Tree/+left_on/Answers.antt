use Rattle.std.proofs.Common.{◌≡◌, ◌<◌, ◌≤◌, ap, sym, ◌∙◌, rules, arith}
use Rattle.omega_model.specs.Need.{minus}
use Rattle.omega_running.specs.declared.orders.Order.TheVariants.{ByMachine}
use Rattle.omega_running.specs.declared.nodes.Node.{Node}
use Rattle.omega_running.specs.Staying.{staying_of_share}
use Rattle.omega_running.specs.Order.{IsInOrder}
use Rattle.omega_running.specs.Tree.{tasks_of}
use Rattle.omega_running.specs.declared.nodes.Tree.{the_lemmas}
use Rattle.omega_running.proofs.AtFork.{at_fork}
use Rattle.omega_running.proofs.Staying.{beside, staying_at_left, staying_at_right, left_here}
use Rattle.omega_running.proofs.nodes.Tree.+left_on.Goals as goal

pub left_on-requires : goal.left_on-requires
left_on-requires t c =
    let ordered : IsInOrder ByMachine (tasks_of c.deref-then-here-machine.result.now.right) = rw c.deref-then-here-machine.ensures (at_fork {order = ByMachine} c.requires c.in-Fork.is).right in
    search (rules, the_lemmas)

pub returns-then-here-machine : goal.returns-then-here-machine
returns-then-here-machine t c =
    let f = at_fork {order = ByMachine} c.requires c.in-Fork.is in
    let p : c.in-Fork.node.value.task.machine < c.args.machine = rw c.deref.ensures at c.if-here-machine.true in
    c.left_on.ensures
    ∙ ap (λ (node : Node). minus c.args.amount (staying_of_share c.args.prec (tasks_of node.right) c.args.machine c.args.share)) c.deref-then-here-machine.ensures
    ∙ ap (minus c.args.amount) (sym (staying_at_right c.args.prec c.args.share c.args.machine f p))

pub left_on-requires-then-machine-here : goal.left_on-requires-then-machine-here
left_on-requires-then-machine-here t c =
    let ordered : IsInOrder ByMachine (tasks_of c.deref-then-machine-here.result.now.left) = rw c.deref-then-machine-here.ensures (at_fork {order = ByMachine} c.requires c.in-Fork.is).left in
    search (rules, the_lemmas)

pub returns-then-machine-here : goal.returns-then-machine-here
returns-then-machine-here t c =
    let f = at_fork {order = ByMachine} c.requires c.in-Fork.is in
    let p : c.args.machine < c.in-Fork.node.value.task.machine = rw c.deref.ensures at c.if-machine-here.true in
    c.left_on-then-machine-here.ensures
    ∙ ap (λ (node : Node). minus c.args.amount (staying_of_share c.args.prec (tasks_of node.left) c.args.machine c.args.share)) c.deref-then-machine-here.ensures
    ∙ ap (minus c.args.amount) (sym (staying_at_left c.args.prec c.args.share c.args.machine f p))

pub left_on-before-requires : goal.left_on-before-requires
left_on-before-requires t c =
    let ordered : IsInOrder ByMachine (tasks_of c.deref-2.result.now.left) = rw c.deref-2.ensures (at_fork {order = ByMachine} c.requires c.in-Fork.is).left in
    search (rules, the_lemmas)

pub left_on-requires-2 : goal.left_on-requires-2
left_on-requires-2 t c =
    let ordered : IsInOrder ByMachine (tasks_of c.deref-4.result.now.right) = rw c.deref-4.ensures (at_fork {order = ByMachine} c.requires c.in-Fork.is).right in
    search (rules, the_lemmas)

pub returns : goal.returns
returns t c =
    let f = at_fork {order = ByMachine} c.requires c.in-Fork.is in
    let amount = c.args.amount in
    let prec = c.args.prec in
    let share = c.args.share in
    let machine = c.args.machine in
    let node = c.in-Fork.node.value in
    let over : node.task.machine ≤ machine = rw c.deref.ensures at c.if-machine-here.false in
    let under : machine ≤ node.task.machine = rw c.deref.ensures at c.if-here-machine.false in
    let here : node.task.machine ≡ machine = omega (arith, over, under) in
    let before : c.left_on-before.result ≡ minus amount (staying_of_share prec (tasks_of node.left) machine share) =
    c.left_on-before.ensures ∙ ap (λ (n : Node). minus amount (staying_of_share prec (tasks_of n.left) machine share)) c.deref-2.ensures in
    let own : c.left_beside-beside.result ≡ beside prec share node.task (minus amount (staying_of_share prec (tasks_of node.left) machine share)) =
    c.left_beside-beside.ensures
    ∙ ap (λ (n : Node). beside prec share n.task c.left_on-before.result) c.deref-3.ensures
    ∙ ap (beside prec share node.task) before in
    c.left_on-2.ensures
    ∙ ap (λ (n : Node). minus c.left_beside-beside.result (staying_of_share prec (tasks_of n.right) machine share)) c.deref-4.ensures
    ∙ ap (λ a. minus a (staying_of_share prec (tasks_of node.right) machine share)) own
    ∙ sym (left_here prec share machine amount f here)
