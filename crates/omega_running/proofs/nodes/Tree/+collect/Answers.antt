use Rattle.std.proofs.Common.{◌≡◌, ◌<◌, rules}
use Rattle.omega_running.specs.Order.{IsInOrder, lead}
use Rattle.omega_running.specs.Tree.{tasks_of}
use Rattle.omega_running.specs.declared.nodes.Tree.{the_lemmas}
use Rattle.omega_running.proofs.AtFork.{at_fork, led_at_left, led_at_right}
use Rattle.omega_running.proofs.nodes.Tree.+collect.Goals as goal

pub collect-requires : goal.collect-requires
collect-requires t c =
    let ordered : IsInOrder c.args.order (tasks_of c.deref-then-here-number.result.now.right) = rw c.deref-then-here-number.ensures (at_fork c.requires c.in-Fork.is).right in
    search (rules, the_lemmas)

pub returns-then-here-number : goal.returns-then-here-number
returns-then-here-number t c =
    let f = at_fork c.requires c.in-Fork.is in
    let here : c.lead-here.result ≡ lead c.args.order c.in-Fork.node.value.task = rw c.deref.ensures at c.lead-here.ensures in
    let p : lead c.args.order c.in-Fork.node.value.task < c.args.number = rw here at c.if-here-number.true in
    rw (led_at_right c.args.number f p, ← c.deref-then-here-number.ensures) c.collect.ensures

pub collect-requires-then-number-here : goal.collect-requires-then-number-here
collect-requires-then-number-here t c =
    let ordered : IsInOrder c.args.order (tasks_of c.deref-then-number-here.result.now.left) = rw c.deref-then-number-here.ensures (at_fork c.requires c.in-Fork.is).left in
    search (rules, the_lemmas)

pub returns-then-number-here : goal.returns-then-number-here
returns-then-number-here t c =
    let f = at_fork c.requires c.in-Fork.is in
    let here : c.lead-here.result ≡ lead c.args.order c.in-Fork.node.value.task = rw c.deref.ensures at c.lead-here.ensures in
    let p : c.args.number < lead c.args.order c.in-Fork.node.value.task = rw here at c.if-number-here.true in
    rw (led_at_left c.args.number f p, ← c.deref-then-number-here.ensures) c.collect-then-number-here.ensures

pub collect-requires-2 : goal.collect-requires-2
collect-requires-2 t c =
    let ordered : IsInOrder c.args.order (tasks_of c.deref-2.result.now.left) = rw c.deref-2.ensures (at_fork c.requires c.in-Fork.is).left in
    search (rules, the_lemmas)

pub collect-requires-3 : goal.collect-requires-3
collect-requires-3 t c =
    let ordered : IsInOrder c.args.order (tasks_of c.deref-4.result.now.right) = rw c.deref-4.ensures (at_fork c.requires c.in-Fork.is).right in
    search (rules, the_lemmas)
