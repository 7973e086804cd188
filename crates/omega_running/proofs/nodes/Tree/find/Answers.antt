use Rattle.std.proofs.Common.{◌≡◌, true, false, None, refl, sym, ◌∙◌, rules}
use Rattle.omega_model.specs.Cell.{task_at}
use Rattle.omega_model.specs.Keys.{key_lt}
use Rattle.omega_running.specs.declared.orders.Order.TheVariants.{ByKey}
use Rattle.omega_running.specs.Tree.{tasks_of}
use Rattle.omega_running.specs.declared.nodes.Tree.{the_lemmas}
use Rattle.omega_running.proofs.AtFork.{at_fork, found_at_left, found_at_right, found_here}
use Rattle.omega_running.proofs.nodes.Tree.find.Goals as goal

pub down-init : goal.down-init
down-init c = (c.requires, refl)

pub down-preserved-then-key_lt : goal.down-preserved-then-key_lt
down-preserved-then-key_lt c =
    let f = at_fork {order = ByKey} c.down.invariant.0 c.in-Fork.is in
    let p : key_lt c.args.key c.in-Fork.node.value.task.key ≡ true = rw c.deref.ensures at (sym c.key_lt.ensures ∙ c.if-key_lt.true) in
    rw c.deref-then-key_lt.ensures (f.left, sym (found_at_left c.args.key f p) ∙ c.down.invariant.1)

pub down-preserved : goal.down-preserved
down-preserved c =
    let f = at_fork {order = ByKey} c.down.invariant.0 c.in-Fork.is in
    let p : key_lt c.in-Fork.node.value.task.key c.args.key ≡ true = rw c.deref-else-key_lt.ensures at (sym c.key_lt-else-key_lt.ensures ∙ c.if-key_lt-2.true) in
    rw c.deref-then-key_lt-2.ensures (f.right, sym (found_at_right c.args.key f p) ∙ c.down.invariant.1)

pub returns-else-key_lt-2 : goal.returns-else-key_lt-2
returns-else-key_lt-2 c =
    let f = at_fork {order = ByKey} c.down.invariant.0 c.in-Fork.is in
    let p : key_lt c.args.key c.in-Fork.node.value.task.key ≡ false = rw c.deref.ensures at (sym c.key_lt.ensures ∙ c.if-key_lt.false) in
    let q : key_lt c.in-Fork.node.value.task.key c.args.key ≡ false = rw c.deref-else-key_lt.ensures at (sym c.key_lt-else-key_lt.ensures ∙ c.if-key_lt-2.false) in
    rw c.deref-else-key_lt-2.ensures (sym (found_here c.args.key f p q) ∙ c.down.invariant.1)

pub returns : goal.returns
returns c =
    let none : task_at (tasks_of c.down.tree.now) c.args.key ≡ None = search (rules, the_lemmas) in
    sym none ∙ c.down.invariant.1
