use Rattle.std.proofs.Common.{◌≡◌, true, false, sym, rules}
use Rattle.omega_running.specs.Order.{IsInOrder, precedes}
use Rattle.omega_running.specs.Tree.{tasks_of}
use Rattle.omega_running.specs.declared.nodes.Tree.{the_lemmas}
use Rattle.omega_running.proofs.AtFork.{at_fork, taken_at_left, taken_at_right, taken_here, place_at_left, place_at_right, place_here}
use Rattle.omega_running.proofs.nodes.Tree.+remove.Goals as goal

pub remove-left-requires : goal.remove-left-requires
remove-left-requires t c =
    let ordered : IsInOrder c.args.order (tasks_of c.take.result) = rw (c.take.ensures.taken, c.deref_mut.ensures.value) (at_fork c.requires.ordered c.in-Fork.is).left in
    search (rules, the_lemmas)

pub returns-then-precedes-clause-rest : goal.returns-then-precedes-clause-rest
returns-then-precedes-clause-rest t c =
    let p : precedes c.args.order c.args.task.now c.in-Fork.node.value.task ≡ true = cc in
    rw (c.settled.ensures.tasks, c.deref_mut-then-precedes.ensures.value, c.remove-left.ensures.rest, c.take.ensures.taken, c.deref_mut.ensures.value)
    (sym (taken_at_left c.args.task.now (at_fork c.requires.ordered c.in-Fork.is) p))

pub returns-then-precedes-clause-out : goal.returns-then-precedes-clause-out
returns-then-precedes-clause-out t c =
    let p : precedes c.args.order c.args.task.now c.in-Fork.node.value.task ≡ true = cc in
    rw (c.remove-left.ensures.out, c.take.ensures.taken, c.deref_mut.ensures.value) (sym (place_at_left c.args.task.now (at_fork c.requires.ordered c.in-Fork.is) p))

pub remove-right-requires : goal.remove-right-requires
remove-right-requires t c =
    let ordered : IsInOrder c.args.order (tasks_of c.take-then-precedes-2.result) = rw (c.take-then-precedes-2.ensures.taken, c.deref_mut-then-precedes-2.ensures.value) (at_fork c.requires.ordered c.in-Fork.is).right in
    search (rules, the_lemmas)

pub returns-then-precedes-2-clause-rest : goal.returns-then-precedes-2-clause-rest
returns-then-precedes-2-clause-rest t c =
    let p : precedes c.args.order c.in-Fork.node.value.task c.args.task.now ≡ true = cc in
    rw (c.settled-then-precedes-2.ensures.tasks, c.deref_mut-then-precedes-2-2.ensures.value, c.remove-right.ensures.rest, c.take-then-precedes-2.ensures.taken, c.deref_mut-then-precedes-2.ensures.value)
    (sym (taken_at_right c.args.task.now (at_fork c.requires.ordered c.in-Fork.is) p))

pub returns-then-precedes-2-clause-out : goal.returns-then-precedes-2-clause-out
returns-then-precedes-2-clause-out t c =
    let p : precedes c.args.order c.in-Fork.node.value.task c.args.task.now ≡ true = cc in
    rw (c.remove-right.ensures.out, c.take-then-precedes-2.ensures.taken, c.deref_mut-then-precedes-2.ensures.value)
    (sym (place_at_right c.args.task.now (at_fork c.requires.ordered c.in-Fork.is) p))

pub returns-clause-rest : goal.returns-clause-rest
returns-clause-rest t c =
    let p : precedes c.args.order c.args.task.now c.in-Fork.node.value.task ≡ false = cc in
    let q : precedes c.args.order c.in-Fork.node.value.task c.args.task.now ≡ false = cc in
    rw (c.joined.ensures.tasks, c.take-left.ensures.taken, c.take-right.ensures.taken, c.deref_mut-3.ensures.value, c.deref_mut-2.ensures.value)
    (sym (taken_here c.args.task.now (at_fork c.requires.ordered c.in-Fork.is) p q))

pub returns-clause-out : goal.returns-clause-out
returns-clause-out t c =
    let p : precedes c.args.order c.args.task.now c.in-Fork.node.value.task ≡ false = cc in
    let q : precedes c.args.order c.in-Fork.node.value.task c.args.task.now ≡ false = cc in
    rw (c.deref_mut-3.ensures.value, c.deref_mut-2.ensures.value) (sym (place_here c.args.task.now (at_fork c.requires.ordered c.in-Fork.is) p q))
