use Rattle.std.proofs.Common.{◌≡◌, true, false, sym, rules}
use Rattle.omega_running.specs.Order.{IsInOrder, precedes}
use Rattle.omega_running.specs.Tree.{tasks_of}
use Rattle.omega_running.specs.declared.nodes.Tree.{the_lemmas}
use Rattle.omega_running.proofs.AtFork.{at_fork, put_at_left, put_at_right}
use Rattle.omega_running.proofs.nodes.Tree.+put.Goals as goal

pub put-requires : goal.put-requires
put-requires t c =
    let ordered : IsInOrder c.args.order (tasks_of c.take.result) = rw (c.take.ensures.taken, c.deref_mut-then-precedes.ensures.value) (at_fork c.requires.ordered c.in-Fork.is).left in
    search (rules, the_lemmas)

pub put-requires-in-Fork : goal.put-requires-in-Fork
put-requires-in-Fork t c =
    let ordered : IsInOrder c.args.order (tasks_of c.take-in-Fork.result) = rw (c.take-in-Fork.ensures.taken, c.deref_mut-in-Fork.ensures.value) (at_fork c.requires.ordered c.in-Fork.is).right in
    search (rules, the_lemmas)

pub returns-then-precedes-clause-tasks : goal.returns-then-precedes-clause-tasks
returns-then-precedes-clause-tasks t c =
    let p : precedes c.args.order c.args.room.value.task c.in-Fork.node.value.task ≡ true = cc in
    rw (c.settled.ensures.tasks, c.deref_mut-then-precedes-2.ensures.value, c.put.ensures.tasks, c.take.ensures.taken, c.deref_mut-then-precedes.ensures.value)
    (sym (put_at_left c.args.room.value.task (at_fork c.requires.ordered c.in-Fork.is) p))

pub returns-else-precedes-clause-tasks : goal.returns-else-precedes-clause-tasks
returns-else-precedes-clause-tasks t c =
    let p : precedes c.args.order c.args.room.value.task c.in-Fork.node.value.task ≡ false = cc in
    rw (c.settled-in-Fork.ensures.tasks, c.deref_mut-in-Fork-2.ensures.value, c.put-in-Fork.ensures.tasks, c.take-in-Fork.ensures.taken, c.deref_mut-in-Fork.ensures.value)
    (sym (put_at_right c.args.room.value.task (at_fork c.requires.ordered c.in-Fork.is) p))
