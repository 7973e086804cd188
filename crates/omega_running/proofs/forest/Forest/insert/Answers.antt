use Rattle.std.proofs.Common.{◌≡◌, ◌<◌, ◌%◌, true, length, map, set}
use Rattle.omega_running.specs.Forest.{gathered}
use Rattle.omega_running.specs.Order.{is_apart, put_in, spread}
use Rattle.std.specs.List.{AllByRecursion as Each}
use Rattle.omega_running.specs.Tree.{tasks_of}
use Rattle.omega_running.proofs.Spread.{AreNow, one_tree, put_at}
use Rattle.omega_running.proofs.forest.Forest.insert.Goals as goal

pub insert-requires : goal.insert-requires
insert-requires c =
    let less : c.in-Some.place < length c.self.inside.trees.items = rw (← c.self.view_is) at c.in-Some.ensures.within in
    let tree = one_tree c.self.inside.order c.self.inside.trees.items c.in-Some.place c.index_mut-tree.result.now c.self.invariant less c.index_mut-tree.ensures.value in
    rw c.take.ensures.taken (record { ordered = tree.0; tallied = tree.1 })

put : (c : goal.Joined-tree-insert) → AreNow c.self.inside.order (set c.self.inside.trees.items c.in-Some.place c.insert.result) (put_in c.self.inside.order c.args.task (gathered c.self.inside.order (map tasks_of c.self.inside.trees.items)))
put c =
    let order = c.self.inside.order in
    let trees = c.self.inside.trees.items in
    let less : c.in-Some.place < length trees = rw (← c.self.view_is) at c.in-Some.ensures.within in
    let named : c.in-Some.place ≡ spread order c.args.task % length trees = rw (← c.self.view_is, c.spread.ensures) at c.in-Some.ensures.place in
    let apart : Each (λ y. is_apart order c.args.task y ≡ true) (gathered order (map tasks_of trees)) = rw (← c.self.view_is) at c.requires.apart in
    let new : tasks_of c.insert.result ≡ put_in order c.args.task (tasks_of c.index_mut-tree.result.now) = rw c.take.ensures.taken at c.insert.ensures.tasks in
    put_at order trees c.in-Some.place c.args.task c.index_mut-tree.result.now c.insert.result named less c.self.invariant apart c.index_mut-tree.ensures.value new c.insert.ensures.tallied

pub invariant_of-self : goal.invariant_of-self
invariant_of-self c = (put c).trees

pub returns-clause-tasks : goal.returns-clause-tasks
returns-clause-tasks c = rw (← c.self.view_is) (put c).is
